-- What an asking knows of the junctions, as a stage. Assumes nothing.
use Rattle.std.specs.Prelude.{◌≡◌, ℕ, Bool, true, false, List, ◌<◌, length, is_some, Some, None, Option, slice_index_or}
use Rattle.std.specs.Option.{option_map}
use Rattle.network.specs.Estimates.{Estimate}
use Rattle.network.specs.Model.{Roads}
use Rattle.queue.specs.declared.key.Key.{Key}
use Rattle.queue.specs.Queues.{capacity, waiting}
use Rattle.soonest.specs.Guidance.{Guidance}
use Rattle.soonest.specs.Stages.{Stage}
use Rattle.soonest.specs.Ways.{way_in}
use Rattle.finder.specs.declared.labels.Labels.{Labels}
use Rattle.finder.specs.declared.marks.Mark.{Mark}

-- a guide by its answers
abbrev pub guidance : Roads → Estimate → Guidance
guidance roads estimate = record { roads = roads; estimate = estimate }

-- what is noted of a junction; past the list's end nothing is
abbrev pub mark_in : {R : Type 0} → List (Mark R) → ℕ → Mark R
mark_in marks v = slice_index_or marks v (record { reading = None; sited = false })

-- the height of a junction's reading
unfoldable pub reading_in : {R : Type 0} → (R → ℕ) → List (Mark R) → ℕ → Option ℕ
reading_in height marks v = option_map height (mark_in marks v).reading

-- the height of a junction's key
unfoldable pub key_in : (ℕ → Option Key) → ℕ → Option ℕ
key_in waits v = option_map (λ k. k.height) (waits v)

module _ {R : Type 0} where
  -- the stage that labels and ways show, beside what is wanted, listed and counted
  abbrev pub stage_of : (R → ℕ) → Labels R → (ways : List ℕ) → (wanted : ℕ → Bool) → (listed : List (ℕ × ℕ)) → (steps : ℕ) → Stage
  stage_of height l ways wanted listed steps = record {
    reading = reading_in height l.marks.now;
    key = key_in (waiting l.queue);
    way = way_in ways;
    wanted = wanted;
    listed = listed;
    steps = steps;
  }

  -- labels and ways become what `change` makes of the stage that they show, whatever is listed
  abbrev pub Becomes : (R → ℕ) → (wanted : ℕ → Bool) → (change : Stage → Stage) → (before after : Labels R) → (ways later : List ℕ) → Type 0
  Becomes height wanted change before after ways later = (listed : List (ℕ × ℕ)) (steps : ℕ) → stage_of height after later wanted listed steps ≡ change (stage_of height before ways wanted listed steps)

  -- labels for so many junctions
  pub record Sized (n : ℕ) (l : Labels R) : Type 0 where
    pub marks : length l.marks.now ≡ n
    pub queue : capacity l.queue ≡ n

  -- whether a site stands at a junction, where that is noted
  abbrev pub sited_in : Labels R → ℕ → Bool
  sited_in l v = (mark_in l.marks.now v).sited

  -- whatever waits has a reading
  abbrev pub WaitersRead : Labels R → Type 0
  WaitersRead l = (v : ℕ) (x : Key) → waiting l.queue v ≡ Some x → is_some (mark_in l.marks.now v).reading ≡ true

  -- the same junctions are noted to have a site
  abbrev pub SameSites : (before after : Labels R) → Type 0
  SameSites before after = (v : ℕ) → sited_in after v ≡ sited_in before v

-- wherever a site stands, that is noted
abbrev pub SitesNoted : {R : Type 0} → Roads → List (Mark R) → Type 0
SitesNoted m marks = (s : ℕ) → s < m.sites → (mark_in marks (m.place s)).sited ≡ true
