-- What an asking answers: a refusal, or its last stage. Assumes nothing.
use Rattle.std.specs.Prelude.{ℕ, Bool, ◌&&◌, is_some, Some, None, Ok, Err, Option, Result, ◌==◌, nat_le, nat_lt}
use Rattle.std.specs.Option.{option_or, unwrap_or}
use Rattle.network.specs.First.{unless}
use Rattle.network.specs.Refused.{refusal}
use Rattle.network.specs.declared.refusals.Places.TheVariants.{Call}
use Rattle.network.specs.declared.refusals.Refusal.{Refusal}
use Rattle.soonest.specs.Guidance.{Guidance}
use Rattle.soonest.specs.Stages.{Stage, last_stage}

-- what is asked: from which junction, with which start number, for how many sites; and how long the lent lists are
pub record Asking : Type 0 where
  pub junction : ℕ
  pub number : ℕ
  pub k : ℕ
  pub answers : ℕ
  pub ways : ℕ
  pub marks : ℕ
  pub queue : ℕ

-- the first that applies: no such junction, no start reading, k out of range, another count of sites, a list too short
unfoldable pub ask_refusal : Guidance → (sites : ℕ) → Asking → Option Refusal
ask_refusal g sites q =
    option_or (unless (nat_lt q.junction g.roads.junctions) (refusal 14 Call))
    (option_or (unless (is_some (g.roads.start q.number)) (refusal 15 Call))
    (option_or (unless (nat_le 1 q.k && nat_le q.k 32) (refusal 16 Call))
    (option_or (unless (sites == g.roads.sites) (refusal 34 Call))
    (unless (nat_le q.k q.answers && nat_le g.roads.junctions q.ways && nat_le g.roads.junctions q.marks && nat_le g.roads.junctions q.queue) (refusal 17 Call)))))

-- what a call answers that is refused, or is not
abbrev pub unless_refused : {X : Type 0} → Option Refusal → X → Result X Refusal
unless_refused None x = Ok x
unless_refused (Some r) x = Err r

-- the last stage, from the start reading; where there is none the asking is refused
unfoldable pub asked : Guidance → (free : ℕ → Bool) → (sites : ℕ) → Asking → Result Stage Refusal
asked g free sites q = unless_refused (ask_refusal g sites q) (last_stage g q.k free q.junction (unwrap_or (g.roads.start q.number) 0))
