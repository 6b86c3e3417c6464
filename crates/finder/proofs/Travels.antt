-- What taking, listing and trying make of a stage. Assumes nothing.
use Rattle.std.proofs.Common.{◌≡◌, ℕ, suc, ◌+◌, ◌<◌, ◌≤◌, Bool, true, false, not, cond, ◌&&◌, eqb, leb, List, [], ◌∷◌, ◌++◌, length, map, take, set, is_some, Some, None, Option, sym, refl, ap, ◌∙◌, subst, ap₂, arith}
use mathlib.Core.Path.{fun_ext}
use Rattle.std.specs.Option.{option_map}
use Rattle.std.proofs.lemmas.Bool.{le-leb, lt-leb, true≢false}
use Rattle.std.proofs.lemmas.List.{length-take-le, length-map, map-append, take_more_set, get_or-set_other}
use Rattle.network.proofs.First.{clash}
use Rattle.queue.specs.Queues.{capacity}
use Rattle.soonest.specs.Guidance.{Guidance, Sound}
use Rattle.soonest.specs.Stages.{Stage, upd, least, full, list_site, list_one, list_all, try_all, taken, onwards, step, next, finish}
use Rattle.soonest.specs.Ways.{way_in}
use Rattle.soonest.proofs.Ending.{Sane, step_at, list_none, list_full, finish_rests}
use Rattle.finder.specs.declared.answers.Answer.{Answer}
use Rattle.finder.specs.declared.labels.Labels.{Labels}
use Rattle.finder.specs.declared.taking.Taken.{Taken}
use Rattle.finder.specs.Labels.{mark_in, reading_in, key_in, stage_of, WaitersRead, SitesNoted}
use Rattle.finder.specs.Lists.{listed_in, KeptFrom, Shows}
use Rattle.finder.proofs.Goings.{Going, going_on}
use Rattle.finder.specs.Takings.{TakenFrom}

module _ (g : Guidance) (k : ℕ) where
  full_is : (s : Stage) (n : ℕ) → length s.listed ≡ n → full g k s ≡ leb k n
  full_is s n e = ap (leb k) e

  next_open : (s : Stage) → full g k s ≡ false → next g k s ≡ least s.key g.roads.junctions
  unfolding next
  next_open s f = rw (f, next) refl

  next_shut : (s : Stage) → full g k s ≡ true → next g k s ≡ None
  unfolding next
  next_shut s f = rw (f, next) refl

  pub next_none : (s : Stage) → length s.listed < k → least s.key g.roads.junctions ≡ None → next g k s ≡ None
  next_none s l e = next_open s (lt-leb k (length s.listed) l) ∙ e

  onwards_open : (v r : ℕ) (s : Stage) → full g k s ≡ false → onwards g k v r s ≡ try_all g k v r g.roads.arcs s
  onwards_open v r s f = ap (λ b. elim b [ true ↦ s | false ↦ try_all g k v r g.roads.arcs s ]) f

  onwards_shut : (v r : ℕ) (s : Stage) → full g k s ≡ true → onwards g k v r s ≡ s
  onwards_shut v r s f = ap (λ b. elim b [ true ↦ s | false ↦ try_all g k v r g.roads.arcs s ]) f

  pub list_start : (v r : ℕ) (s : Stage) → s ≡ list_all g k v r 0 s
  unfolding list_all
  list_start v r s = refl

  list_next : (v r i : ℕ) (s : Stage) → list_all g k v r (suc i) s ≡ list_one g k v r i (list_all g k v r i s)
  unfolding list_all
  list_next v r i s = refl

  one_listed : (v r i : ℕ) (s : Stage) → (eqb (g.roads.place i) v && s.wanted i) ≡ true → full g k s ≡ false → list_one g k v r i s ≡ list_site g k r i s
  unfolding list_one
  one_listed v r i s w f = ap₂ (λ a b. elim (a && not b) [ true ↦ list_site g k r i s | false ↦ s ]) w f

  one_passed : (v r i : ℕ) (s : Stage) → (eqb (g.roads.place i) v && s.wanted i) ≡ false → list_one g k v r i s ≡ s
  unfolding list_one
  one_passed v r i s w = ap (λ a. elim (a && not (full g k s)) [ true ↦ list_site g k r i s | false ↦ s ]) w

  -- a junction is taken from s, which gives u; its sites are listed up to i, which gives w
  module _ (s u w : Stage) (v r : ℕ) (here : s.reading v ≡ Some r) (take_it : u ≡ taken g k v s) where
    listed_all : (i : ℕ) → w ≡ list_all g k v r i u → w ≡ list_all g k v r i (taken g k v s)
    listed_all i e = e ∙ ap (list_all g k v r i) take_it

    -- all sites, and then the arcs
    pub turned : (x : Stage) → w ≡ list_all g k v r g.roads.sites u → full g k w ≡ false → x ≡ try_all g k v r g.roads.arcs w → x ≡ step g k v s
    turned x e f t = t ∙ sym (onwards_open v r w f) ∙ ap (onwards g k v r) (listed_all g.roads.sites e) ∙ sym (step_at g k v r s here)

    -- up to the site that makes the list full
    pub broken : (i : ℕ) → i ≤ g.roads.sites → w ≡ list_all g k v r i u → full g k w ≡ true → w ≡ step g k v s
    broken i l e f =
        let all = listed_all i e in
        let shut : full g k (list_all g k v r i (taken g k v s)) ≡ true = ap (full g k) (sym all) ∙ f in
        let same = all ∙ sym (list_full g k v r (taken g k v s) i g.roads.sites l shut) in
        sym (onwards_shut v r w f) ∙ ap (onwards g k v r) same ∙ sym (step_at g k v r s here)

-- lists of answers
module _ {R : Type 0} (height : R → ℕ) where
  pub listed_long : (count : ℕ) (answers : List (Answer R)) → count ≤ length answers → length (listed_in height count answers) ≡ count
  listed_long count answers l = length-map (take count answers) _ ∙ length-take-le count answers l

  pub listed_more : (count : ℕ) (answers : List (Answer R)) (a : Answer R) → count < length answers → listed_in height (count + 1) (set answers count a) ≡ listed_in height count answers ++ (a.site, height a.reading) ∷ []
  listed_more count answers a l = ap (map (λ a. (a.site, height a.reading))) (take_more_set answers count a l) ∙ map-append _ (take count answers) (a ∷ [])

  module _ (g : Guidance) (k : ℕ) where
    -- one site is looked at: it is listed, or passed over
    module _ (l : Labels R) (ways : List ℕ) (wanted : ℕ → Bool) (answers : List (Answer R)) (count steps : ℕ) (v i : ℕ) (r : R) (u : Stage) (few : count < k) (long : k ≡ length answers) (so_far : stage_of height l ways wanted (listed_in height count answers) steps ≡ list_all g k v (height r) i u) where
      open_yet : full g k (stage_of height l ways wanted (listed_in height count answers) steps) ≡ false
      open_yet = full_is g k (stage_of height l ways wanted (listed_in height count answers) steps) count (listed_long count answers (omega arith)) ∙ lt-leb k count few

      pub hit : (less : ℕ → Bool) → (eqb (g.roads.place i) v && wanted i) ≡ true → less ≡ upd wanted i false → stage_of height l ways less (listed_in height (count + 1) (set answers count (record { site = i; reading = r }))) steps ≡ list_all g k v (height r) (i + 1) u
      hit less w e =
          let more = listed_more count answers (record { site = i; reading = r }) (omega arith) in
          (λ j. stage_of height l ways (e j) (more j) steps)
          ∙ sym (one_listed g k v (height r) i (stage_of height l ways wanted (listed_in height count answers) steps) w open_yet)
          ∙ ap (list_one g k v (height r) i) so_far
          ∙ sym (list_next g k v (height r) i u)
          ∙ ap (λ n. list_all g k v (height r) n u) (omega arith)

      pub passed : (eqb (g.roads.place i) v && wanted i) ≡ false → stage_of height l ways wanted (listed_in height count answers) steps ≡ list_all g k v (height r) (i + 1) u
      passed w =
          sym (one_passed g k v (height r) i (stage_of height l ways wanted (listed_in height count answers) steps) w)
          ∙ ap (list_one g k v (height r) i) so_far
          ∙ sym (list_next g k v (height r) i u)
          ∙ ap (λ n. list_all g k v (height r) n u) (omega arith)

    -- labels from which a junction is taken
    module _ (before after : Labels R) (ways : List ℕ) (wanted : ℕ → Bool) (listed : List (ℕ × ℕ)) (steps : ℕ) (t : Taken R) (from : TakenFrom before after t) (marks : after.marks.now ≡ before.marks.now) where
      pub taken_stage : stage_of height after ways wanted listed (steps + 1) ≡ taken g k t.junction (stage_of height before ways wanted listed steps)
      taken_stage =
          let one : steps + 1 ≡ suc steps = omega arith in
          λ i. record {
            reading = reading_in height (marks i);
            key = from.waits_no_more i;
            way = way_in ways;
            wanted = wanted;
            listed = listed;
            steps = one i;
          }

      pub taken_reading : (stage_of height before ways wanted listed steps).reading t.junction ≡ Some (height t.reading)
      unfolding reading_in
      taken_reading = ap (option_map height) from.its_reading

      pub taken_next : length listed < k → capacity before.queue ≡ g.roads.junctions → next g k (stage_of height before ways wanted listed steps) ≡ Some (t.junction, from.key)
      taken_next l n =
          let s = stage_of height before ways wanted listed steps in
          next_open g k s (lt-leb k (length listed) l) ∙ ap (least s.key) (sym n) ∙ from.least_waits

      -- where no site is noted, none is listed
      pub none_here : (u : Stage) (r : ℕ) → SitesNoted g.roads before.marks.now → t.sited ≡ false → u ≡ list_all g k t.junction r g.roads.sites u
      none_here u r noted f = sym (list_none g k t.junction r u g.roads.sites (λ i l e. true≢false (sym (noted i l) ∙ ap (λ v. (mark_in before.marks.now v).sited) e ∙ sym from.its_site ∙ f)))

  -- what waits has a reading
  pub waiters : (g : Guidance) (l : Labels R) (ways : List ℕ) (wanted : ℕ → Bool) (listed : List (ℕ × ℕ)) (steps : ℕ) → Sane g (stage_of height l ways wanted listed steps) → WaitersRead l
  unfolding reading_in key_in
  waiters g l ways wanted listed steps sane v x e =
      let r = sane.waits v x.height (ap (option_map (λ k. k.height)) e) in
      there (mark_in l.marks.now v).reading r.0 r.1
    where
      there : (o : Option R) (n : ℕ) → option_map height o ≡ Some n → is_some o ≡ true
      there None n e = clash (Some n) n refl (sym e)
      there (Some r) n e = refl

-- a site that is wanted no more
pub removed_is : (old new : ℕ → Bool) (i : ℕ) → ((j : ℕ) → new j ≡ cond (eqb j i) false (old j)) → new ≡ upd old i false
removed_is old new i h = fun_ext (λ j. h j ∙ as_upd (eqb j i) (old j))
  where
    as_upd : (b o : Bool) → cond b false o ≡ elim b [ true ↦ false | false ↦ o ]
    as_upd true o = refl
    as_upd false o = refl

-- what stood for three values stands for others that are the same
pub moved : {A B : Type 0} (P : A → B → ℕ → Type 0) (a a' : A) (b b' : B) (n n' : ℕ) → a' ≡ a → b' ≡ b → n' ≡ n → P a b n → P a' b' n'
moved P a a' b b' n n' e f h p = subst (λ x. P x b' n') (sym e) (subst (λ y. P a y n') (sym f) (subst (P a b) (sym h) p))

module _ {R : Type 0} (height : R → ℕ) (g : Guidance) (k : ℕ) where
  -- the sites below i are looked at, from the stage u on
  module _ (l : Labels R) (ways : List ℕ) (steps : ℕ) (first : List (Answer R)) (v : ℕ) (r : R) (u : Stage) where
    abbrev pub SoFar : (i : ℕ) → List (Answer R) → (ℕ → Bool) → (count : ℕ) → Type 0
    SoFar i answers wanted count = (count < k) × KeptFrom count first answers × (stage_of height l ways wanted (listed_in height count answers) steps ≡ list_all g k v (height r) i u)

    module _ (i : ℕ) (answers : List (Answer R)) (wanted : ℕ → Bool) (count : ℕ) (long : length answers ≡ k) (so_far : SoFar i answers wanted count) where
      pub listed_next : (less : ℕ → Bool) → count + 1 < k → (eqb (g.roads.place i) v && wanted i) ≡ true → less ≡ upd wanted i false → SoFar (i + 1) (set answers count (record { site = i; reading = r })) less (count + 1)
      listed_next less l' w e = (
        l',
        λ j d m. get_or-set_other answers count j (record { site = i; reading = r }) d (λ q. omega arith) ∙ so_far.1 j d (omega arith),
        hit height g k l ways wanted answers count steps v i r u so_far.0 (sym long) so_far.2 less w e,
      )

      pub passed_next : (eqb (g.roads.place i) v && wanted i) ≡ false → SoFar (i + 1) answers wanted count
      passed_next w = (so_far.0, so_far.1, passed height g k l ways wanted answers count steps v i r u so_far.0 (sym long) so_far.2 w)

    -- not full as long as there is room
    pub yet_open : (i : ℕ) (answers : List (Answer R)) (wanted : ℕ → Bool) (count : ℕ) → length answers ≡ k → SoFar i answers wanted count → full g k (stage_of height l ways wanted (listed_in height count answers) steps) ≡ false
    yet_open i answers wanted count long so_far = let few = so_far.0 in full_is g k (stage_of height l ways wanted (listed_in height count answers) steps) count (listed_long height count answers (omega arith)) ∙ lt-leb k count few

  pub now_full : (l : Labels R) (ways : List ℕ) (wanted : ℕ → Bool) (answers : List (Answer R)) (count steps : ℕ) → count ≤ length answers → k ≤ count → full g k (stage_of height l ways wanted (listed_in height count answers) steps) ≡ true
  now_full l ways wanted answers count steps long most = full_is g k (stage_of height l ways wanted (listed_in height count answers) steps) count (listed_long height count answers long) ∙ le-leb k count most

  -- where an asking ends
  pub ended : (first s : Stage) → Going g k first s → next g k s ≡ None → s ≡ finish g k first
  ended first s p e = sym (finish_rests g k s e) ∙ p.ends

  pub ends_full : (sound : Sound g) (first s w : Stage) (b : ℕ × ℕ) → Going g k first s → next g k s ≡ Some b → w ≡ step g k b.0 s → full g k w ≡ true → w ≡ finish g k first
  ends_full sound first s w b p e t f = t ∙ ended first (step g k b.0 s) (going_on g k sound first s b p e) (next_shut g k (step g k b.0 s) (ap (full g k) (sym t) ∙ f))

  pub shows : (l : Labels R) (ways : List ℕ) (wanted : ℕ → Bool) (answers : List (Answer R)) (count steps : ℕ) (s : Stage) → stage_of height l ways wanted (listed_in height count answers) steps ≡ s → Shows height (record { count = count; steps = steps }) answers ways s
  shows l ways wanted answers count steps s e = record { sites_listed = ap (λ s. s.listed) e; steps_taken = ap (λ s. s.steps) e; ways_left = ap (λ s. s.way) e }
