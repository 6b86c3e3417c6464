-- What every stage of an asking keeps. Assumes nothing.
use Rattle.std.proofs.Common.{◌≡◌, ℕ, zero, suc, ◌<◌, ◌≤◌, Bool, true, false, List, length, Some, None, Option, sym, refl, ap, ◌∙◌, subst, arith}
use Rattle.std.proofs.lemmas.Bool.{leb-false, both_ways}
use Rattle.network.specs.Model.{Roads}
use Rattle.network.specs.Paths.{Path}
use Rattle.network.proofs.First.{clash}
use Rattle.network.proofs.Following.{some_same, along_rises}
use Rattle.soonest.specs.Claims.{Reaches}
use Rattle.soonest.specs.Guidance.{Guidance, Sound}
use Rattle.soonest.specs.Stages.{Stage, upd, begin, full, list_one, list_all, try_one, taken, step, next, run}
use Rattle.soonest.proofs.Turns.{upd_other, step_at}
use Rattle.soonest.proofs.Updates.{upd_at, upd_falls, still_wanted, below_less, not_below, list_either, try_either, list_through, try_through, onwards_either}
use Rattle.soonest.proofs.Least.{next_is}
use Rattle.soonest.proofs.Leading.{Reached, ways_lead}
use Rattle.soonest.proofs.Fronts.{Keyed, Front, taken_keyed, taken_front, fewer_keyed, listed_front, tried_front, reached_keyed, reached_front, some_key}
use Rattle.soonest.proofs.Entries.{Entered, none_entered, entered_falls, entered_more}
use Rattle.soonest.proofs.Reaching.{reached_first, reached_more, rises_by, apart}

-- a stage on its course, while c sites and b arcs of the junction x are seen to
pub record Course (g : Guidance) (k : ℕ) (free : ℕ → Bool) (v h : ℕ) (s : Stage) (x c b : ℕ) : Type 0 where
  pub reached : Reached g.roads v h s.reading s.way
  pub keyed : Keyed g s.reading s.key s.wanted
  pub entered : Entered g.roads free v h k s.reading s.wanted s.listed
  pub front : full g k s ≡ false → Front g s.reading s.key s.wanted x c b

-- no path to a wanted site reads less than r
abbrev pub Ahead : Roads → (v h r : ℕ) → (wanted : ℕ → Bool) → Type 0
Ahead m v h r wanted = (s q : ℕ) (arcs : List ℕ) → s < m.sites → wanted s ≡ true → Reaches m v h s q arcs → r ≤ q

module _ (g : Guidance) (k : ℕ) (sound : Sound g) (free : ℕ → Bool) (v h : ℕ) where
  -- a path to each junction with a reading, that reads no more and not less than the start
  found : (s : Stage) (x c b u r : ℕ) → Course g k free v h s x c b → s.reading u ≡ Some r → (arcs : List ℕ) × (q : ℕ) × Path g.roads v h arcs u q × (h ≤ q) × (q ≤ r)
  found s x c b u r on e =
      let w = ways_lead g.roads sound.wellformed sound.lawful v h s.reading s.way on.reached u r e in
      let reads = (on.reached.within v h on.reached.at_start).1 in
      (w.0, w.1, w.3, along_rises g.roads sound.wellformed sound.lawful w.0 v u h w.1 w.3.0 reads w.3.1, w.4)

  -- some key is not above what a path to a wanted site reads
  pub key_before : (s : Stage) (x : ℕ) → Course g k free v h s x g.roads.sites g.roads.arcs → full g k s ≡ false → (site q : ℕ) (arcs : List ℕ) → site < g.roads.sites → s.wanted site ≡ true → Reaches g.roads v h site q arcs → (w : ℕ) × (κ : ℕ) × (w < g.roads.junctions) × (s.key w ≡ Some κ) × (κ ≤ q)
  key_before s x on room site q arcs low asked path =
      let start = on.reached.at_start in
      let some = some_key g sound s.reading s.key s.wanted x on.reached.within on.keyed (on.front room) site low asked arcs v h h q start (on.reached.within v h start).1 (omega arith) path in
      let e = on.keyed some.0 some.1 some.2 in
      (some.0, some.1, (on.reached.within some.0 e.0 e.2).0, some.2, some.3)

  -- so nothing wanted is reached before the reading of what is taken next
  next_ahead : (s : Stage) (x r : ℕ) (b : ℕ × ℕ) → Course g k free v h s x g.roads.sites g.roads.arcs → next g k s ≡ Some b → s.reading b.0 ≡ Some r → Ahead g.roads v h r s.wanted
  next_ahead s x r b on e own site q arcs low asked path =
      let n = next_is g k s b e in
      let some = key_before s x on n.0 site q arcs low asked path in
      let a = n.1.smallest some.0 some.1 some.2 some.3 in
      let t = on.keyed b.0 b.1 n.1.waits in
      let same = some_same (s.reading b.0) t.0 r t.2 own in
      let c = sound.admissible.not_less b.0 t.0 b.1 t.1 (on.reached.within b.0 t.0 t.2).1 t.4 in
      omega arith

  -- the sites of x in turn
  Listing : (x r i : ℕ) → Stage → Type 0
  Listing x r i t = Course g k free v h t x i 0 × (t.reading x ≡ Some r) × Ahead g.roads v h r t.wanted

  list_turn : (x r i : ℕ) (t : Stage) → i < g.roads.sites → Listing x r i t → Listing x r (suc i) (list_one g k x r i t)
  unfolding Listing
  list_turn x r i t low (on, own, ahead) = list_either g k (Listing x r (suc i)) x r i t
      (λ at asked room. let f = found t x i 0 x r on own in (
        record {
          reached = on.reached;
          keyed = fewer_keyed g t.reading t.key t.wanted (upd t.wanted i false) (still_wanted t.wanted i) on.keyed;
          entered = entered_more g.roads free v h k t.reading t.wanted t.listed on.entered i r f.1 f.0 (leb-false k (length t.listed) room) low asked (ap t.reading at ∙ own) (subst (λ w. Path g.roads v h f.0 w f.1) (sym at) f.2) f.4 ahead;
          front = λ _. listed_front g t.reading t.key t.wanted (upd t.wanted i false) x i 0 (still_wanted t.wanted i) (λ p w. both_ways (upd t.wanted i false i) (upd_at t.wanted i false i refl) w) (on.front room);
        },
        own,
        λ s q arcs l w. ahead s q arcs l (still_wanted t.wanted i s w),
      ))
      (λ left. (
        record { reached = on.reached; keyed = on.keyed; entered = on.entered; front = λ room. listed_front g t.reading t.key t.wanted t.wanted x i 0 (λ s w. w) (λ p w. left p w room) (on.front room) },
        own,
        ahead,
      ))

  -- the arcs of x in turn
  Trying : (x r a : ℕ) → Stage → Type 0
  Trying x r a t = Course g k free v h t x g.roads.sites a × (t.reading x ≡ Some r)

  try_turn : (x r a : ℕ) (t : Stage) → a < g.roads.arcs → Trying x r a t → Trying x r (suc a) (try_one g k x r a t)
  unfolding Trying
  try_turn x r a t low (on, own) = try_either g k (Trying x r (suc a)) x r a t
      (λ q at arrives less.
      let own_tail = ap t.reading at ∙ own in
      let rise = rises_by g.roads sound.wellformed sound.lawful v h t.reading t.way on.reached a r q low own_tail arrives less in
      let aside = apart g.roads sound.wellformed sound.lawful v h t.reading t.way on.reached a r q low own_tail arrives less in
      let f = found t x g.roads.sites a x r on own in
      let not_start : g.roads.head a ≡ v → ⊥ = λ e. let i = below_less q h (t.reading (g.roads.head a)) less (ap t.reading e ∙ on.reached.at_start) in omega arith in
      let still_own = upd_other t.reading (g.roads.head a) (Some q) x (λ e. aside (at ∙ e)) ∙ own in (
        record {
          reached = reached_more g.roads sound.wellformed sound.lawful v h t.reading t.way on.reached a r q low own_tail arrives less not_start;
          keyed = reached_keyed g t.reading t.key t.wanted (g.roads.head a) q on.keyed;
          entered = entered_falls g.roads free v h k t.reading t.wanted t.listed on.entered (upd t.reading (g.roads.head a) (Some q)) (upd_falls t.reading (g.roads.head a) q less);
          front = λ room. tried_front g (upd t.reading (g.roads.head a) (Some q)) (upd t.key (g.roads.head a) (g.estimate (g.roads.head a) q t.wanted)) t.wanted x r g.roads.sites a still_own
              (λ p e w. (q, upd_at t.reading (g.roads.head a) (Some q) (g.roads.head a) refl, let same = some_same (g.roads.carry a r) q p arrives w in omega arith))
              (reached_front g t.reading t.key t.wanted (g.roads.head a) q x g.roads.sites a less (on.front room));
        },
        still_own,
      ))
      (λ left. (
        record { reached = on.reached; keyed = on.keyed; entered = on.entered; front = λ room. tried_front g t.reading t.key t.wanted x r g.roads.sites a own (λ q e w. not_below q (t.reading (g.roads.head a)) (left q e w)) (on.front room) },
        own,
      ))

  -- a step from what is taken next
  step_course : (s : Stage) (y : ℕ) (b : ℕ × ℕ) → Course g k free v h s y g.roads.sites g.roads.arcs → next g k s ≡ Some b → Course g k free v h (step g k b.0 s) b.0 g.roads.sites g.roads.arcs
  unfolding Listing Trying
  step_course s y b on e =
      let x = b.0 in
      let n = next_is g k s b e in
      let t = on.keyed x b.1 n.1.waits in
      let r = t.0 in
      let first : Course g k free v h (taken g k x s) x 0 0 = record {
        reached = on.reached;
        keyed = taken_keyed g s.reading s.key s.wanted x on.keyed;
        entered = on.entered;
        front = λ room. taken_front g s.reading s.key s.wanted x y (on.front room);
      } in
      let l = list_through g k (Listing x r) x r (taken g k x s) g.roads.sites (first, t.2, next_ahead s y r b on e t.2) (list_turn x r) in
      let u = list_all g k x r g.roads.sites (taken g k x s) in
      subst (λ z. Course g k free v h z x g.roads.sites g.roads.arcs) (sym (step_at g k x r s t.2))
      (onwards_either g k (λ z. Course g k free v h z x g.roads.sites g.roads.arcs) x r u
      (λ end. record { reached = l.0.reached; keyed = l.0.keyed; entered = l.0.entered; front = λ room. absurd (both_ways (full g k u) room end) })
      (λ room. (try_through g k (Trying x r) x r u g.roads.arcs (l.0, l.1) (try_turn x r)).0))

  -- and many steps
  pub run_course : (fuel : ℕ) (s : Stage) (y : ℕ) → Course g k free v h s y g.roads.sites g.roads.arcs → (x : ℕ) × Course g k free v h (run g k fuel s) x g.roads.sites g.roads.arcs
  unfolding run
  run_course zero s y on = (y, on)
  run_course (suc fuel) s y on = go (next g k s) refl (λ b. run_course fuel (step g k b.0 s) b.0)
    where
      go : (o : Option (ℕ × ℕ)) → next g k s ≡ o → ((b : ℕ × ℕ) → Course g k free v h (step g k b.0 s) b.0 g.roads.sites g.roads.arcs → (x : ℕ) × Course g k free v h (run g k fuel (step g k b.0 s)) x g.roads.sites g.roads.arcs) → (x : ℕ) × Course g k free v h (elim o as (λ _. Stage) [ None ↦ s | Some b ↦ run g k fuel (step g k b.0 s) ]) x g.roads.sites g.roads.arcs
      go None e more = (y, on)
      go (Some b) e more = more b (step_course s y b on e)

  -- as an asking begins
  pub begin_course : v < g.roads.junctions → g.roads.reads h ≡ true → Course g k free v h (begin g k free v h) v g.roads.sites g.roads.arcs
  begin_course low reads = record {
    reached = reached_first g.roads sound.wellformed sound.lawful v h (λ _. 65535) low reads;
    keyed = reached_keyed g (λ _. None) (λ _. None) free v h (λ u κ e. clash (Some κ) κ refl (sym e));
    entered = none_entered g.roads free v h k (upd (λ _. None) v (Some h));
    front = λ room. reached_front g (λ _. None) (λ _. None) free v h v g.roads.sites g.roads.arcs refl (λ u r e. clash (Some r) r refl (sym e));
  }
