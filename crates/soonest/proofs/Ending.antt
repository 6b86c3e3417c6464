-- An asking ends: every step lowers the potential, so the steps that it allows are enough. Assumes nothing.
use Rattle.std.proofs.Common.{◌≡◌, ℕ, zero, suc, ◌+◌, ◌^◌, ◌<◌, ◌≤◌, Bool, true, ◌⊎◌, Some, None, Option, sym, refl, ap, ◌∙◌, subst, inl, inr, ⊎_elim, arith}
use Rattle.std.proofs.lemmas.Bool.{ltb-true}
use Rattle.network.proofs.First.{clash}
use Rattle.network.proofs.Following.{some_same}
use Rattle.soonest.specs.Guidance.{Guidance, Sound}
use Rattle.soonest.specs.Stages.{Stage, upd, below, begin, list_site, reach, taken, step, next, run, or_top, one_waits, sum_below, potential, finish}
use Rattle.soonest.proofs.Least.{next_is}
use Rattle.soonest.proofs.Sums.{sum_most, sum_change}
use Rattle.soonest.proofs.Turns.{upd_same, upd_other, upd_says, step_keeps}
pub use Rattle.soonest.proofs.Turns.{step_steps, step_at, try_none, try_next, try_last, list_none, list_full}

module _ (g : Guidance) (k : ℕ) where
  -- what is taken next waits
  pub next_waits : (s : Stage) (b : ℕ × ℕ) → next g k s ≡ Some b → (s.key b.0 ≡ Some b.1) × (b.0 < g.roads.junctions)
  next_waits s b e = let n = (next_is g k s b e).1 in (n.waits, n.within)

-- what every stage has: readings that are readings of junctions, and keys only where there is a reading
pub record Sane (g : Guidance) (s : Stage) : Type 0 where
  pub reads : (u r : ℕ) → s.reading u ≡ Some r → (u < g.roads.junctions) × (g.roads.reads r ≡ true)
  pub waits : (u κ : ℕ) → s.key u ≡ Some κ → (r : ℕ) × (s.reading u ≡ Some r)

-- a junction gets a reading, and waits or not
module _ (reading key : ℕ → Option ℕ) (j q : ℕ) (o : Option ℕ) where
  reads_given : (X : ℕ → ℕ → Type 0) → X j q → ((u r : ℕ) → reading u ≡ Some r → X u r) → (u r : ℕ) → upd reading j (Some q) u ≡ Some r → X u r
  reads_given X x h u r e =
      ⊎_elim
      (λ p. subst (λ n. X n r) (sym p.0) (subst (X j) (some_same (Some q) q r refl p.1) x))
      (λ p. h u r p.1)
      (upd_says reading j (Some q) u (Some r) e)

  waits_given : ((u κ : ℕ) → key u ≡ Some κ → (r : ℕ) × (reading u ≡ Some r)) → (u κ : ℕ) → upd key j o u ≡ Some κ → (r : ℕ) × (upd reading j (Some q) u ≡ Some r)
  waits_given h u κ e =
      ⊎_elim
      (λ p. (q, ap (upd reading j (Some q)) p.0 ∙ upd_same reading j (Some q)))
      (λ p. let w = h u κ p.1 in (w.0, upd_other reading j (Some q) u p.0 ∙ w.1))
      (upd_says key j o u (Some κ) e)

module _ (g : Guidance) (k : ℕ) (sound : Sound g) where
  pub sane_begin : (free : ℕ → Bool) (v h : ℕ) → v < g.roads.junctions → g.roads.reads h ≡ true → Sane g (begin g k free v h)
  sane_begin free v h l r = record {
    reads = reads_given (λ _. None) (λ _. None) v h (g.estimate v h free) (λ u q. (u < g.roads.junctions) × (g.roads.reads q ≡ true)) (l, r) (λ u q e. clash (Some q) q refl (sym e));
    waits = waits_given (λ _. None) (λ _. None) v h (g.estimate v h free) (λ u κ e. clash (Some κ) κ refl (sym e));
  }

  sane_reach : (a q : ℕ) (s : Stage) → a < g.roads.arcs → g.roads.reads q ≡ true → Sane g s → Sane g (reach g k a q s)
  sane_reach a q s l r p = record {
    reads = reads_given s.reading s.key (g.roads.head a) q None (λ u t. (u < g.roads.junctions) × (g.roads.reads t ≡ true)) (sound.wellformed.head_within a l, r) p.reads;
    waits = waits_given s.reading s.key (g.roads.head a) q (g.estimate (g.roads.head a) q s.wanted) p.waits;
  }

  sane_taken : (v : ℕ) (s : Stage) → Sane g s → Sane g (taken g k v s)
  sane_taken v s p = record {
    reads = p.reads;
    waits = λ u κ e. ⊎_elim (λ x. clash (Some κ) κ refl (sym x.1)) (λ x. p.waits u κ x.1) (upd_says s.key v None u (Some κ) e);
  }

  pub sane_step : (v : ℕ) (s : Stage) → Sane g s → Sane g (step g k v s)
  sane_step v s p =
      step_keeps g k v (Sane g) s
      (λ r i t e b c d f q. record { reads = q.reads; waits = q.waits })
      (λ r a q t e l m n o h. sane_reach a q t l (sound.wellformed.carry_reads a r q (p.reads v r e).1 n) h)
      (sane_taken v s p)

  -- the two sums of the potential
  abbrev heights : (ℕ → Option ℕ) → ℕ
  heights reading = sum_below g k (λ v. or_top g k (reading v)) g.roads.junctions

  abbrev waiting : (ℕ → Option ℕ) → ℕ
  waiting key = sum_below g k (λ v. one_waits g k (key v)) g.roads.junctions

  potential_is : (s : Stage) → potential g k s ≡ heights s.reading + waiting s.key
  unfolding potential
  potential_is s = refl

  one_most : (o : Option ℕ) → one_waits g k o ≤ 1
  one_most None = omega arith
  one_most (Some κ) = omega arith

  below_top : (q : ℕ) (o : Option ℕ) → q < 2 ^ 48 → below q o ≡ true → q < or_top g k o
  below_top q None l e = l
  below_top q (Some r) l e = ltb-true q r e

  -- a reading below what was there lowers the first
  heights_fall : (reading : ℕ → Option ℕ) (j q : ℕ) → j < g.roads.junctions → q < 2 ^ 48 → below q (reading j) ≡ true → heights (upd reading j (Some q)) < heights reading
  heights_fall reading j q l low e =
      let sums = sum_change g k (λ v. or_top g k (reading v)) (λ v. or_top g k (upd reading j (Some q) v)) j g.roads.junctions l (λ i h. ap (or_top g k) (upd_other reading j (Some q) i h)) in
      let here : or_top g k (upd reading j (Some q) j) ≡ q = ap (or_top g k) (upd_same reading j (Some q)) in
      let less = below_top q (reading j) low e in
      omega arith

  -- a junction that waits or not, where it did or did not, changes the second there alone
  waiting_change : (key : ℕ → Option ℕ) (j : ℕ) (o : Option ℕ) → j < g.roads.junctions → waiting (upd key j o) + one_waits g k (key j) ≡ waiting key + one_waits g k o
  waiting_change key j o l =
      let sums = sum_change g k (λ v. one_waits g k (key v)) (λ v. one_waits g k (upd key j o v)) j g.roads.junctions l (λ i h. ap (one_waits g k) (upd_other key j o i h)) in
      let here : one_waits g k (upd key j o j) ≡ one_waits g k o = ap (one_waits g k) (upd_same key j o) in
      omega arith

  -- so a new reading never raises the potential, and what is taken lowers it
  reach_lowers : (a q : ℕ) (s : Stage) → a < g.roads.arcs → q < 2 ^ 48 → below q (s.reading (g.roads.head a)) ≡ true → potential g k (reach g k a q s) ≤ potential g k s
  reach_lowers a q s l low e =
      let j = g.roads.head a in
      let o = g.estimate j q s.wanted in
      let within = sound.wellformed.head_within a l in
      let fall = heights_fall s.reading j q within low e in
      let change = waiting_change s.key j o within in
      let most = one_most o in
      let x = potential_is s in
      let y = potential_is (reach g k a q s) in
      omega arith

  taken_lowers : (v κ : ℕ) (s : Stage) → v < g.roads.junctions → s.key v ≡ Some κ → potential g k (taken g k v s) < potential g k s
  taken_lowers v κ s l e =
      let change = waiting_change s.key v None l in
      let one : one_waits g k (s.key v) ≡ 1 = ap (one_waits g k) e in
      let x = potential_is s in
      let y = potential_is (taken g k v s) in
      omega arith

  list_leaves : (r i : ℕ) (s : Stage) → potential g k (list_site g k r i s) ≡ potential g k s
  unfolding potential
  list_leaves r i s = refl

  pub potential_step : (s : Stage) → Sane g s → (b : ℕ × ℕ) → next g k s ≡ Some b → potential g k (step g k b.0 s) < potential g k s
  potential_step s p b e =
      let w = next_waits g k s b e in
      step_keeps g k b.0 (λ t. potential g k t < potential g k s) s
      (λ r i t x y z u v h. let same = list_leaves r i t in omega arith)
      (λ r a q t x l m n o h. let fall = reach_lowers a q t l (sound.wellformed.low q (sound.wellformed.carry_reads a r q (p.reads b.0 r x).1 n)) o in omega arith)
      (taken_lowers b.0 b.1 s w.1 w.0)

  -- at most 2^48 and 1 for each of 4,096 junctions
  pub potential_begin : (free : ℕ → Bool) (v h : ℕ) → v < g.roads.junctions → g.roads.reads h ≡ true → potential g k (begin g k free v h) < 2 ^ 61
  potential_begin free v h l r =
      let s = begin g k free v h in
      let few = sound.wellformed.few_junctions in
      let high = sum_most g k (λ u. or_top g k (s.reading u)) (2 ^ 48) g.roads.junctions (λ u m. top_most (s.reading u) (λ q e. ((sane_begin free v h l r).reads u q e).1)) in
      let many = sum_most g k (λ u. one_waits g k (s.key u)) 1 g.roads.junctions (λ u m. one_most (s.key u)) in
      let x = potential_is s in
      omega arith
    where
      top_most : (o : Option ℕ) → ((q : ℕ) → o ≡ Some q → g.roads.reads q ≡ true) → or_top g k o ≤ 2 ^ 48
      top_most None h = omega arith
      top_most (Some q) h = let low = sound.wellformed.low q (h q refl) in omega arith

pub some_or_none : {X : Type 0} (o : Option X) → (o ≡ None) ⊎ ((x : X) × (o ≡ Some x))
some_or_none None = inl refl
some_or_none (Some x) = inr (x, refl)

module _ (g : Guidance) (k : ℕ) where
  run_zero : (s : Stage) → run g k 0 s ≡ s
  unfolding run
  run_zero s = refl

  -- nothing is taken where none is next, and what is next is taken
  run_stays : (n : ℕ) (s : Stage) → next g k s ≡ None → run g k n s ≡ s
  unfolding run
  run_stays zero s e = refl
  run_stays (suc n) s e = rw (e, run)

  run_takes : (n : ℕ) (s : Stage) (b : ℕ × ℕ) → next g k s ≡ Some b → run g k (suc n) s ≡ run g k n (step g k b.0 s)
  unfolding run
  run_takes n s b e = rw (e, run)

  finish_is : (s : Stage) → finish g k s ≡ run g k (potential g k s) s
  unfolding finish
  finish_is s = refl

  pub finish_rests : (s : Stage) → next g k s ≡ None → finish g k s ≡ s
  finish_rests s e = finish_is s ∙ run_stays (potential g k s) s e

module _ (g : Guidance) (k : ℕ) (sound : Sound g) where
  -- any two counts of steps that are enough come to the same
  run_enough : (n m : ℕ) (s : Stage) → Sane g s → potential g k s ≤ n → potential g k s ≤ m → run g k n s ≡ run g k m s
  run_enough zero m s p l h = ⊎_elim (λ e. run_zero g k s ∙ sym (run_stays g k m s e)) (λ b. absurd (let fall = potential_step g k sound s p b.0 b.1 in omega arith)) (some_or_none (next g k s))
  run_enough (suc n) zero s p l h = ⊎_elim (λ e. run_stays g k (suc n) s e ∙ sym (run_zero g k s)) (λ b. absurd (let fall = potential_step g k sound s p b.0 b.1 in omega arith)) (some_or_none (next g k s))
  run_enough (suc n) (suc m) s p l h =
      ⊎_elim
      (λ e. run_stays g k (suc n) s e ∙ sym (run_stays g k (suc m) s e))
      (λ b. let fall = potential_step g k sound s p b.0 b.1 in
      let t = step g k b.0.0 s in
      run_takes g k n s b.0 b.1 ∙ run_enough n m t (sane_step g k sound b.0.0 s p) (omega arith) (omega arith) ∙ sym (run_takes g k m s b.0 b.1))
      (some_or_none (next g k s))

  -- the steps after the first are those from where it leads
  takes_enough : (n : ℕ) (s : Stage) → Sane g s → potential g k s ≤ n → (b : ℕ × ℕ) → next g k s ≡ Some b → run g k n s ≡ finish g k (step g k b.0 s)
  takes_enough zero s p l b e = absurd (let fall = potential_step g k sound s p b e in omega arith)
  takes_enough (suc n) s p l b e =
      let t = step g k b.0 s in
      let fall = potential_step g k sound s p b e in
      run_takes g k n s b e ∙ run_enough n (potential g k t) t (sane_step g k sound b.0 s p) (omega arith) (omega arith) ∙ sym (finish_is g k t)

  pub finish_step : (s : Stage) → Sane g s → (b : ℕ × ℕ) → next g k s ≡ Some b → finish g k (step g k b.0 s) ≡ finish g k s
  finish_step s p b e = sym (finish_is g k s ∙ takes_enough (potential g k s) s p (omega arith) b e)

  -- where the steps end nothing is next
  rests : (n : ℕ) (s : Stage) → Sane g s → potential g k s ≤ n → next g k (run g k n s) ≡ None
  rests zero s p l = ⊎_elim (λ e. ap (next g k) (run_zero g k s) ∙ e) (λ b. absurd (let fall = potential_step g k sound s p b.0 b.1 in omega arith)) (some_or_none (next g k s))
  rests (suc n) s p l =
      ⊎_elim
      (λ e. ap (next g k) (run_stays g k (suc n) s e) ∙ e)
      (λ b. let fall = potential_step g k sound s p b.0 b.1 in
      ap (next g k) (run_takes g k n s b.0 b.1) ∙ rests n (step g k b.0.0 s) (sane_step g k sound b.0.0 s p) (omega arith))
      (some_or_none (next g k s))

  pub run_rests : (s : Stage) → Sane g s → next g k (finish g k s) ≡ None
  run_rests s p = ap (next g k) (finish_is g k s) ∙ rests (potential g k s) s p (omega arith)
