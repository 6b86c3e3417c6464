-- What seconds that cut a day keep, and the segment that holds a second. Assumes nothing.
use Rattle.std.proofs.Common.{◌≡◌, ℕ, ◌+◌, ◌-◌, ◌<◌, ◌≤◌, Bool, true, false, zero, suc, ltb, leb, List, length, get_or, Some, None, refl, sym, ap, subst, ⊎_elim, arith}
use Rattle.std.proofs.Math.ListN.{get_or-eq_default}
use Rattle.std.proofs.lemmas.Bool.{cases_lt, false_from_ne_true, le-leb, lt-ltb, ltb-true}
use Rattle.std.proofs.lemmas.Bool.Decides.{nat_tests}
use Rattle.std.proofs.lemmas.Grind.{get_or_default_zero}
use Rattle.network.specs.First.{every, provided}
use Rattle.network.specs.Lists.{runs, LowerBound}
use Rattle.network.proofs.First.{clash, first_none, first_at, every_below, every_from, climb, provided_true, provided_false}
use Rattle.network.proofs.Following.{some_same, provided_says}
use Rattle.network.proofs.Refusing.{Runs, runs_says, runs_from}
use Rattle.least.specs.Segments.{cuts_day, segment_end, in_segment, segment_at, segment_span}

module _ (firsts : List ℕ) where
  -- what they keep, one by one
  pub record Whole : Type 0 where
    pub some : 1 ≤ length firsts
    pub few : length firsts ≤ 8
    pub from : get_or firsts 0 0 ≡ 0
    pub rise : (s : ℕ) → s < length firsts - 1 → get_or firsts s 0 < get_or firsts (s + 1) 0
    pub early : (s : ℕ) → s < length firsts → get_or firsts s 0 ≤ 86400

  abbrev rises_at : ℕ → Bool
  rises_at s = ltb (get_or firsts s 0) (get_or firsts (s + 1) 0)

  abbrev early_at : ℕ → Bool
  early_at s = leb (get_or firsts s 0) 86400

  pub whole_says : cuts_day firsts ≡ true → Whole
  unfolding cuts_day
  whole_says e =
      let rising : every rises_at (length firsts - 1) ≡ true = grind (arith, nat_tests) in
      let early : every early_at (length firsts) ≡ true = grind (arith, nat_tests) in
      record {
        some = grind (arith, nat_tests);
        few = grind (arith, nat_tests);
        from = grind (arith, nat_tests);
        rise = λ s l. let here = every_below rises_at (length firsts - 1) rising s l in grind (arith, nat_tests);
        early = λ s l. let here = every_below early_at (length firsts) early s l in grind (arith, nat_tests);
      }

  pub whole_cuts : Whole → cuts_day firsts ≡ true
  unfolding cuts_day
  whole_cuts w =
      let some = w.some in
      let few = w.few in
      let from = w.from in
      let rising = every_from rises_at (length firsts - 1) (λ s l. lt-ltb (get_or firsts s 0) (get_or firsts (s + 1) 0) (w.rise s l)) in
      let early = every_from early_at (length firsts) (λ s l. le-leb (get_or firsts s 0) 86400 (w.early s l)) in
      grind (arith, nat_tests)

  pub miscounted : (1 ≤ length firsts → length firsts ≤ 8 → ⊥) → cuts_day firsts ≡ false
  miscounted h = false_from_ne_true (cuts_day firsts) (λ e. let w = whole_says e in h w.some w.few)

  pub too_late : 1 ≤ length firsts → 86400 < get_or firsts (length firsts - 1) 0 → cuts_day firsts ≡ false
  too_late l m = false_from_ne_true (cuts_day firsts) (λ e. let w = (whole_says e).early (length firsts - 1) (omega arith) in absurd (omega arith))

  -- where the last is early enough, it is enough that they run to it
  pub runs_cut : 1 ≤ length firsts → length firsts ≤ 8 → get_or firsts (length firsts - 1) 0 ≤ 86400 → runs firsts 1 (get_or firsts (length firsts - 1) 0) ≡ cuts_day firsts
  runs_cut some few early = go (runs firsts 1 (get_or firsts (length firsts - 1) 0)) refl
    where
      forth : Runs firsts 1 (get_or firsts (length firsts - 1) 0) → Whole
      forth r =
          record {
            some = some;
            few = few;
            from = r.from;
            rise = λ s l. let k = r.steps s l in omega arith;
            early = λ s l. let k = climb (λ p. get_or firsts p 0) 0 (length firsts) (λ p m n. let k = r.steps p (omega arith) in grind arith) s (length firsts - 1) (omega arith) (omega arith) (omega arith) in omega arith;
          }

      back : Whole → Runs firsts 1 (get_or firsts (length firsts - 1) 0)
      back w = record { some = omega arith; from = w.from; to = refl; steps = λ s l. let k = w.rise s l in omega arith }

      go : (b : Bool) → runs firsts 1 (get_or firsts (length firsts - 1) 0) ≡ b → b ≡ cuts_day firsts
      go true e = sym (whole_cuts (forth (runs_says firsts 1 (get_or firsts (length firsts - 1) 0) e)))
      go false e = sym (false_from_ne_true (cuts_day firsts) (λ t. let k = runs_from firsts 1 (get_or firsts (length firsts - 1) 0) (back (whole_says t)) in cc))

  -- a segment that is not the last ends where the next begins, and the last at 86,401
  pub ends_at_next : (s : ℕ) → s + 1 < length firsts → segment_end firsts s ≡ get_or firsts (s + 1) 0
  ends_at_next s l = get_or_default_zero firsts (s + 1) 86401 l

  pub last_ends : (s : ℕ) → length firsts ≤ s + 1 → segment_end firsts s ≡ 86401
  last_ends s l = get_or-eq_default firsts 86401 l

  -- what a segment's span is, and that there is none past the last
  pub span_says : (s f e : ℕ) → Some (f, e) ≡ segment_span firsts s → (s < length firsts) × (f ≡ get_or firsts s 0) × (e ≡ segment_end firsts s)
  span_says s f e h =
      let k = provided_says (ltb s (length firsts)) (get_or firsts s 0, segment_end firsts s) (f, e) (sym h) in
      (ltb-true s (length firsts) k.0, sym (ap (λ p. p.0) k.1), sym (ap (λ p. p.1) k.1))

  pub no_span : (s : ℕ) → None ≡ segment_span firsts s → length firsts ≤ s
  no_span s h = ⊎_elim (λ l. clash (segment_span firsts s) (get_or firsts s 0, segment_end firsts s) (provided_true _ _ (lt-ltb s (length firsts) l)) (sym h)) (λ l. l) (cases_lt s (length firsts))

  module _ (w : Whole) where
    pub firsts_rise : (i j : ℕ) → i ≤ j → j < length firsts → get_or firsts i 0 ≤ get_or firsts j 0
    firsts_rise i j l m = climb (λ p. get_or firsts p 0) 0 (length firsts) (λ p k n. let r = w.rise p (omega arith) in grind arith) i j (omega arith) l m

    -- a segment has a second, and ends at 86,401 or before
    pub span_within : (s : ℕ) → s < length firsts → (get_or firsts s 0 < segment_end firsts s) × (segment_end firsts s ≤ 86401)
    span_within s l =
        ⊎_elim
        (λ m.
        let e = ends_at_next s m in
        let r = w.rise s (omega arith) in
        let k = w.early (s + 1) m in
        (omega arith, omega arith))
        (λ m. let e = last_ends s m in let k = w.early s l in (omega arith, omega arith))
        (cases_lt (s + 1) (length firsts))

    -- the segment that holds a second is the one that is found
    pub found_at : (s t : ℕ) → s < length firsts → get_or firsts s 0 ≤ t → t < segment_end firsts s → segment_at firsts t ≡ Some s
    unfolding segment_at
    found_at s t l m n =
        first_at (λ k. provided (in_segment firsts k t) k) (length firsts) s s l
        (λ j k.
        let e = ends_at_next j (omega arith) in
        let r = firsts_rise (j + 1) s (omega arith) l in
        provided_false (in_segment firsts j t) j (grind (arith, nat_tests)))
        (provided_true (in_segment firsts s t) s (grind (arith, nat_tests)))

    pub none_past : (t : ℕ) → 86400 < t → segment_at firsts t ≡ None
    unfolding segment_at
    none_past t l =
        first_none (λ k. provided (in_segment firsts k t) k) (length firsts)
        (λ j k. let e = (span_within j k).1 in provided_false (in_segment firsts j t) j (grind (arith, nat_tests)))

    holding : (t n : ℕ) → n < length firsts → t < segment_end firsts n → (s : ℕ) × (s < length firsts) × (get_or firsts s 0 ≤ t) × (t < segment_end firsts s)
    holding t zero l h = let z = w.from in (0, l, omega arith, h)
    holding t (suc n) l h =
        ⊎_elim
        (λ m. holding t n (omega arith) (let e = ends_at_next n (omega arith) in grind arith))
        (λ m. (suc n, l, m, h))
        (cases_lt t (get_or firsts (suc n) 0))

    -- each second up to 86,400 is held by a segment
    pub held : (t : ℕ) → t ≤ 86400 → (s : ℕ) × (s < length firsts) × (get_or firsts s 0 ≤ t) × (t < segment_end firsts s)
    held t l =
        let some = w.some in
        let e = last_ends (length firsts - 1) (omega arith) in
        holding t (length firsts - 1) (omega arith) (omega arith)

    -- what is found is there, and holds the second
    pub found_holds : (s t : ℕ) → segment_at firsts t ≡ Some s → (s < length firsts) × (get_or firsts s 0 ≤ t) × (t < segment_end firsts s)
    found_holds s t e =
        ⊎_elim
        (λ m. clash (segment_at firsts t) s e (none_past t m))
        (λ m.
        let h = held t m in
        let k = some_same (segment_at firsts t) s h.0 e (found_at h.0 t h.1 h.2 h.3) in
        subst (λ n. (n < length firsts) × (get_or firsts n 0 ≤ t) × (t < segment_end firsts n)) (sym k) (h.1, h.2, h.3))
        (cases_lt 86400 t)

    -- the segment before a lower bound of the second after t holds t
    pub bound_found : (t r : ℕ) → t ≤ 86400 → LowerBound firsts (t + 1) r → (1 ≤ r) × (segment_at firsts t ≡ Some (r - 1))
    bound_found t r l b =
        let some = w.some in
        let from = w.from in
        let within = b.within in
        let one : 1 ≤ r = ⊎_elim (λ z. let k = b.after (omega arith) in absurd (grind arith)) (λ k. k) (cases_lt r 1) in
        let low = b.before one in
        let e : r - 1 + 1 ≡ r = omega arith in
        let end : t < segment_end firsts (r - 1) =
        ⊎_elim
        (λ m. let k = ends_at_next (r - 1) (omega arith) in let h = b.after m in let f = ap (λ n. get_or firsts n 0) e in omega arith)
        (λ m. let k = last_ends (r - 1) (omega arith) in omega arith)
        (cases_lt r (length firsts)) in
        (one, found_at (r - 1) t (omega arith) (omega arith) end)
