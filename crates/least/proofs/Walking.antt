-- The least of what an arc's points take, one point after another. Assumes nothing.
use Rattle.std.proofs.Common.{◌≡◌, ℕ, ◌+◌, ◌-◌, ◌≤◌, min, List, get_or, refl, inl, inr, sym, ap, ◌∙◌, subst, ⊎_elim, arith}
use Rattle.std.proofs.lemmas.Bool.{cases_lt, cases_eq}
use Rattle.std.specs.Iterator.Adapters.{zip_first, zip_second}
use Rattle.std.specs.Slice.Iter.{iter_rest}
use Rattle.std.specs.declared.iter.Zip.{Zip}
use Rattle.std.specs.declared.slice.Iter.{Iter}
use Rattle.least.specs.Points.{LeastAtPoints}

module _ (departures arrivals : List ℕ) (first last start : ℕ) where
  abbrev LeastSoFar : (n least : ℕ) → Type 0
  LeastSoFar n least = LeastAtPoints departures arrivals first last start n least

  pub none_yet : LeastSoFar 0 start
  none_yet = record { met = inl refl; start_not_less = omega arith; points_not_less = λ k l. absurd (omega arith) }

  -- one more point: within it counts, and outside it does not
  pub one_within : (n m least x y : ℕ) → LeastSoFar n least → m ≡ n + 1 → x ≡ get_or departures n 0 → y ≡ get_or arrivals n 0 → first ≤ x → x ≤ last → LeastSoFar m (min least (y - x))
  one_within n m least x y so more dx ay low high =
      let below = so.start_not_less in
      record {
        met =
            ⊎_elim
            (λ l.
            let e : min least (y - x) ≡ least = omega arith in
            ⊎_elim (λ s. inl (e ∙ s)) (λ s. inr (s.0, let k = s.1 in omega arith, s.2, s.3, e ∙ s.4)) so.met)
            (λ l. inr (n, omega arith, omega arith, omega arith, (let e : min least (y - x) ≡ get_or arrivals n 0 - get_or departures n 0 = omega arith in e)))
            (cases_lt least (y - x));
        start_not_less = omega arith;
        points_not_less = λ k l p q.
            ⊎_elim
            (λ e. subst (λ i. min least (y - x) ≤ get_or arrivals i 0 - get_or departures i 0) (sym e) (omega arith))
            (λ e. let r = so.points_not_less k (omega arith) p q in omega arith)
            (cases_eq k n);
      }

  pub one_outside : (n m least x : ℕ) → LeastSoFar n least → m ≡ n + 1 → x ≡ get_or departures n 0 → (first ≤ x → x ≤ last → ⊥) → LeastSoFar m least
  one_outside n m least x so more dx out =
      record {
        met = ⊎_elim inl (λ s. inr (s.0, let k = s.1 in omega arith, s.2, s.3, s.4)) so.met;
        start_not_less = so.start_not_less;
        points_not_less = λ k l p q.
            ⊎_elim
            (λ e. let f = ap (λ i. get_or departures i 0) e in absurd (out (omega arith) (omega arith)))
            (λ e. so.points_not_less k (omega arith) p q)
            (cases_eq k n);
      }

-- a zip of two slices starts at their first elements
pub zip_starts : (s z : Zip (Iter ℕ) (Iter ℕ)) (i : Iter ℕ) (xs ys : List ℕ) → s ≡ z → z.a ≡ i → iter_rest i ≡ xs → iter_rest z.b ≡ ys → (iter_rest (zip_first s) ≡ xs) × (iter_rest (zip_second s) ≡ ys)
zip_starts s z i xs ys e f g h = (ap (λ s. iter_rest (zip_first s)) e ∙ ap iter_rest f ∙ g, ap (λ s. iter_rest (zip_second s)) e ∙ h)
