-- What the list of the arcs' least times holds. Assumes nothing.
use Rattle.std.proofs.Common.{◌≡◌, ℕ, ◌<◌, ◌≤◌, Bool, true, ◌&&◌, leb, ltb, List, length, Some, map, get_or, sym, ap, ◌∙◌, subst, arith}
use Rattle.std.specs.List.{range_with_len}
use Rattle.std.proofs.lemmas.Bool.{and_parts, and_from, leb-true, le-leb}
use Rattle.std.proofs.lemmas.List.FromFn.{length-map-range_with_len, get_or-map-range_with_len}
use Rattle.network.proofs.First.{every_below, every_from}
use Rattle.network.proofs.Following.{provided_says}
use Rattle.clock.specs.Tables.{Tables}
use Rattle.least.specs.Times.{least_in_segment}
use Rattle.laying.specs.Costs.{costs_within, costs_of, TimesWithin}

within : List ℕ → ℕ → Bool
within list a = leb 1 (get_or list a 0) && leb (get_or list a 0) 172800

-- each time is 1 to 172,800
pub cost_within : (list : List ℕ) → costs_within list ≡ true → (a : ℕ) → a < length list → (1 ≤ get_or list a 0) × (get_or list a 0 ≤ 172800)
unfolding costs_within within
cost_within list e a l =
    let b = and_parts (leb 1 (get_or list a 0)) (leb (get_or list a 0) 172800) (every_below (within list) (length list) e a l) in
    (leb-true 1 (get_or list a 0) b.0, leb-true (get_or list a 0) 172800 b.1)

module _ (f : ℕ → ℕ) (n : ℕ) where
  pub made_long : (list : List ℕ) → list ≡ map f (range_with_len 0 n) → length list ≡ n
  made_long list e = ap length e ∙ length-map-range_with_len f 0 n

  pub made_at : (list : List ℕ) → list ≡ map f (range_with_len 0 n) → (a : ℕ) → a < n → get_or list a 0 ≡ f a
  made_at list e a l = ap (λ k. get_or k a 0) e ∙ get_or-map-range_with_len f 0 n a a 0 l (omega arith)

  pub made_within : (list : List ℕ) → list ≡ map f (range_with_len 0 n) → ((a : ℕ) → a < n → (1 ≤ f a) × (f a ≤ 172800)) → costs_within list ≡ true
  unfolding costs_within within
  made_within list e h = every_from (within list) (length list) (λ a l.
      let long = made_long list e in
      let k = h a (omega arith) in
      let at = made_at list e a (omega arith) in
      and_from (leb 1 (get_or list a 0)) (leb (get_or list a 0) 172800) (subst (λ x. leb 1 x ≡ true) (sym at) (le-leb 1 (f a) k.0)) (subst (λ x. leb x 172800 ≡ true) (sym at) (le-leb (f a) 172800 k.1)))

-- what the costs of a segment are
pub costs_say : (t : Tables) (firsts : List ℕ) (s : ℕ) (list : List ℕ) → Some list ≡ costs_of t firsts s → (length list ≡ length t.heads) × ((a : ℕ) → a < length t.heads → get_or list a 0 ≡ least_in_segment t firsts s a)
costs_say t firsts s list e =
    let f = least_in_segment t firsts s in
    let made = sym (provided_says (ltb s (length firsts)) (map f (range_with_len 0 (length t.heads))) list (sym e)).1 in
    (made_long f (length t.heads) list made, made_at f (length t.heads) list made)

-- costs of so many arcs, as they are lent
pub costs_fit : (list lent : List ℕ) (n : ℕ) → costs_within list ≡ true → lent ≡ list → length list ≡ n → TimesWithin n lent
costs_fit list lent n e same long = subst (TimesWithin n) (sym same) (record { long = long; within = λ a l. cost_within list e a (omega arith) })
