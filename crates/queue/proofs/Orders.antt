-- An order by `cmp`, as a test of the element's own says it. Assumes nothing.
use Rattle.std.proofs.Common.{◌≡◌, ℕ, Bool, true, false, Ordering, Less, Equal, Greater, is_eq, is_lt, sym, refl, ap, ◌∙◌}
use Rattle.std.specs.Cmp.{IsTotalOrder, IsStrictWeakOrder}
use Rattle.std.specs.Ordering.{is_gt, ordering_reverse}
use Rattle.std.proofs.lemmas.Cmp.{upto}

turned : (r : Ordering) → is_gt (ordering_reverse r) ≡ is_lt r
turned Less = refl
turned Equal = refl
turned Greater = refl

not_both : (r : Ordering) → is_lt r ≡ true → is_gt r ≡ false
not_both Less e = refl
not_both Equal e = refl
not_both Greater e = sym e

neither : (r : Ordering) → is_lt r ≡ false → is_gt r ≡ false → is_eq r ≡ true
neither Less e f = sym e
neither Equal e f = refl
neither Greater e f = sym f

module _ {T : Type 0} {cmp : T → T → Ordering} {before : T → T → Bool} (total : IsTotalOrder cmp) (ordered : (x y : T) → is_lt (cmp x y) ≡ before x y) where
  behind : (x y : T) → is_gt (cmp y x) ≡ before x y
  behind x y = ap is_gt (total.antisymm y x) ∙ turned (cmp x y) ∙ ordered x y

  pub strict : IsStrictWeakOrder before
  strict = record {
    one_way = λ x y e. sym (behind y x) ∙ not_both (cmp x y) (ordered x y ∙ e);
    chain = λ x y z e f. sym (behind x z) ∙ upto total z y x (behind y z ∙ f) (behind x y ∙ e);
  }

  -- elements of which neither is before the other have one handle
  pub one_handle : {handled : T → ℕ} → ((x y : T) → is_eq (cmp x y) ≡ true → handled x ≡ handled y) → (x y : T) → before x y ≡ false → before y x ≡ false → handled x ≡ handled y
  one_handle level x y e f = level x y (neither (cmp x y) (ordered x y ∙ e) (behind y x ∙ f))
