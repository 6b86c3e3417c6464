-- What the least tells of the others, for callers. Assumes nothing.
use Rattle.std.proofs.Common.{◌≡◌, ℕ, zero, suc, ◌<◌, Bool, true, false, cond, Some, None, Option, sym, refl, ap, ◌∙◌, ⊎_elim, arith}
use Rattle.std.proofs.lemmas.Bool.{cases_eq}
use Rattle.std.specs.Cmp.{IsStrictWeakOrder}
use Rattle.std.proofs.lemmas.Bool.Decides.{nat_tests}
use Rattle.queue.specs.declared.key.Key.{Key}
use Rattle.queue.specs.Keys.{key_before}
use Rattle.queue.specs.Waiting.{lesser, least_of}
use Rattle.queue.proofs.Least.{least_suc}
use Rattle.queue.proofs.Sifting.{itself}

-- two keys of which neither is before the other are one
pub key_total : (k l : Key) → key_before k l ≡ false → key_before l k ≡ false → k ≡ l
key_total k l p q =
    let h : k.height ≡ l.height = grind (arith, nat_tests) in
    let j : k.junction ≡ l.junction = grind (arith, nat_tests) in
    λ i. record { height = h i; junction = j i }

module _ {X : Type 0} (before : X → X → Bool) (w : ℕ → Option X) where
  neither : (o p : Option X) → lesser before o p ≡ None → (o ≡ None) × (p ≡ None)
  neither None p e = (refl, e)
  neither (Some x) None e = cc
  neither (Some x) (Some y) e = go (before y x) e
    where
      go : (b : Bool) → cond b (Some y) (Some x) ≡ None → (Some x ≡ None) × (Some y ≡ None)
      go true q = cc
      go false q = cc

  -- where there is no least, nothing waits
  pub least_empty : (n h : ℕ) → least_of before w n ≡ None → h < n → w h ≡ None
  least_empty zero h e l = absurd (omega arith)
  least_empty (suc n) h e l =
      let parts = neither (least_of before w n) (w n) (sym (least_suc before w n) ∙ e) in
      ⊎_elim (λ q. ap w q ∙ parts.1) (λ q. least_empty n h parts.0 (omega arith)) (cases_eq h n)

  module _ (o : IsStrictWeakOrder before) where
    module _ (n h : ℕ) (x y : X) (i : w h ≡ Some y) (below : (z : X) → least_of before w n ≡ Some z → h < n → before y z ≡ false) (l : h < suc n) where
      at_n : (b : X) → h ≡ n → w n ≡ Some b → y ≡ b
      at_n b q r = cc (ap w q)

      step : (o p : Option X) → least_of before w n ≡ o → w n ≡ p → lesser before o p ≡ Some x → before y x ≡ false
      step None p f g q =
          ⊎_elim
          (λ r. ap (λ z. before z x) (at_n x r (g ∙ q)) ∙ itself before o x)
          (λ r. cc (least_empty n h f (omega arith)))
          (cases_eq h n)
      step (Some a) None f g q = ⊎_elim (λ r. cc (ap w r)) (λ r. below x (f ∙ q) (omega arith)) (cases_eq h n)
      step (Some a) (Some b) f g q = go (before b a) refl q
        where
          go : (t : Bool) → before b a ≡ t → cond t (Some b) (Some a) ≡ Some x → before y x ≡ false
          go true s u =
              let v : b ≡ x = cc in
              ⊎_elim
              (λ r. ap (λ z. before z x) (at_n b r g ∙ v) ∙ itself before o x)
              (λ r. ap (before y) (sym v) ∙ o.chain y a b (below a f (omega arith)) (o.one_way b a s))
              (cases_eq h n)
          go false s u =
              let v : a ≡ x = cc in
              ⊎_elim
              (λ r. ap (λ z. before z x) (at_n b r g) ∙ ap (before b) (sym v) ∙ s)
              (λ r. ap (before y) (sym v) ∙ below a f (omega arith))
              (cases_eq h n)

    -- nothing that waits is before the least
    pub least_first : (n h : ℕ) (x y : X) → least_of before w n ≡ Some x → h < n → w h ≡ Some y → before y x ≡ false
    least_first zero h x y e l i = absurd (omega arith)
    least_first (suc n) h x y e l i = step n h x y i (λ z f m. least_first n h z y f m i) l (least_of before w n) (w n) refl refl (sym (least_suc before w n) ∙ e)
