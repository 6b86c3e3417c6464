-- The least key that waits is not above any other. Assumes nothing.
use Rattle.std.proofs.Common.{◌≡◌, ℕ, zero, suc, ◌<◌, ◌≤◌, Bool, true, false, cond, Some, None, Option, sym, refl, ap, ◌∙◌, ⊎_elim, arith}
use Rattle.std.proofs.lemmas.Bool.{cases_eq}
use Rattle.std.proofs.lemmas.Bool.Decides.{nat_tests}
use Rattle.network.proofs.First.{clash}
use Rattle.network.proofs.Following.{some_same}
use Rattle.queue.specs.declared.key.Key.{Key}
use Rattle.queue.specs.Keys.{key_before}
use Rattle.queue.specs.Waiting.{lesser, least_of}
use Rattle.queue.proofs.Least.{least_suc}

not_first : (x y : Key) → key_before y x ≡ false → x.height ≤ y.height
not_first x y e = grind (arith, nat_tests)

first : (x y : Key) → key_before y x ≡ true → y.height ≤ x.height
first x y e = grind (arith, nat_tests)

-- the lesser of two is neither's height above
lesser_low : (o p : Option Key) (x : Key) → lesser key_before o p ≡ Some x → ((y : Key) → o ≡ Some y → x.height ≤ y.height) × ((y : Key) → p ≡ Some y → x.height ≤ y.height)
lesser_low None p x e = (λ y s. clash (Some y) y refl (sym s), λ y s. same p x y e s)
  where
    same : (p : Option Key) (x y : Key) → p ≡ Some x → p ≡ Some y → x.height ≤ y.height
    same p x y e s = let h = ap (λ k. k.height) (some_same p x y e s) in omega arith
lesser_low (Some z) None x e = (λ y s. same (Some z) x y e s, λ y s. clash (Some y) y refl (sym s))
  where
    same : (p : Option Key) (x y : Key) → p ≡ Some x → p ≡ Some y → x.height ≤ y.height
    same p x y e s = let h = ap (λ k. k.height) (some_same p x y e s) in omega arith
lesser_low (Some z) (Some w) x e = go (key_before w z) refl e
  where
    go : (b : Bool) → key_before w z ≡ b → cond b (Some w) (Some z) ≡ Some x → ((y : Key) → Some z ≡ Some y → x.height ≤ y.height) × ((y : Key) → Some w ≡ Some y → x.height ≤ y.height)
    go true t q =
        let l = first z w t in
        let i = ap (λ k. k.height) (some_same (Some w) w x refl q) in (
          λ y s. let j = ap (λ k. k.height) (some_same (Some z) z y refl s) in omega arith,
          λ y s. let j = ap (λ k. k.height) (some_same (Some w) w y refl s) in omega arith,
        )
    go false t q =
        let l = not_first z w t in
        let i = ap (λ k. k.height) (some_same (Some z) z x refl q) in (
          λ y s. let j = ap (λ k. k.height) (some_same (Some z) z y refl s) in omega arith,
          λ y s. let j = ap (λ k. k.height) (some_same (Some w) w y refl s) in omega arith,
        )

neither : (o p : Option Key) → lesser key_before o p ≡ None → (o ≡ None) × (p ≡ None)
neither None p e = (refl, e)
neither (Some z) None e = clash (Some z) z refl e
neither (Some z) (Some w) e = go (key_before w z) e
  where
    go : (b : Bool) → cond b (Some w) (Some z) ≡ None → (Some z ≡ None) × (Some w ≡ None)
    go true q = clash (Some w) w refl q
    go false q = clash (Some z) z refl q

module _ (w : ℕ → Option Key) where
  pub nothing_waits : (n : ℕ) → least_of key_before w n ≡ None → (h : ℕ) → h < n → w h ≡ None
  nothing_waits zero e h l = absurd (omega arith)
  nothing_waits (suc n) e h l =
      let both = neither (least_of key_before w n) (w n) (sym (least_suc key_before w n) ∙ e) in
      ⊎_elim
      (λ p. ap w p ∙ both.1)
      (λ p. nothing_waits n both.0 h (omega arith))
      (cases_eq h n)

  pub least_low : (n : ℕ) (x : Key) → least_of key_before w n ≡ Some x → (h : ℕ) (y : Key) → h < n → w h ≡ Some y → x.height ≤ y.height
  least_low zero x e h y l s = absurd (omega arith)
  least_low (suc n) x e h y l s =
      let both = lesser_low (least_of key_before w n) (w n) x (sym (least_suc key_before w n) ∙ e) in
      ⊎_elim
      (λ p. both.1 y (ap w (sym p) ∙ s))
      (λ p. below (least_of key_before w n) refl both.0 (λ z q. least_low n z q h y (omega arith) s) (λ q. clash (w h) y s (nothing_waits n q h (omega arith))))
      (cases_eq h n)
    where
      below : (o : Option Key) → least_of key_before w n ≡ o → ((z : Key) → o ≡ Some z → x.height ≤ z.height) → ((z : Key) → least_of key_before w n ≡ Some z → z.height ≤ y.height) → (least_of key_before w n ≡ None → x.height ≤ y.height) → x.height ≤ y.height
      below None q i some none = none q
      below (Some z) q i some none = let l = i z refl in let n = some z q in omega arith
