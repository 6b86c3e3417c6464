-- When an element is the least of what waits. Assumes nothing.
use Rattle.std.proofs.Common.{◌≡◌, ℕ, zero, suc, ◌<◌, Bool, true, false, cond, ◌⊎◌, Some, None, Option, sym, refl, ap, ◌∙◌, subst, ap₂, inl, inr, ⊎_elim, arith}
use Rattle.std.proofs.lemmas.Bool.{cases_eq}
use Rattle.queue.specs.Waiting.{lesser, least_of}

module _ {X : Type 0} (before : X → X → Bool) (w : ℕ → Option X) where
  least_zero : least_of before w 0 ≡ None
  unfolding least_of
  least_zero = refl

  pub least_suc : (n : ℕ) → least_of before w (suc n) ≡ lesser before (least_of before w n) (w n)
  unfolding least_of
  least_suc n = refl

  pub least_none : (n : ℕ) → ((h : ℕ) → h < n → w h ≡ None) → least_of before w n ≡ None
  least_none zero none = least_zero
  least_none (suc n) none = least_suc n ∙ ap₂ (lesser before) (least_none n (λ h l. none h (omega arith))) (none n (omega arith))

  one_of : (o p : Option X) (y : X) → lesser before o p ≡ Some y → (o ≡ Some y) ⊎ (p ≡ Some y)
  one_of None p y e = inr e
  one_of (Some x) None y e = inl e
  one_of (Some x) (Some z) y e = go (before z x) e
    where
      go : (b : Bool) → cond b (Some z) (Some x) ≡ Some y → (Some x ≡ Some y) ⊎ (Some z ≡ Some y)
      go true q = inr q
      go false q = inl q

  -- the least waits under one of the handles
  pub least_waits : (n : ℕ) (y : X) → least_of before w n ≡ Some y → (h : ℕ) × (h < n) × (w h ≡ Some y)
  least_waits zero y e = let z : ◌≡◌ {A = ℕ} 0 1 = (let a = least_zero in cc) in absurd (omega arith)
  least_waits (suc n) y e =
      ⊎_elim
      (λ q. let r = least_waits n y q in (r.0, (let a = r.1 in omega arith), r.2))
      (λ q. (n, omega arith, q))
      (one_of (least_of before w n) (w n) y (sym (least_suc n) ∙ e))

  -- x waits under g, nothing that waits is before it, and it is before what waits elsewhere
  module _ (g : ℕ) (x : X) (here : w g ≡ Some x) (first : (h : ℕ) (y : X) → w h ≡ Some y → before y x ≡ false) (apart : (h : ℕ) (y : X) → w h ≡ Some y → (h ≡ g → ⊥) → before x y ≡ true) where
    stays : (h : ℕ) (o : Option X) → w h ≡ o → lesser before (Some x) o ≡ Some x
    stays h None e = refl
    stays h (Some y) e = ap (λ b. cond b (Some y) (Some x)) (first h y e)

    comes : (n : ℕ) (o : Option X) → least_of before w n ≡ o → ((h : ℕ) → h < n → (h ≡ g → ⊥)) → lesser before o (Some x) ≡ Some x
    comes n None e away = refl
    comes n (Some y) e away = let r = least_waits n y e in ap (λ b. cond b (Some x) (Some y)) (apart r.0 y r.2 (away r.0 r.1))

    pub is_least : (n : ℕ) → g < n → least_of before w n ≡ Some x
    is_least zero l = absurd (omega arith)
    is_least (suc n) l =
        ⊎_elim
        (λ e. least_suc n ∙ ap (lesser before (least_of before w n)) (subst (λ k. w k ≡ Some x) e here) ∙ comes n (least_of before w n) refl (λ h m q. omega arith))
        (λ m. least_suc n ∙ ap (λ o. lesser before o (w n)) (is_least n (omega arith)) ∙ stays n (w n) refl)
        (cases_eq g n)
