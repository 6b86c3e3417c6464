-- What `first_of` and `every` say of each number. Assumes nothing.
use Rattle.std.proofs.Common.{◌≡◌, ℕ, zero, suc, ◌<◌, ◌≤◌, Bool, true, false, ◌&&◌, is_some, Some, None, Option, sym, refl, ap, ◌∙◌, subst, ⊎_elim, arith}
use Rattle.std.specs.Option.{option_or}
use Rattle.std.proofs.lemmas.Bool.{and_parts, and_from, cases_eq, cases_lt}
use Rattle.network.specs.First.{first_of, every, unless, provided}

-- a value is not nothing
pub clash : {X : Type 0} {A : Type 0} (o : Option X) (x : X) → o ≡ Some x → o ≡ None → A
clash o x p q = let z : ◌≡◌ {A = ℕ} 0 1 = cc in absurd (omega arith)

pub is_none : {X : Type 0} (o : Option X) → is_some o ≡ false → o ≡ None
is_none None e = refl
is_none (Some x) e = let z : ◌≡◌ {A = ℕ} 0 1 = cc in absurd (omega arith)

pub none_is : {X : Type 0} (o : Option X) → o ≡ None → is_some o ≡ false
none_is o e = ap is_some e

-- both parts of an `option_or` that answers nothing
pub or_none : {X : Type 0} (o p : Option X) → option_or o p ≡ None → (o ≡ None) × (p ≡ None)
or_none None p e = (refl, e)
or_none (Some x) p e = clash (Some x) x refl e

pub unless_none : {X : Type 0} (b : Bool) (x : X) → unless b x ≡ None → b ≡ true
unless_none true x e = refl
unless_none false x e = clash (Some x) x refl e

pub unless_true : {X : Type 0} (b : Bool) (x : X) → b ≡ true → unless b x ≡ None
unless_true b x e = ap (λ t. unless t x) e

pub unless_false : {X : Type 0} (b : Bool) (x : X) → b ≡ false → unless b x ≡ Some x
unless_false b x e = ap (λ t. unless t x) e

pub provided_true : {X : Type 0} (b : Bool) (x : X) → b ≡ true → provided b x ≡ Some x
provided_true b x e = ap (λ t. provided t x) e

pub provided_false : {X : Type 0} (b : Bool) (x : X) → b ≡ false → provided b x ≡ None
provided_false b x e = ap (λ t. provided t x) e

module _ {X : Type 0} (f : ℕ → Option X) where
  pub first_zero : first_of f 0 ≡ None
  unfolding first_of
  first_zero = refl

  first_suc : (n : ℕ) → first_of f (suc n) ≡ option_or (first_of f n) (f n)
  unfolding first_of
  first_suc n = refl

  pub first_none : (n : ℕ) → ((i : ℕ) → i < n → f i ≡ None) → first_of f n ≡ None
  first_none zero h = first_zero
  first_none (suc n) h = first_suc n ∙ ap (λ o. option_or o (f n)) (first_none n (λ i l. h i (omega arith))) ∙ h n (omega arith)

  -- nothing before i, and an answer at i
  pub first_at : (n i : ℕ) (x : X) → i < n → ((j : ℕ) → j < i → f j ≡ None) → f i ≡ Some x → first_of f n ≡ Some x
  first_at zero i x l h e = absurd (omega arith)
  first_at (suc n) i x l h e =
      ⊎_elim
      (λ p. first_suc n ∙ ap (λ o. option_or o (f n)) (first_none n (λ j m. h j (omega arith))) ∙ subst (λ k. f k ≡ Some x) p e)
      (λ p. first_suc n ∙ ap (λ o. option_or o (f n)) (first_at n i x (omega arith) h e))
      (cases_eq i n)

  pub none_below : (n : ℕ) → first_of f n ≡ None → (i : ℕ) → i < n → f i ≡ None
  none_below zero e i l = absurd (omega arith)
  none_below (suc n) e i l =
      let parts = or_none (first_of f n) (f n) (sym (first_suc n) ∙ e) in
      ⊎_elim
      (λ p. subst (λ k. f k ≡ None) (sym p) parts.1)
      (λ p. none_below n parts.0 i (omega arith))
      (cases_eq i n)

module _ (p : ℕ → Bool) where
  pub every_zero : every p 0 ≡ true
  unfolding every
  every_zero = refl

  every_suc : (n : ℕ) → every p (suc n) ≡ (every p n && p n)
  unfolding every
  every_suc n = refl

  pub every_below : (n : ℕ) → every p n ≡ true → (i : ℕ) → i < n → p i ≡ true
  every_below zero e i l = absurd (omega arith)
  every_below (suc n) e i l =
      let parts = and_parts (every p n) (p n) (sym (every_suc n) ∙ e) in
      ⊎_elim
      (λ q. subst (λ k. p k ≡ true) (sym q) parts.1)
      (λ q. every_below n parts.0 i (omega arith))
      (cases_eq i n)

  pub every_from : (n : ℕ) → ((i : ℕ) → i < n → p i ≡ true) → every p n ≡ true
  every_from zero h = every_zero
  every_from (suc n) h = every_suc n ∙ and_from (every p n) (p n) (every_from n (λ i l. h i (omega arith))) (h n (omega arith))

-- what does not fall at any step does not fall over many
pub climb : (f : ℕ → ℕ) (first end : ℕ) → ((p : ℕ) → first ≤ p → suc p < end → f p ≤ f (suc p)) → (i j : ℕ) → first ≤ i → i ≤ j → j < end → f i ≤ f j
climb f first end step i zero l m n = subst (λ k. f k ≤ f 0) (let e : 0 ≡ i = omega arith in e) (omega arith)
climb f first end step i (suc j) l m n =
    ⊎_elim
    (λ h. let r = climb f first end step i j l (omega arith) (omega arith) in let s = step j (omega arith) n in omega arith)
    (λ h. subst (λ k. f k ≤ f (suc j)) (let e : suc j ≡ i = omega arith in e) (omega arith))
    (cases_lt i (suc j))
