-- Items rise and sink, and the top of a heap is its least. Assumes nothing.
use Rattle.std.proofs.Common.{◌≡◌, ℕ, zero, suc, ◌+◌, ◌-◌, ◌*◌, ◌/◌, ◌<◌, ◌≤◌, Bool, true, false, refl, ap, ◌∙◌, ap₂, ⊎_elim, arith}
use Rattle.std.proofs.lemmas.Bool.{cases_eq}
use Rattle.std.specs.Cmp.{IsStrictWeakOrder}
use Rattle.queue.specs.Room.{Swapped}
use Rattle.queue.specs.Heap.{Child, Heap, Loose, Gap}

module _ {T : Type 0} (before : T → T → Bool) where
  both : {a b x y : T} → a ≡ x → b ≡ y → before x y ≡ false → before a b ≡ false
  both p q h = ap₂ before p q ∙ h

  -- what stands at j is not before its parent any more
  pub settles : (f : ℕ → T) (len j : ℕ) → Loose before f len j → (0 < j → before (f j) (f ((j - 1) / 2)) ≡ false) → Gap before f len j
  settles f len j h up = (
    λ p k c l n.
        let a = c.0 in
        let b = c.1 in
        ⊎_elim (λ e. both (ap f e) (ap f (let q : p ≡ (j - 1) / 2 = omega arith in q)) (up (omega arith))) (λ m. h.0 p k c l n m) (cases_eq k j),
    h.1,
  )

  -- without children
  pub rests : (f : ℕ → T) (len j : ℕ) → len ≤ j * 2 + 1 → Gap before f len j → Heap before f len
  rests f len j l h = λ p k c m. h.0 p k c m (let a = c.0 in let b = c.1 in λ e. omega arith)

  module _ (o : IsStrictWeakOrder before) where
    -- one item written, below m
    pub loosens : (f g : ℕ → T) (len m j : ℕ) → Heap before f len → ((i : ℕ) → i < m → (i ≡ j → ⊥) → (i < len) × (g i ≡ f i)) → Loose before g m j
    loosens f g len m j h same = (
      λ p k c l np nk. let a = c.0 in let x = same k l nk in let y = same p (omega arith) np in both x.1 y.1 (h p k c x.0),
      λ p k c e l.
          let a = c.0 in
          let b = e.0 in
          let x = same k l (λ q. omega arith) in
          let y = same p (omega arith) (λ q. omega arith) in
          let u = x.0 in
          both x.1 y.1 (o.chain (f k) (f j) (f p) (h j k e u) (h p j c (omega arith))),
    )

    -- the item at j has traded places with its parent q
    pub rises : (f g : ℕ → T) (len j q : ℕ) → Child q j → j < len → Swapped f g j q → Loose before f len j → Loose before g len q
    rises f g len j q c l s h =
        let a = c.0 in
        let b = c.1 in (
          λ p k e m np nk.
              let u = e.0 in
              let v = e.1 in
              ⊎_elim
              (λ w. both (s.2 k (λ z. omega arith) (λ z. omega arith)) (ap g w ∙ s.0) (h.1 q k c (omega arith, omega arith) m))
              (λ w. both (s.2 k (λ z. omega arith) nk) (s.2 p w np) (h.0 p k e m w (λ z. omega arith)))
              (cases_eq p j),
          λ p k e r m.
              let u = e.0 in
              let v = e.1 in
              let x = r.0 in
              let y = r.1 in
              let up = h.0 p q e (omega arith) (λ z. omega arith) (λ z. omega arith) in
              ⊎_elim
              (λ w. both (ap g w ∙ s.0) (s.2 p (λ z. omega arith) (λ z. omega arith)) up)
              (λ w. both (s.2 k w (λ z. omega arith)) (s.2 p (λ z. omega arith) (λ z. omega arith)) (o.chain (f k) (f q) (f p) (h.0 q k r m (λ z. omega arith) w) up))
              (cases_eq k j),
        )

    -- c is a child of j that no other is before
    pub settled : (f : ℕ → T) (len j c : ℕ) → ((k : ℕ) → Child j k → k < len → before (f k) (f c) ≡ false) → before (f c) (f j) ≡ false → Gap before f len j → Heap before f len
    settled f len j c least t h = λ p k e l.
        let u = e.0 in
        let v = e.1 in
        ⊎_elim (λ w. both refl (ap f w) (o.chain (f k) (f c) (f j) (least k (omega arith, omega arith) l) t)) (λ w. h.0 p k e l w) (cases_eq p j)

    -- the item at j has traded places with its child c
    pub sinks : (f g : ℕ → T) (len j c : ℕ) → Child j c → c < len → ((k : ℕ) → Child j k → k < len → before (f k) (f c) ≡ false) → before (f c) (f j) ≡ true → Swapped f g j c → Gap before f len j → Gap before g len c
    sinks f g len j c e l least t s h =
        let a = e.0 in
        let b = e.1 in (
          λ p k r m n.
              let u = r.0 in
              let v = r.1 in
              ⊎_elim
              (λ w. ⊎_elim
              (λ z. both (ap g z ∙ s.1) (ap g w ∙ s.0) (o.one_way (f c) (f j) t))
              (λ z. both (s.2 k (λ q. omega arith) z) (ap g w ∙ s.0) (least k (omega arith, omega arith) m))
              (cases_eq k c))
              (λ w. ⊎_elim
              (λ z. both (ap g z ∙ s.0) (s.2 p w n) (h.1 p c (omega arith, omega arith) e l))
              (λ z. both (s.2 k z (λ q. omega arith)) (s.2 p w n) (h.0 p k r m w))
              (cases_eq k j))
              (cases_eq p j),
          λ p k r q m.
              let u = r.0 in
              let v = r.1 in
              let x = q.0 in
              let w : p ≡ j = omega arith in
              both (s.2 k (λ z. omega arith) (λ z. omega arith)) (ap g w ∙ s.0) (h.0 c k q m (λ z. omega arith)),
        )

    never : (x : T) (b : Bool) → before x x ≡ b → before x x ≡ false
    never x true e = o.one_way x x e
    never x false e = e

    pub itself : (x : T) → before x x ≡ false
    itself x = never x _ refl

    down : (f : ℕ → T) (len : ℕ) → Heap before f len → (fuel k : ℕ) → k ≤ fuel → k < len → before (f k) (f 0) ≡ false
    down f len h zero k a l = both (ap f (let e : k ≡ 0 = omega arith in e)) refl (itself (f 0))
    down f len h (suc fuel) k a l =
        ⊎_elim
        (λ e. both (ap f e) refl (itself (f 0)))
        (λ n. o.chain (f k) (f ((k - 1) / 2)) (f 0) (h ((k - 1) / 2) k (omega arith, omega arith) l) (down f len h fuel ((k - 1) / 2) (omega arith) (omega arith)))
        (cases_eq k 0)

    -- nothing is before the top
    pub top_least : (f : ℕ → T) (len : ℕ) → Heap before f len → (k : ℕ) → k < len → before (f k) (f 0) ≡ false
    top_least f len h k l = down f len h k k (omega arith) l
