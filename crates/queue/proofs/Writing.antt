-- What stands after the writes of an exchange. Assumes nothing.
use Rattle.std.proofs.Common.{◌≡◌, ℕ, ◌<◌, List, length, sym, ap, ◌∙◌, ⊎_elim}
use Rattle.std.proofs.lemmas.List.{get_or_default}
use Rattle.std.proofs.lemmas.Bool.{cases_eq}
use Rattle.queue.specs.declared.slot.Slot.{Slot}
use Rattle.queue.specs.Room.{item, Swapped}
use Rattle.queue.specs.Waiting.{Updated}

-- within the slots the default does not matter
pub any_item : {T : Type 0} (s : List (Slot T)) (i : ℕ) (d e : Slot T) → i < length s → item s d i ≡ item s e i
any_item {T} s i d e l = ap (λ (y : Slot T). y.item) (get_or_default s i d e l)

pub swapped_by_puts : {X : Type 0} (f g h : ℕ → X) (i j : ℕ) {x y : X} → x ≡ f i → y ≡ f j → Updated f g i y → Updated g h j x → Swapped f h i j
swapped_by_puts f g h i j p q a b = (
  ⊎_elim (λ e. ap h e ∙ b.0 ∙ p ∙ ap f e) (λ n. b.1 i n ∙ a.0 ∙ q) (cases_eq i j),
  b.0 ∙ p,
  λ k m n. b.1 k n ∙ a.1 k m,
)

-- what is put stood there already
pub put_again : {X : Type 0} {f g : ℕ → X} {h : ℕ} {w : X} → f h ≡ w → Updated f g h w → (k : ℕ) → g k ≡ f k
put_again {f} {g} {h} e a = λ k. ⊎_elim (λ q. ap g q ∙ a.0 ∙ sym e ∙ sym (ap f q)) (a.1 k) (cases_eq k h)
