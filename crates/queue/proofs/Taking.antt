-- The top of a sound heap is the least of what waits. Assumes nothing.
use Rattle.std.proofs.Common.{◌≡◌, ℕ, ◌<◌, Bool, true, false, List, length, Some, None, sym, refl, ap, ◌∙◌, subst}
use Rattle.std.specs.Cmp.{IsStrictWeakOrder}
use Rattle.queue.specs.declared.slot.Slot.{Slot}
use Rattle.queue.specs.Room.{item}
use Rattle.queue.specs.Waiting.{waiting_in, least_of}
use Rattle.queue.specs.Heap.{Sound}
use Rattle.queue.proofs.Changing.{none_waits}
use Rattle.queue.proofs.Holding.{found, held_by}
use Rattle.queue.proofs.Least.{is_least, least_none}
use Rattle.queue.proofs.Sifting.{top_least}

module _ {T : Type 0} (handled : T → ℕ) (before : T → T → Bool) (s : List (Slot T)) (len : ℕ) where
  pub empty_least : len ≡ 0 → least_of before (waiting_in handled s len) (length s) ≡ None
  empty_least e = least_none before (waiting_in handled s len) (length s) (λ h l. subst (λ n. waiting_in handled s n h ≡ None) (sym e) (none_waits handled s h))

  module _ (o : IsStrictWeakOrder before) (apart : (x y : T) → before x y ≡ false → before y x ≡ false → handled x ≡ handled y) (p : Sound handled before s len) (low : 0 < len) (d : Slot T) where
    none_before : (h : ℕ) (y : T) → waiting_in handled s len h ≡ Some y → before y (item s d 0) ≡ false
    none_before h y e =
        let w = held_by handled s len h y d p.placed.fits e in
        ap (λ x. before x (item s d 0)) (sym w.is) ∙ top_least before o (item s d) len (p.heap d) w.at w.low

    ahead : (h : ℕ) (y : T) → waiting_in handled s len h ≡ Some y → (h ≡ handled (item s d 0) → ⊥) → before (item s d 0) y ≡ true
    ahead h y e n = go (before (item s d 0) y) refl
      where
        go : (b : Bool) → before (item s d 0) y ≡ b → before (item s d 0) y ≡ true
        go true q = q
        go false q = absurd (n (sym (held_by handled s len h y d p.placed.fits e).bears ∙ sym (apart (item s d 0) y q (none_before h y e))))

    pub top_is_least : least_of before (waiting_in handled s len) (length s) ≡ Some (item s d 0)
    top_is_least = is_least before (waiting_in handled s len) (handled (item s d 0)) (item s d 0) (found handled s len d 0 p.placed low) none_before ahead (length s) (p.placed.below d 0 low)
