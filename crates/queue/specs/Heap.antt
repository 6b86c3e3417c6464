-- How a room keeps its items, inside the crate: each handle finds its place, and no item is before its parent.
-- Assumes nothing.
use Rattle.std.specs.Prelude.{◌≡◌, ℕ, ◌+◌, ◌*◌, ◌^◌, ◌<◌, ◌≤◌, Bool, false, List, length, ◌≢◌}
use Rattle.queue.specs.declared.slot.Slot.{Slot}
use Rattle.queue.specs.declared.room.Room.{Room}
use Rattle.queue.specs.Room.{item, place, held}
use Rattle.queue.specs.Waiting.{waiting_in, Updated, count_of}

-- each item's handle has a slot, which keeps the item's place
pub record Placed {T : Type 0} (handled : T → ℕ) (s : List (Slot T)) (len : ℕ) : Type 0 where
  pub fits : len ≤ length s
  pub few : len ≤ 2 ^ 32
  pub below : (d : Slot T) (k : ℕ) → k < len → handled (item s d k) < length s
  pub short : (d : Slot T) (k : ℕ) → k < len → handled (item s d k) < 2 ^ 32
  pub kept : (d : Slot T) (k : ℕ) → k < len → place s d (handled (item s d k)) ≡ k

-- t is s, but x stands at `at`, and the slot of its handle keeps that
pub record Put {T : Type 0} (handled : T → ℕ) (s t : List (Slot T)) (at : ℕ) (x : T) : Type 0 where
  pub long : length t ≡ length s
  pub items : (d : Slot T) → Updated (item s d) (item t d) at x
  pub places : (d : Slot T) → Updated (place s d) (place t d) (handled x) at

-- t keeps the same items waiting as s
pub record Kept {T : Type 0} (handled : T → ℕ) (s t : List (Slot T)) (len : ℕ) : Type 0 where
  pub long : length t ≡ length s
  pub placed : Placed handled t len
  pub waits : (h : ℕ) → waiting_in handled t len h ≡ waiting_in handled s len h

-- k is a child of p
abbrev pub Child : ℕ → ℕ → Type 0
Child p k = (p * 2 + 1 ≤ k) × (k ≤ p * 2 + 2)

-- no item is before its parent
abbrev pub Heap : {T : Type 0} → (T → T → Bool) → (ℕ → T) → ℕ → Type 0
Heap before f len = (p k : ℕ) → Child p k → k < len → before (f k) (f p) ≡ false

-- a heap but for the item at j, whose children are not before its parent
abbrev pub Loose : {T : Type 0} → (T → T → Bool) → (ℕ → T) → ℕ → ℕ → Type 0
Loose before f len j =
    ((p k : ℕ) → Child p k → k < len → (p ≢ j) → (k ≢ j) → before (f k) (f p) ≡ false)
    × ((p k : ℕ) → Child p j → Child j k → k < len → before (f k) (f p) ≡ false)

-- a heap but for the item at j above its children, which are not before its parent
abbrev pub Gap : {T : Type 0} → (T → T → Bool) → (ℕ → T) → ℕ → ℕ → Type 0
Gap before f len j =
    ((p k : ℕ) → Child p k → k < len → (p ≢ j) → before (f k) (f p) ≡ false)
    × ((p k : ℕ) → Child p j → Child j k → k < len → before (f k) (f p) ≡ false)

-- slots that keep a heap of len items
pub record Sound {T : Type 0} (handled : T → ℕ) (before : T → T → Bool) (s : List (Slot T)) (len : ℕ) : Type 0 where
  pub placed : Placed handled s len
  pub heap : (d : Slot T) → Heap before (item s d) len
  pub counted : count_of (waiting_in handled s len) (length s) ≡ len

-- a room that is sound
abbrev pub Whole : {T : Type 0} → (T → ℕ) → (T → T → Bool) → Room T → Type 0
Whole handled before r = Sound handled before (held r) r.len
