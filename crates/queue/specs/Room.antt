-- A room by what stands in each of its slots. Assumes nothing.
use Rattle.std.specs.Prelude.{◌≡◌, ℕ, List, Option, ◌≢◌, slice_index_or}
use Rattle.queue.specs.declared.room.Room.{Room}
use Rattle.queue.specs.declared.slot.Slot.{Slot}
use Rattle.queue.specs.Waiting.{waiting_in}

-- the slots of a room
abbrev pub held : {T : Type 0} → Room T → List (Slot T)
held r = r.slots.now

-- what waits in a room, under each handle
abbrev pub queued : {T : Type 0} → (T → ℕ) → Room T → ℕ → Option T
queued handled r = waiting_in handled (held r) r.len

-- the item that stands at a place
abbrev pub item : {T : Type 0} → List (Slot T) → Slot T → ℕ → T
item s d i = (slice_index_or s i d).item

-- the place that is kept for a handle
abbrev pub place : {T : Type 0} → List (Slot T) → Slot T → ℕ → ℕ
place s d i = (slice_index_or s i d).place

-- g is f, with what stands at i and at j exchanged
abbrev pub Swapped : {X : Type 0} → (ℕ → X) → (ℕ → X) → ℕ → ℕ → Type 0
Swapped f g i j = (g i ≡ f j) × (g j ≡ f i) × ((k : ℕ) → (k ≢ i) → (k ≢ j) → g k ≡ f k)
