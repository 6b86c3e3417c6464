-- What waits under each handle, the least of it, and how much there is. Assumes nothing.
use Rattle.std.specs.Prelude.{◌≡◌, ℕ, zero, suc, ◌+◌, Bool, cond, List, take, Some, None, Option, ◌==◌, ◌≢◌}
use Rattle.std.specs.List.{slice_get}
use Rattle.std.specs.Option.{option_and_then, option_len}
use Rattle.queue.specs.declared.slot.Slot.{Slot}

-- an item where it bears the handle h
abbrev pub bearing : {T : Type 0} → (T → ℕ) → ℕ → T → Option T
bearing handled h x = cond (handled x == h) (Some x) None

-- what waits under h: the item at the place that slot h keeps, where that is below len and the item's handle is h
unfoldable pub waiting_in : {T : Type 0} → (T → ℕ) → List (Slot T) → ℕ → ℕ → Option T
waiting_in handled slots len h = option_and_then (λ s. option_and_then (λ t. bearing handled h t.item) (slice_get (take len slots) s.place)) (slice_get slots h)

-- g is f, but w at h
abbrev pub Updated : {X : Type 0} → (ℕ → X) → (ℕ → X) → ℕ → X → Type 0
Updated f g h w = (g h ≡ w) × ((k : ℕ) → (k ≢ h) → g k ≡ f k)

-- g is f without x, or f where there is none
abbrev pub Without : {X : Type 0} → (X → ℕ) → (ℕ → Option X) → (ℕ → Option X) → Option X → Type 0
Without handled f g None = (k : ℕ) → g k ≡ f k
Without handled f g (Some x) = Updated f g (handled x) None

-- the lesser of two that may be missing
abbrev pub lesser : {X : Type 0} → (X → X → Bool) → Option X → Option X → Option X
lesser before None o = o
lesser before (Some x) None = Some x
lesser before (Some x) (Some y) = cond (before y x) (Some y) (Some x)

-- the least of what waits under the handles below n
unfoldable pub least_of : {X : Type 0} → (X → X → Bool) → (ℕ → Option X) → ℕ → Option X
least_of before w zero = None
least_of before w (suc n) = lesser before (least_of before w n) (w n)

-- how many of the handles below n have something waiting
unfoldable pub count_of : {X : Type 0} → (ℕ → Option X) → ℕ → ℕ
count_of w zero = 0
count_of w (suc n) = count_of w n + option_len (w n)
