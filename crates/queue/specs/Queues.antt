-- What a queue says to its callers. Assumes nothing.
use Rattle.std.specs.Prelude.{◌≡◌, ℕ, ◌<◌, length, Some, Option}
use Rattle.queue.specs.declared.queue.Queue.{Queue}
use Rattle.queue.specs.Room.{held, queued}
use Rattle.queue.specs.Waiting.{count_of}

-- k has the handle and the order of T's elements
module _ {T : Type 0} {k : _} {o : _} {e : _} {p : _} where
  -- how many handles there are, numbered from 0
  unfoldable pub capacity : Queue T k o e p → ℕ
  capacity q = length (held q.room)

  -- what waits under each handle
  unfoldable pub waiting : Queue T k o e p → ℕ → Option T
  waiting q = queued k.handled q.room

  -- how many handles have something waiting
  abbrev pub waiting_count : Queue T k o e p → ℕ
  waiting_count q = count_of (waiting q) (capacity q)

  -- what waits under h has the handle h, and h is below the capacity
  abbrev pub Belongs : Queue T k o e p → Type 0
  Belongs q = (h : ℕ) (x : T) → waiting q h ≡ Some x → (k.handled x ≡ h) × (h < capacity q)
