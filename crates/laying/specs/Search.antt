-- What the parts of a search hold, inside the crate.
use Rattle.std.specs.Prelude.{◌≡◌, ℕ, ◌≤◌, List, [], length, Some, None, Option, option_map, slice_get, slice_index_or}
use Rattle.network.specs.Model.{Roads}
use Rattle.queue.specs.Queues.{capacity, waiting}
use Rattle.queue.specs.Waiting.{Updated}
use Rattle.queue.specs.declared.key.Key.{Key}
use Rattle.rows.specs.Index.{entry_at}
use Rattle.rows.specs.Offering.{offer}
use Rattle.rows.specs.Rows.{Defined}
use Rattle.rows.specs.declared.entry.Entry.{Entry}
use Rattle.rows.specs.declared.row.Row.{Row}
use Rattle.laying.specs.Settling.{IsAtRest, IsNext}
use Rattle.laying.specs.declared.search.Search.{Search}

-- a row's entries; none where there is no row
abbrev pub entries_of : Option Row → List Entry
entries_of None = []
entries_of (Some r) = r.entries.items

-- the row of each junction
abbrev pub rows_of : Search → ℕ → List Entry
rows_of s v = entries_of (slice_get s.rows.items v)

-- how many entries of each are settled
abbrev pub settled_of : Search → ℕ → ℕ
settled_of s v = slice_index_or s.settled v 0

-- what waits for each junction
abbrev pub keys_of : Search → ℕ → Option Key
keys_of s = waiting s.queue

-- the first entry of a junction's row that is not settled
abbrev pub next_of : Search → ℕ → Option Entry
next_of s v = slice_get (rows_of s v) (settled_of s v)

-- a junction's key by such an entry
abbrev pub key_of : Option Entry → (v : ℕ) → Option Key
key_of next v = option_map (λ e. record { height = e.time; junction = v }) next

-- what is to wait for a junction
abbrev pub key_for : Search → ℕ → Option Key
key_for s v = key_of (next_of s v) v

-- whether that waits for each
abbrev pub IsQueued : Search → Type 0
IsQueued s = (v : ℕ) → keys_of s v ≡ key_for s v

-- nothing waits
abbrev pub IsIdle : Search → Type 0
IsIdle s = (v : ℕ) → keys_of s v ≡ None

-- rows and room in the queue for n junctions
pub record IsSized (n : ℕ) (s : Search) : Type 0 where
  pub rows : length s.rows.items ≡ n
  pub few : n ≤ 4096
  pub short : s.most ≤ 8
  pub settled : length s.settled ≡ 4096
  pub queue : capacity s.queue ≡ n
  pub most : (v : ℕ) (r : Row) → slice_get s.rows.items v ≡ Some r → r.most ≡ s.most

-- whether an entry was offered to v's row, and nothing else
abbrev pub TakesOffer : (before after : Search) → (v : ℕ) → Entry → Type 0
TakesOffer s t v x = Updated (rows_of s) (rows_of t) v (offer s.most (rows_of s v) x)

-- whether v's next entry is the soonest of all that are not settled
abbrev pub HasSoonest : Search → ℕ → Type 0
HasSoonest s v = IsNext (rows_of s) (settled_of s) v (entry_at (rows_of s v) (settled_of s v))

-- whether all that is settled was relaxed, where 172,800 bounds the arcs' times
abbrev pub Rests : Roads → (ℕ → ℕ) → Search → Type 0
Rests m f s = IsAtRest m f s.most 172800 (rows_of s) (settled_of s)

-- whether the rows are those of least sums
abbrev pub IsFilled : Roads → (ℕ → ℕ) → Search → Type 0
IsFilled m f s = Defined m f s.most (rows_of s)
