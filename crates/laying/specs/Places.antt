-- How rows are written into the lists of an index, inside the crate.
use Rattle.std.specs.Prelude.{◌≡◌, ℕ, ◌+◌, ◌<◌, ◌≤◌, ◌⊎◌, List}
use Rattle.network.specs.Model.{Roads}
use Rattle.rows.specs.Index.{entry_at, listed_at, place_at}
use Rattle.rows.specs.Nearest.{Nearest}
use Rattle.rows.specs.Rows.{Takes}
use Rattle.rows.specs.declared.entry.Entry.{Entry}

-- where segment i begins, of n junctions with C entries each
abbrev pub segment_at : (n C i : ℕ) → ℕ
segment_at n C i = place_at n C i 0 0

-- a row stands in the lists from a place on, C entries long
abbrev pub Stands : List Entry → (C p : ℕ) → (sites times : List ℕ) → Type 0
Stands row C p sites times = (r : ℕ) → r < C → listed_at sites times (p + r) ≡ entry_at row r

-- outside of the places from p to before q, lists are as others
abbrev pub SameOutside : (p q : ℕ) → (sites times others since : List ℕ) → Type 0
SameOutside p q sites times others since = (k : ℕ) → (k < p) ⊎ (q ≤ k) → listed_at others since k ≡ listed_at sites times k

-- outside of segment i, lists are as others
abbrev pub SameElsewhere : (n C i : ℕ) → (sites times others since : List ℕ) → Type 0
SameElsewhere n C i = SameOutside (segment_at n C i) (segment_at n C (i + 1))

-- the row of the junction v in segment i stands in its place, by the arcs' times f
abbrev pub Laid : Roads → (f : ℕ → ℕ) → (C i v : ℕ) → (sites times : List ℕ) → Type 0
Laid m f C i v sites times = (row : List Entry) → Nearest C (Takes m f v) row → Stands row C (place_at m.junctions C i v 0) sites times
