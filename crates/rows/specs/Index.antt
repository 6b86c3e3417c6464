-- The index as a list of sites and a list of times: by segment of the day, then junction, then entry. Assumes nothing.
use Rattle.std.specs.Prelude.{◌≡◌, ℕ, zero, suc, ◌+◌, ◌*◌, ◌<◌, Bool, true, false, ◌&&◌, List, [], ◌∷◌, length, Option, ◌==◌, slice_index, slice_index_or}
use Rattle.network.specs.First.{first_of, unless}
use Rattle.network.specs.Model.{Roads}
use Rattle.rows.specs.Nearest.{entry}
use Rattle.rows.specs.Rows.{Defined}
use Rattle.rows.specs.declared.entry.Entry.{Entry}

-- what stands in the lists where a row has no more entries
abbrev pub missing : Entry
missing = entry 65535 0

-- entry r of a row
abbrev pub entry_at : List Entry → ℕ → Entry
entry_at row r = slice_index_or row r missing

-- where entry r of junction v in segment i stands, of n junctions and C entries each
abbrev pub place_at : (n C i v r : ℕ) → ℕ
place_at n C i v r = (i * n + v) * C + r

-- the entry that the lists have at a place
abbrev pub listed_at : (sites times : List ℕ) → ℕ → Entry
listed_at sites times p = entry (slice_index sites p) (slice_index times p)

-- Lists that hold the rows of every segment and junction, and nothing else.
pub record IsIndex (segments n C : ℕ) (rows : ℕ → ℕ → List Entry) (sites times : List ℕ) : Type 0 where
  pub sites_count : length sites ≡ segments * n * C
  pub times_count : length times ≡ segments * n * C
  pub each : (i v r : ℕ) → i < segments → v < n → r < C → listed_at sites times (place_at n C i v r) ≡ entry_at (rows i v) r

-- whether lists are the index of the least sums, where f has an arc's time in each segment
abbrev pub LeastIndex : Roads → (segments C : ℕ) → (f : ℕ → ℕ → ℕ) → (sites times : List ℕ) → Type 0
LeastIndex m segments C f sites times = (rows : ℕ → ℕ → List Entry) × ((i : ℕ) → i < segments → Defined m (f i) C (rows i)) × IsIndex segments m.junctions C rows sites times

-- whether no other lists are such an index
abbrev pub IsOnlyIndex : Roads → (segments C : ℕ) → (f : ℕ → ℕ → ℕ) → (sites times : List ℕ) → Type 0
IsOnlyIndex m segments C f sites times = (others since : List ℕ) → LeastIndex m segments C f others since → (others ≡ sites) × (since ≡ times)

-- at most so many entries of the lists from a place on, up to the first missing one
unfoldable pub read_row : (sites times : List ℕ) → (C p : ℕ) → List Entry
read_row sites times zero p = []
read_row sites times (suc C) p = elim (slice_index sites p == 65535) [ true ↦ [] | false ↦ listed_at sites times p ∷ read_row sites times C (p + 1) ]

-- the row of junction v in segment i
abbrev pub row_in : (n C : ℕ) → (sites times : List ℕ) → (i v : ℕ) → List Entry
row_in n C sites times i v = read_row sites times C (place_at n C i v 0)

-- whether two entries are the same
abbrev pub same : Entry → Entry → Bool
same x y = x.site == y.site && x.time == y.time

-- the segment, junction and entry where lists first differ from the index of rows, in that order
unfoldable pub first_difference : (segments n C : ℕ) → (ℕ → ℕ → List Entry) → (sites times : List ℕ) → Option (ℕ × ℕ × ℕ)
first_difference segments n C rows sites times =
    first_of (λ i. first_of (λ v. first_of (λ r. unless (same (listed_at sites times (place_at n C i v r)) (entry_at (rows i v) r)) (i, v, r)) C) n) segments
