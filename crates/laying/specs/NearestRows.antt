-- What nearest rows hold.
use Rattle.std.specs.Prelude.{ℕ, List, length, slice_get}
use Rattle.rows.specs.declared.entry.Entry.{Entry}
use Rattle.laying.specs.Search.{entries_of}
use Rattle.laying.specs.declared.nearest.NearestRows.{NearestRows}

-- how many junctions they are of
abbrev pub junctions_in : NearestRows → ℕ
junctions_in r = length r.rows.items

-- the entries of each
abbrev pub rows_in : NearestRows → ℕ → List Entry
rows_in r v = entries_of (slice_get r.rows.items v)
