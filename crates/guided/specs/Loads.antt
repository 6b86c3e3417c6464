-- What loading refuses, and what it answers. Assumes nothing.
use Rattle.std.specs.Prelude.{◌≡◌, ℕ, ◌<◌, List, length, None, Option, Result}
use Rattle.std.specs.Option.{option_map, option_or}
use Rattle.clock.specs.Points.{table_refusal}
use Rattle.laying.specs.Admitted.{lay_refusal}
use Rattle.network.specs.Refused.{answered}
use Rattle.network.specs.declared.refusals.Refusal.{Refusal}
use Rattle.network.specs.declared.returned.Returned.{Returned}
use Rattle.rows.specs.Rows.{Defined}
use Rattle.rows.specs.declared.entry.Entry.{Entry}
use Rattle.guided.specs.Faults.{differs, load_fault}
use Rattle.guided.specs.Held.{index_lists}
use Rattle.guided.specs.Lists.{Lists, network_of, arc_times, difference_from}
use Rattle.guided.specs.declared.faults.LoadFault.{LoadFault}
use Rattle.guided.specs.declared.raw.IndexTables.{IndexTables}

-- What is refused before the rows are looked at, with so many work records: the tables, and then what refuses laying an index
-- in these lists.
unfoldable pub early_refusal : Lists → (work : ℕ) → Option Refusal
early_refusal x work =
    option_or (table_refusal x.tables)
    (lay_refusal (network_of x).junctions x.segments x.nearest (length x.sites) (length x.times) work)

-- the rows that an index of these roads and segments ought to have
abbrev pub RightRows : Lists → (ℕ → ℕ → List Entry) → Type 0
RightRows x rows = (i : ℕ) → i < length x.segments → Defined (network_of x) (arc_times x i) x.nearest (rows i)

-- what loading is refused by, if anything, where these are the rows: at last an index that differs from them
abbrev pub load_refusal : Lists → (work : ℕ) → (ℕ → ℕ → List Entry) → Option Refusal
load_refusal x work rows = option_or (early_refusal x work) (option_map differs (difference_from x rows))

-- a refusal, with the lists handed back
abbrev pub handed_back : Returned IndexTables LoadFault → Refusal × Lists
handed_back r = (load_fault r.fault, index_lists r.value)

-- whether rows are those of the index, so far as nothing is refused before it is looked at
abbrev pub RowsOf : Lists → (work : ℕ) → (ℕ → ℕ → List Entry) → Type 0
RowsOf x work rows = early_refusal x work ≡ None → RightRows x rows

-- there are such rows
abbrev pub HasRows : Lists → (work : ℕ) → Type 0
HasRows x work = (rows : ℕ → ℕ → List Entry) × RowsOf x work rows

-- whether an answer of loading is the one by such rows: the lists, as guided roads where nothing refuses them
abbrev pub Loads : Lists → (work : ℕ) → Result Lists (Refusal × Lists) → Type 0
Loads x work answer = (rows : ℕ → ℕ → List Entry) → RowsOf x work rows → answer ≡ answered x (load_refusal x work rows)
