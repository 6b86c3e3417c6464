-- Which refusal each fault of loading is. Assumes nothing.
use Rattle.std.specs.Prelude.{ℕ}
use Rattle.clock.specs.Faults.{table_fault}
use Rattle.laying.specs.Faults.{lay_fault}
use Rattle.network.specs.Refused.{refusal}
use Rattle.network.specs.declared.refusals.Places.TheVariants.{Three}
use Rattle.network.specs.declared.refusals.Refusal.{Refusal}
use Rattle.guided.specs.declared.faults.LoadFault.{LoadFault}
use Rattle.guided.specs.declared.faults.LoadFault.TheVariants.{Tables, Lists, Differs}

-- another index than it ought to be: segment, junction and entry
abbrev pub differs : ℕ × ℕ × ℕ → Refusal
differs p = refusal 11 (Three p.0 p.1 p.2)

-- the tables' fault keeps its number and places, and so does that of the lists
abbrev pub load_fault : LoadFault → Refusal
load_fault (Tables fault) = table_fault fault
load_fault (Lists fault) = lay_fault fault
load_fault (Differs p) = differs p
