-- Which refusal each fault of clock tables is. Assumes nothing.
use Rattle.network.specs.Refused.{refusal, street_refusal}
use Rattle.network.specs.declared.refusals.Places.TheVariants.{Call, Two}
use Rattle.network.specs.declared.refusals.Refusal.{Refusal}
use Rattle.clock.specs.declared.faults.TableFault.{TableFault}
use Rattle.clock.specs.declared.faults.TableFault.TheVariants.{Streets, PointStarts, Departure, Arrival, Falls}

abbrev pub table_fault : TableFault → Refusal
table_fault (Streets fault) = street_refusal fault
table_fault PointStarts = refusal 4 Call
table_fault (Departure arc place) = refusal 5 (Two arc place)
table_fault (Arrival arc place) = refusal 6 (Two arc place)
table_fault (Falls arc place) = refusal 7 (Two arc place)
