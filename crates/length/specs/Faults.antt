-- Which refusal each fault of length tables is. Assumes nothing.
use Rattle.network.specs.Refused.{refusal, street_refusal}
use Rattle.network.specs.declared.refusals.Places.TheVariants.{Call}
use Rattle.network.specs.declared.refusals.Refusal.{Refusal}
use Rattle.length.specs.declared.faults.LengthFault.{LengthFault}
use Rattle.length.specs.declared.faults.LengthFault.TheVariants.{Streets, Metres}

abbrev pub length_fault : LengthFault → Refusal
length_fault (Streets fault) = street_refusal fault
length_fault Metres = refusal 12 Call
