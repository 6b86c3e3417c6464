-- Which refusal each fault of laying is. Assumes nothing.
use Rattle.network.specs.Refused.{refusal}
use Rattle.network.specs.declared.refusals.Places.TheVariants.{Call}
use Rattle.network.specs.declared.refusals.Refusal.{Refusal}
use Rattle.least.specs.Faults.{day_fault}
use Rattle.laying.specs.declared.faults.LayFault.{LayFault}
use Rattle.laying.specs.declared.faults.LayFault.TheVariants.{Segments, Lists, Work}

abbrev pub lay_fault : LayFault → Refusal
lay_fault (Segments fault) = day_fault fault
lay_fault Lists = refusal 10 Call
lay_fault Work = refusal 17 Call
