-- Which refusal the fault of a day is. Assumes nothing.
use Rattle.network.specs.Refused.{refusal}
use Rattle.network.specs.declared.refusals.Places.TheVariants.{Call}
use Rattle.network.specs.declared.refusals.Refusal.{Refusal}
use Rattle.least.specs.declared.faults.DayFault.{DayFault}

abbrev pub day_fault : DayFault → Refusal
day_fault _ = refusal 9 Call
