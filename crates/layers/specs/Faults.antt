-- Which refusal each fault of a layer is. Assumes nothing.
use Rattle.network.specs.Refused.{refusal}
use Rattle.network.specs.declared.refusals.Places.TheVariants.{Call}
use Rattle.network.specs.declared.refusals.Refusal.{Refusal}
use Rattle.layers.specs.declared.faults.LayerFault.{LayerFault}
use Rattle.layers.specs.declared.faults.LayerFault.TheVariants.{NoSuchArc, Units, Full, Already, NotThere}

abbrev pub layer_fault : LayerFault → Refusal
layer_fault NoSuchArc = refusal 19 Call
layer_fault Units = refusal 20 Call
layer_fault Full = refusal 35 Call
layer_fault Already = refusal 36 Call
layer_fault NotThere = refusal 37 Call
