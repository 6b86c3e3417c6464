-- Which refusal each fault of asking and of tracing is. Assumes nothing.
use Rattle.network.specs.Refused.{refusal}
use Rattle.network.specs.declared.refusals.Places.TheVariants.{Call}
use Rattle.network.specs.declared.refusals.Refusal.{Refusal}
use Rattle.soonest.specs.declared.faults.AskFault.{AskFault}
use Rattle.soonest.specs.declared.faults.AskFault.TheVariants as ask
use Rattle.soonest.specs.declared.faults.TraceFault.{TraceFault}
use Rattle.soonest.specs.declared.faults.TraceFault.TheVariants as trace

abbrev pub ask_fault : AskFault → Refusal
ask_fault ask.Junction = refusal 14 Call
ask_fault ask.Start = refusal 15 Call
ask_fault ask.Number = refusal 16 Call
ask_fault ask.Room = refusal 17 Call
ask_fault ask.Sites = refusal 34 Call

abbrev pub trace_fault : TraceFault → Refusal
trace_fault trace.Junction = refusal 14 Call
trace_fault trace.Start = refusal 15 Call
trace_fault trace.Room = refusal 17 Call
trace_fault trace.NoWay = refusal 38 Call
trace_fault trace.Blocked = refusal 39 Call
