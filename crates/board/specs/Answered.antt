-- What the calls on a board return, read as answers. Assumes nothing.
use Rattle.std.specs.Prelude.{Ok, Err, Result}
use Rattle.board.specs.Faults.{hold_fault, back_fault}
use Rattle.board.specs.Held.{hold_bears}
use Rattle.board.specs.Promise.{Answer, hold_granted, hold_ended, call_refused, hold_returned}
use Rattle.board.specs.declared.faults.BackFault.{BackFault}
use Rattle.board.specs.declared.faults.HoldFault.{HoldFault}
use Rattle.board.specs.declared.hold.Hold.{Hold}
use Rattle.network.specs.declared.returned.Returned.{Returned}

-- a hold that is granted, by what it bears
abbrev pub held_answer : Result Hold HoldFault → Answer
held_answer (Ok hold) = hold_granted (hold_bears hold).0 (hold_bears hold).1
held_answer (Err fault) = call_refused (hold_fault fault)

-- a hold that is ended, or returned, by what it bears
abbrev pub handed_answer : {X : Type 0} → Result X (Returned Hold BackFault) → Answer
handed_answer (Ok x) = hold_ended
handed_answer (Err e) = hold_returned (back_fault e.fault) (hold_bears e.value).0 (hold_bears e.value).1
