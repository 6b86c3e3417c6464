-- Which refusal each fault of a board is. Assumes nothing.
use Rattle.network.specs.Refused.{refusal}
use Rattle.network.specs.declared.refusals.Places.TheVariants.{Call}
use Rattle.network.specs.declared.refusals.Refusal.{Refusal}
use Rattle.board.specs.declared.faults.BoardFault.{BoardFault}
use Rattle.board.specs.declared.faults.HoldFault.{HoldFault}
use Rattle.board.specs.declared.faults.HoldFault.TheVariants.{NoSuchSite, NoFreeBay}
use Rattle.board.specs.declared.faults.BackFault.{BackFault}
use Rattle.board.specs.declared.faults.BackFault.TheVariants.{OtherBoard, NotOut}

abbrev pub board_fault : BoardFault → Refusal
board_fault _ = refusal 13 Call

abbrev pub hold_fault : HoldFault → Refusal
hold_fault NoSuchSite = refusal 18 Call
hold_fault NoFreeBay = refusal 31 Call

abbrev pub back_fault : BackFault → Refusal
back_fault OtherBoard = refusal 32 Call
back_fault NotOut = refusal 33 Call
