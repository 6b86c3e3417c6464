-- A hold of another number is returned.
use Rattle.board.specs.Held.{board_table, hold_bears}
use Rattle.compare.proofs.Handed.{is_returned}
use Rattle.compare.proofs.twins.offer_elsewhere.Goals as goal

pub unwrap_err-requires : goal.unwrap_err-requires
unwrap_err-requires c = is_returned (board_table c.args.board.now) (hold_bears c.args.hold).0 (hold_bears c.args.hold).1 c.hand_back.result c.requires c.hand_back.ensures.answer
