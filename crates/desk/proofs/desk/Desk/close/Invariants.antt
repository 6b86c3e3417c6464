use Rattle.std.proofs.Common.{◌≡◌, vec_items, vec_len}
use Rattle.board.specs.Held.{board_table}
use Rattle.desk.specs.Named.{named_sites}
use Rattle.desk.proofs.Closing.{Closing}
use Rattle.desk.proofs.Holdings.{Tallies}
use Rattle.desk.proofs.desk.Desk.close.Given as goal

-- what is still kept tallies with the board, whose number and bays stay; the others were rightly handed back
abbrev pub invariant-loop-hold : goal.invariant-loop-hold
invariant-loop-hold l =
    Tallies (board_table l.board) (vec_items l.holds) × ((board_table l.board).number ≡ (board_table l.initial.board).number) × ((board_table l.board).bays ≡ (board_table l.initial.board).bays)
    × Closing (board_table l.initial.board) (named_sites (vec_items l.initial.holds)) (board_table l.board) (named_sites (vec_items l.holds))

abbrev pub decreases-loop-hold : goal.decreases-loop-hold
decreases-loop-hold l = vec_len l.holds
