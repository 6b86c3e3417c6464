use Rattle.board.proofs.Entries.{Made}
use Rattle.board.proofs.board.Board.new.Given as goal

abbrev pub invariant-loop-count : goal.invariant-loop-count
invariant-loop-count l = Made l.bays l.table.items l.count-index
