use Rattle.std.proofs.Common.{◌≡◌, ℕ, ◌&&◌, ltb}
use Rattle.network.specs.Sets.{has}
use Rattle.board.specs.Held.{board_table}
use Rattle.board.specs.Tables.{has_free}
use Rattle.board.proofs.board.Board.free_sites.Given as goal

-- the free sites below the one that comes next
abbrev pub invariant-loop-site : goal.invariant-loop-site
invariant-loop-site l = (s : ℕ) → has l.free s ≡ (ltb s l.site && has_free (board_table l.self) s)
