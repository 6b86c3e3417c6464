-- How many bays of a site are out at two boards that share a number. Assumes nothing.
use Rattle.std.specs.Prelude.{ℕ, ◌+◌, Ok, Err, Result, ◌==◌, cond}
use Rattle.board.specs.Held.{board_table, hold_bears}
use Rattle.board.specs.declared.board.Board.{Board}
use Rattle.board.specs.declared.faults.HoldFault.{HoldFault}
use Rattle.board.specs.declared.hold.Hold.{Hold}

-- the bays that are out at either
abbrev pub out_at : Board → Board → ℕ → ℕ
out_at one other s = (board_table one).out s + (board_table other).out s

-- a hold, counted at a site
abbrev pub one_at : Hold → ℕ → ℕ
one_at hold s = cond ((hold_bears hold).1 == s) 1 0

-- a hold that is granted, counted at a site
abbrev pub granted_at : Result Hold HoldFault → ℕ → ℕ
granted_at (Ok hold) s = one_at hold s
granted_at (Err fault) s = 0
