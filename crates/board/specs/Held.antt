-- A board as its table, and what a hold bears. Assumes nothing.
use Rattle.std.specs.Prelude.{ℕ, map, slice_index}
use Rattle.board.specs.Tables.{Table}
use Rattle.board.specs.declared.board.Board.{Board}
use Rattle.board.specs.declared.hold.Hold.{Hold}

-- the table of a board: the entries of its sites
unfoldable pub board_table : Board → Table
board_table b = record {
  number = b.number;
  bays = map (λ s. s.bays) b.table.items;
  out = λ s. slice_index (map (λ s. s.out) b.table.items) s;
}

-- what a hold bears: the number of the board that gave it, and the site
abbrev pub hold_bears : Hold → ℕ × ℕ
hold_bears h = (h.number, h.site)
