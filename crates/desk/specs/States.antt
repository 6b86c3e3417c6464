-- A desk as its board's table and what it keeps, and what its calls make of that. Assumes nothing.
use Rattle.std.specs.Prelude.{◌≡◌, ℕ, ◌+◌, ◌-◌, ◌^◌, ◌<◌, List, [], ◌∷◌, ◌++◌, Some, None, Ok, Err, vec_items, Option, Result}
use Rattle.board.specs.Faults.{hold_fault}
use Rattle.board.specs.Held.{board_table}
use Rattle.board.specs.Tables.{Table, first_state, hold_refusal, one_more_out, one_less_out}
use Rattle.desk.specs.Named.{named_sites, without}
use Rattle.desk.specs.declared.desk.Desk.{Desk}
use Rattle.desk.specs.declared.faults.DeskFault.{DeskFault}
use Rattle.desk.specs.declared.faults.DeskFault.TheVariants.{Refused, NoNumber, NoMemory}

-- the board's table, what is kept by number and site, and the number for the next hold
pub record State : Type 0 where
  pub table : Table
  pub kept : List (ℕ × ℕ)
  pub next : ℕ

abbrev pub desk_state : Desk → State
desk_state d = record { table = board_table d.board; kept = named_sites (vec_items d.holds); next = d.next }

-- a desk that keeps nothing yet, with every bay free
abbrev pub just_opened : (number : ℕ) → List ℕ → State
just_opened number bays = record { table = first_state number bays; kept = []; next = 0 }

-- one more hold is kept, under the next number
abbrev pub one_more_kept : State → ℕ → State
one_more_kept d s = record { table = one_more_out None d.table s; kept = d.kept ++ (d.next, s) ∷ []; next = d.next + 1 }

-- what holding answers, and leaves: want of a number comes first, and only a hold that is granted alters anything
abbrev pub Holds : State → (site : ℕ) → Result ℕ DeskFault → State → Type 0
Holds d s (Ok n) after = (hold_refusal d.table s ≡ None) × (n ≡ d.next) × (after ≡ one_more_kept d s)
Holds d s (Err (Refused fault)) after = (hold_refusal d.table s ≡ Some (hold_fault fault)) × (d.next < 2 ^ 32 - 1) × (after ≡ d)
Holds d s (Err NoNumber) after = (d.next ≡ 2 ^ 32 - 1) × (after ≡ d)
Holds d s (Err NoMemory) after = (d.next < 2 ^ 32 - 1) × (after ≡ d)

-- what is left when the hold of a site that is kept by a number is handed back
abbrev pub handed_back : Option ℕ → State → ℕ → State
handed_back None d n = d
handed_back (Some s) d n = record { table = one_less_out None d.table s; kept = without d.kept n; next = d.next }
