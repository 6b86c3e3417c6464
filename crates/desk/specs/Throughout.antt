-- What a desk's calls are to its board, over every list of calls. Assumes nothing.
use Rattle.std.specs.Prelude.{ℕ, List, [], ◌∷◌, Some, None, Ok, Err, Option, Result}
use Rattle.board.specs.Calls.{Call, holding, handing_back, First}
use Rattle.board.specs.Faults.{hold_fault}
use Rattle.board.specs.Promise.{Right, hold_granted, hold_ended, call_refused}
use Rattle.desk.specs.declared.faults.DeskFault.{DeskFault}
use Rattle.desk.specs.declared.faults.DeskFault.TheVariants.{Refused, NoNumber, NoMemory}

-- the calls on the board after holding at a site; want of a number or of memory calls nothing
abbrev pub after_holding : Result ℕ DeskFault → ℕ → List Call → List Call
after_holding (Ok n) s past = holding s ∷ past
after_holding (Err (Refused fault)) s past = holding s ∷ past
after_holding (Err NoNumber) s past = past
after_holding (Err NoMemory) s past = past

-- what is promised of its answer
abbrev pub RightlyHeld : First → List Call → ℕ → Result ℕ DeskFault → Type 0
RightlyHeld first past s (Ok n) = Right first past (holding s) (hold_granted first.number s)
RightlyHeld first past s (Err (Refused fault)) = Right first past (holding s) (call_refused (hold_fault fault))
RightlyHeld first past s (Err NoNumber) = Unit {0}
RightlyHeld first past s (Err NoMemory) = Unit {0}

-- the calls on the board after the hold of a site was handed back, if one was
abbrev pub after_back : Option ℕ → (number : ℕ) → List Call → List Call
after_back None number past = past
after_back (Some s) number past = handing_back number s ∷ past

-- what is promised of it: the hold is taken back
abbrev pub RightlyBack : First → List Call → Option ℕ → Type 0
RightlyBack first past None = Unit {0}
RightlyBack first past (Some s) = Right first past (handing_back first.number s) hold_ended

-- the calls on the board after all that is kept was handed back, the last first
abbrev pub after_closing : (kept : List (ℕ × ℕ)) → (number : ℕ) → List Call → List Call
after_closing [] number past = past
after_closing (k ∷ ks) number past = handing_back number k.1 ∷ after_closing ks number past

-- what is promised of it: each hold is taken back
abbrev pub RightlyClosed : First → List Call → (kept : List (ℕ × ℕ)) → Type 0
RightlyClosed first past [] = Unit {0}
RightlyClosed first past (k ∷ ks) = Right first (after_closing ks first.number past) (handing_back first.number k.1) hold_ended × RightlyClosed first past ks
