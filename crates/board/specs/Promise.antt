-- What is promised of every call after any list of calls. Assumes nothing.
use Rattle.std.specs.Prelude.{◌≡◌, ℕ, ◌+◌, ◌≤◌, Bool, true, false, ◌&&◌, List, [], ◌∷◌, length, Some, None, Ok, Err, Option, Result, ◌==◌, nat_lt}
use Rattle.std.specs.Option.{option_or}
use Rattle.network.specs.First.{unless}
use Rattle.network.specs.Refused.{refusal}
use Rattle.network.specs.declared.refusals.Places.TheVariants.{Call as the_call}
use Rattle.network.specs.declared.refusals.Refusal.{Refusal}
use Rattle.soonest.specs.Asking.{Asking, ask_refusal, asked}
use Rattle.soonest.specs.Claims.{Soonest}
use Rattle.soonest.specs.Guidance.{Guidance, under, Sound}
use Rattle.soonest.specs.Stages.{Stage}
use Rattle.board.specs.Calls.{Call, asking, holding, handing_back, First, bays_at, granted_at, taken_back_at, free_at}
use Rattle.board.specs.Tables.{Table, first_state, has_free, sites_of, hold_refusal, one_more_out, back_refusal, one_less_out}

-- what a call answers: the listed sites with their readings and each junction's way; a hold with its number and site; that
-- a hold is taken back; a refusal; or a refusal with the hold returned
pub data Answer : Type 0 where
  listing : List (ℕ × ℕ) → (ways : ℕ → ℕ) → Answer
  hold_granted : (number site : ℕ) → Answer
  hold_ended : Answer
  call_refused : Refusal → Answer
  hold_returned : Refusal → (number site : ℕ) → Answer

-- By the counts alone.

-- a hold of the board's number, unless there is no such site, or no bay of it is free
abbrev pub hold_answer : Option Refusal → (number site : ℕ) → Answer
hold_answer None number site = hold_granted number site
hold_answer (Some r) number site = call_refused r

abbrev pub hold_by_counts : First → List Call → ℕ → Answer
hold_by_counts first past s = hold_answer (option_or (unless (nat_lt s (length first.bays)) (refusal 18 the_call)) (unless (nat_lt 0 (free_at first past s)) (refusal 31 the_call))) first.number s

-- the hold ends, unless it bears another number, or no hold of that site is open, or there is no such site
abbrev pub back_answer : Option Refusal → (number site : ℕ) → Answer
back_answer None number site = hold_ended
back_answer (Some r) number site = hold_returned r number site

abbrev pub back_by_counts : First → List Call → (number site : ℕ) → Answer
back_by_counts first past number s = back_answer (option_or (unless (number == first.number) (refusal 32 the_call)) (unless (nat_lt s (length first.bays) && nat_lt (taken_back_at first past s) (granted_at first past s)) (refusal 33 the_call))) number s

-- refused by the first of its refusals that applies, or a list of the soonest sites that are free by the counts
abbrev pub SoonestOr : Option Refusal → Guidance → (free : ℕ → Bool) → Asking → Answer → Type 0
SoonestOr (Some r) g free q answer = answer ≡ call_refused r
SoonestOr None g free q answer = (h : ℕ) × (listed : List (ℕ × ℕ)) × (ways : ℕ → ℕ) × (g.roads.start q.number ≡ Some h) × (answer ≡ listing listed ways) × Soonest g.roads free q.junction h q.k listed ways

-- what is promised of the next call's answer
abbrev pub Right : First → List Call → Call → Answer → Type 0
Right first past (asking g layers q) answer = SoonestOr (ask_refusal (under layers g) (length first.bays) q) (under layers g) (λ s. nat_lt 0 (free_at first past s)) q answer
Right first past (holding s) answer = answer ≡ hold_by_counts first past s
Right first past (handing_back number s) answer = answer ≡ back_by_counts first past number s

-- By the board's table, as the contracts of holding and handing back give it.

abbrev pub ask_answer : Result Stage Refusal → Answer
ask_answer (Ok s) = listing s.listed s.way
ask_answer (Err r) = call_refused r

-- what a call answers on a board
abbrev pub answer_on : Table → Call → Answer
answer_on t (asking g layers q) = ask_answer (asked (under layers g) (has_free t) (sites_of t) q)
answer_on t (holding s) = hold_answer (hold_refusal t s) t.number s
answer_on t (handing_back number s) = back_answer (back_refusal t number s) number s

-- what it leaves of the board: an asking and a refused call alter nothing
abbrev pub after_call : Call → Table → Table
after_call (asking g layers q) t = t
after_call (holding s) t = one_more_out (hold_refusal t s) t s
after_call (handing_back number s) t = one_less_out (back_refusal t number s) t s

-- the board that some calls leave, the newest first
unfoldable pub board_after : First → List Call → Table
board_after first [] = first_state first.number first.bays
board_after first (c ∷ past) = after_call c (board_after first past)

-- a call that is an asking comes with a guide that keeps the rules below its layers
abbrev pub SoundCall : Call → Type 0
SoundCall (asking g layers q) = Sound g
SoundCall (holding s) = Unit {0}
SoundCall (handing_back number s) = Unit {0}

-- a board stands so after some calls: number and bays as at first, and out at each site what was granted and not taken back
pub record Stands (first : First) (past : List Call) (t : Table) : Type 0 where
  pub number : t.number ≡ first.number
  pub bays : t.bays ≡ first.bays
  pub out : (s : ℕ) → t.out s + taken_back_at first past s ≡ granted_at first past s
  pub never_more : (s : ℕ) → granted_at first past s ≤ bays_at first s + taken_back_at first past s

-- some calls on a board that stands, whatever calls came before: what is promised of them holds, and the board stands after
abbrev pub OverEveryPast : (before : Table) → (promised : First → List Call → Type 0) → (later : First → List Call → List Call) → (after : Table) → Type 0
OverEveryPast before promised later after = (first : First) (past : List Call) → Stands first past before → promised first past × Stands first (later first past) after

-- one call: its answer is right, and the board stands after it
abbrev pub Throughout : (before : Table) → Call → Answer → (after : Table) → Type 0
Throughout before call answer after = OverEveryPast before (λ first past. Right first past call answer) (λ first past. call ∷ past) after

-- a board stands as new, with this number and these bays
abbrev pub StandsNew : (number : ℕ) → List ℕ → Table → Type 0
StandsNew number bays t = (first : First) → first.number ≡ number → first.bays ≡ bays → Stands first [] t

-- whether an answer says that the board is altered: a hold is granted, or ended
abbrev pub alters : Answer → Bool
alters (listing listed ways) = false
alters (hold_granted number site) = true
alters hold_ended = true
alters (call_refused r) = false
alters (hold_returned r number site) = false

-- what is promised of a call after some calls: its answer is right, the board that it finds stands as counted, and what is
-- no hold granted or ended leaves the board as it was
pub record Promised (first : First) (past : List Call) (c : Call) : Type 0 where
  pub right : SoundCall c → Right first past c (answer_on (board_after first past) c)
  pub stands : Stands first past (board_after first past)
  pub unaltered : alters (answer_on (board_after first past) c) ≡ false → board_after first (c ∷ past) ≡ board_after first past

-- the promise, for every first state, every list of calls on that board, and every next call
abbrev pub SoonestAndFreeBaysOverEveryListOfCalls : Type 0
SoonestAndFreeBaysOverEveryListOfCalls = (first : First) (past : List Call) (c : Call) → Promised first past c
