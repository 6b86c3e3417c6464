-- A board as its table, and what holding and handing back make of it. Assumes nothing.
use Rattle.std.specs.Prelude.{ℕ, suc, ◌-◌, Bool, ◌&&◌, List, length, Some, None, Option, ◌==◌, nat_le, nat_lt, slice_index}
use Rattle.std.specs.Option.{option_or}
use Rattle.network.specs.First.{unless, every}
use Rattle.network.specs.Refused.{refusal}
use Rattle.network.specs.declared.refusals.Places.TheVariants.{Call}
use Rattle.network.specs.declared.refusals.Refusal.{Refusal}
use Rattle.soonest.specs.Stages.{upd}

-- a board: its number, each site's bays, and how many of them are out
pub record Table : Type 0 where
  pub number : ℕ
  pub bays : List ℕ
  pub out : ℕ → ℕ

-- a board in its first state has every bay free
abbrev pub first_state : (number : ℕ) → List ℕ → Table
first_state number bays = record { number = number; bays = bays; out = λ _. 0 }

-- over 64 sites, or a site of over 8 bays
unfoldable pub board_refusal : List ℕ → Option Refusal
board_refusal bays = unless (nat_le (length bays) 64 && every (λ s. nat_le (slice_index bays s) 8) (length bays)) (refusal 13 Call)

abbrev pub sites_of : Table → ℕ
sites_of t = length t.bays

-- whether a site has a free bay; a site that is not there has none
abbrev pub has_free : Table → ℕ → Bool
has_free t s = nat_lt (t.out s) (slice_index t.bays s)

abbrev pub with_out : Table → ℕ → ℕ → Table
with_out t s n = record { number = t.number; bays = t.bays; out = upd t.out s n }

-- holding: no such site, or no free bay; else one more is out
unfoldable pub hold_refusal : Table → ℕ → Option Refusal
hold_refusal t s = option_or (unless (nat_lt s (sites_of t)) (refusal 18 Call)) (unless (has_free t s) (refusal 31 Call))

abbrev pub one_more_out : Option Refusal → Table → ℕ → Table
one_more_out None t s = with_out t s (suc (t.out s))
one_more_out (Some r) t s = t

-- handing back: another board's number, or no bay of that site is out here, or there is no such site; else one less is out
unfoldable pub back_refusal : Table → (number site : ℕ) → Option Refusal
back_refusal t number site = option_or (unless (number == t.number) (refusal 32 Call)) (unless (nat_lt site (sites_of t) && nat_lt 0 (t.out site)) (refusal 33 Call))

abbrev pub one_less_out : Option Refusal → Table → ℕ → Table
one_less_out None t s = with_out t s (t.out s - 1)
one_less_out (Some r) t s = t
