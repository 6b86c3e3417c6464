-- The lists that every kind of roads has: arc starts, heads, and each site's junction. Junction v's arcs run from arc
-- start v to before arc start v + 1. Assumes nothing.
use Rattle.std.specs.Prelude.{ℕ, ◌+◌, ◌-◌, ◌<◌, ◌≤◌, Bool, ◌&&◌, List, length, Option, ◌==◌, nat_le, nat_lt, slice_index}
use Rattle.std.specs.Option.{option_or, unwrap_or}
use Rattle.network.specs.declared.refusals.Places.TheVariants.{Call, One}
use Rattle.network.specs.declared.refusals.Refusal.{Refusal}
use Rattle.network.specs.First.{first_of, every, unless, provided}
use Rattle.network.specs.Model.{Roads}
use Rattle.network.specs.Refused.{refusal}

-- whether a list runs from 0 to `last` in steps of at least `step`
unfoldable pub runs : List ℕ → ℕ → ℕ → Bool
runs list step last = nat_lt 0 (length list) && slice_index list 0 == 0 && slice_index list (length list - 1) == last && every (λ i. nat_le (slice_index list i + step) (slice_index list (i + 1))) (length list - 1)

-- what arc starts and heads are refused by, if anything
unfoldable pub arcs_refusal : (starts heads : List ℕ) → Option Refusal
arcs_refusal starts heads =
    option_or (unless (nat_le 2 (length starts) && nat_le (length starts) 4097) (refusal 1 Call))
    (option_or (unless (runs starts 0 (length heads) && nat_le (length heads) 16384) (refusal 2 Call))
    (first_of (λ a. unless (nat_lt (slice_index heads a) (length starts - 1)) (refusal 3 (One a))) (length heads)))

-- what the sites are refused by, if anything, among so many junctions
unfoldable pub sites_refusal : (junctions : ℕ) → List ℕ → Option Refusal
sites_refusal junctions sites =
    option_or (unless (nat_le (length sites) 64) (refusal 8 (One 64)))
    (first_of (λ s. unless (nat_lt (slice_index sites s) junctions) (refusal 8 (One s))) (length sites))

-- an arc's tail: the first junction whose arcs end after it
unfoldable pub tail_of : List ℕ → ℕ → ℕ
tail_of starts a = unwrap_or (first_of (λ v. provided (nat_lt a (slice_index starts (v + 1))) v) (length starts - 1)) 0

-- a network on these lists
abbrev pub on_streets : (starts heads sites : List ℕ) → (ℕ → Bool) → (ℕ → Option ℕ) → (ℕ → ℕ → Option ℕ) → (ℕ → ℕ → Option ℕ) → Roads
on_streets starts heads sites reads start carry lengthen = record {
  junctions = length starts - 1;
  arcs = length heads;
  sites = length sites;
  tail = tail_of starts;
  head = λ a. slice_index heads a;
  place = λ s. slice_index sites s;
  reads = reads;
  start = start;
  carry = carry;
  lengthen = lengthen;
}

-- where a bound stands in a list: what is right before is less, and what stands there is not. In a rising list there
-- is one such place
pub record LowerBound (list : List ℕ) (bound at : ℕ) : Type 0 where
  pub within : at ≤ length list
  pub before : 0 < at → slice_index list (at - 1) < bound
  pub after : at < length list → bound ≤ slice_index list at
