-- How a layer's list changes. Assumes nothing.
use Rattle.std.specs.Prelude.{ℕ, Bool, not, List, length, Some, None, Option, nat_lt}
use Rattle.std.specs.Option.{option_or}
use Rattle.network.specs.First.{unless}
use Rattle.network.specs.Layers.{stands}
use Rattle.network.specs.Refused.{refusal}
use Rattle.network.specs.declared.refusals.Places.TheVariants.{Call}
use Rattle.network.specs.declared.refusals.Refusal.{Refusal}

-- what stands on an arc is something of which `on` tells the arc
module _ {X : Type 0} (on : X → ℕ) where
  -- adding is refused where there is no such arc, or it does not fit, or it is there, or there is no room
  abbrev pub adding : (arcs most : ℕ) → (fits : Bool) → List X → ℕ → Option Refusal
  adding arcs most fits xs a =
      option_or (unless (nat_lt a arcs) (refusal 19 Call))
      (option_or (unless fits (refusal 20 Call))
      (option_or (unless (not (stands on xs a)) (refusal 36 Call))
      (unless (nat_lt (length xs) most) (refusal 35 Call))))

  -- lifting is refused where there is no such arc, or it is not there
  abbrev pub lifting : (arcs : ℕ) → List X → ℕ → Option Refusal
  lifting arcs xs a = option_or (unless (nat_lt a arcs) (refusal 19 Call)) (unless (stands on xs a) (refusal 37 Call))

-- a refused call changes nothing
abbrev pub changed : {Y : Type 0} → Option Refusal → Y → Y → Y
changed None before after = after
changed (Some refusal) before after = before
