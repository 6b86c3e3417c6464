-- What length tables are refused by. Assumes nothing.
use Rattle.std.specs.Prelude.{ℕ, ◌-◌, Bool, ◌&&◌, List, length, Option, ◌==◌, nat_le, slice_index}
use Rattle.std.specs.Option.{option_or}
use Rattle.network.specs.First.{every, unless}
use Rattle.network.specs.Lists.{arcs_refusal, sites_refusal}
use Rattle.network.specs.Refused.{refusal}
use Rattle.network.specs.declared.refusals.Places.TheVariants.{Call}
use Rattle.network.specs.declared.refusals.Refusal.{Refusal}
use Rattle.length.specs.Tables.{Tables}

-- one number of metres for each arc, 1 to 1,000,000
unfoldable pub measured : (arcs : ℕ) → List ℕ → Bool
measured arcs metres = length metres == arcs && every (λ a. nat_le 1 (slice_index metres a) && nat_le (slice_index metres a) 1000000) (length metres)

-- what length tables are refused by, if anything: arcs, then metres, then sites
unfoldable pub table_refusal : Tables → Option Refusal
table_refusal t =
    option_or (arcs_refusal t.starts t.heads)
    (option_or (unless (measured (length t.heads) t.metres) (refusal 12 Call))
    (sites_refusal (length t.starts - 1) t.sites))
