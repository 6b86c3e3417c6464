-- What a refusal says: its number, and the places that it names. Assumes nothing.
use Rattle.std.specs.Prelude.{ℕ, Some, None, Ok, Err, Option, Result}
use Rattle.std.specs.Option.{option_map}
use Rattle.std.specs.Result.{result_err}
use Rattle.network.specs.declared.refusals.Places.{Places}
use Rattle.network.specs.declared.refusals.Places.TheVariants.{Call, One}
use Rattle.network.specs.declared.refusals.Refusal.{Refusal}
use Rattle.network.specs.declared.refusals.StreetFault.{StreetFault}
use Rattle.network.specs.declared.refusals.StreetFault.TheVariants.{StartCount, Starts, Head, Site}

abbrev pub refusal : ℕ → Places → Refusal
refusal n p = record { number = n; places = p }

-- the refusal that a result holds, by what each fault means, or nothing where it is no fault
abbrev pub refused : {X E : Type 0} → (E → Refusal) → Result X E → Option Refusal
refused meaning r = option_map meaning (result_err r)

-- what a call that keeps a value answers: the value where nothing refuses it, or the refusal, with the value handed back
abbrev pub answered : {X : Type 0} → X → Option Refusal → Result X (Refusal × X)
answered x None = Ok x
answered x (Some refusal) = Err (refusal, x)

-- the faults of the lists that every kind of roads has
abbrev pub street_refusal : StreetFault → Refusal
street_refusal StartCount = refusal 1 Call
street_refusal Starts = refusal 2 Call
street_refusal (Head arc) = refusal 3 (One arc)
street_refusal (Site site) = refusal 8 (One site)
