-- Which answers metres and tables get, case by case. Nothing rests on these: the check unfolds the definitions. Assumes
-- nothing.
use Rattle.std.proofs.Common.{◌≡◌, ℕ, ◌-◌, ◌<◌, Bool, true, false, ◌&&◌, List, length, get_or, Some, None, Option, refl, arith}
use Rattle.std.proofs.lemmas.Bool.Decides.{nat_tests}
use Rattle.std.proofs.lemmas.Bool.{and_from, le-leb}
use Rattle.std.specs.Prelude.{nat_le, slice_index}
use Rattle.std.specs.Option.{option_map}
use Rattle.network.specs.First.{every}
use Rattle.network.specs.Lists.{arcs_refusal, sites_refusal}
use Rattle.network.specs.Refused.{refusal}
use Rattle.network.specs.declared.refusals.Places.TheVariants.{Call}
use Rattle.network.specs.declared.refusals.Refusal.{Refusal}
use Rattle.network.proofs.First.{every_from}
use Rattle.std.proofs.lemmas.Bool.{false_from_ne_true}
use Rattle.length.specs.Measured.{Measured, fits, measured_says}
use Rattle.length.specs.Metres.{measured, table_refusal}
use Rattle.length.specs.Readings.{Reading, height_of}
use Rattle.length.specs.Tables.{Tables}

module _ (arcs : ℕ) (metres : List ℕ) where
  pub measured_from : Measured arcs metres → measured arcs metres ≡ true
  unfolding measured
  measured_from m =
      let all : every (fits arcs metres) (length metres) ≡ true = every_from (fits arcs metres) (length metres) (λ a l. and_from (nat_le 1 (slice_index metres a)) (nat_le (slice_index metres a) 1000000) (le-leb 1 (slice_index metres a) (m.some a l)) (le-leb (slice_index metres a) 1000000 (m.few a l))) in
      let count = m.count in
      grind (arith, nat_tests)

  pub not_measured : (Measured arcs metres → ⊥) → measured arcs metres ≡ false
  not_measured h = false_from_ne_true (measured arcs metres) (λ e. h (measured_says arcs metres e))

module _ (t : Tables) where
  pub table_arcs : (x : Refusal) → arcs_refusal t.starts t.heads ≡ Some x → table_refusal t ≡ Some x
  unfolding table_refusal
  table_arcs x e = rw e

  pub table_metres : arcs_refusal t.starts t.heads ≡ None → measured (length t.heads) t.metres ≡ false → table_refusal t ≡ Some (refusal 12 Call)
  unfolding table_refusal
  table_metres d e = rw (d, e)

  pub table_sites : arcs_refusal t.starts t.heads ≡ None → measured (length t.heads) t.metres ≡ true → table_refusal t ≡ sites_refusal (length t.starts - 1) t.sites
  unfolding table_refusal
  table_sites d e = rw (d, e)

-- what a height came from
pub mapped_says : (o : Option Reading) (q : ℕ) → option_map height_of o ≡ Some q → (r : Reading) × (o ≡ Some r) × (height_of r ≡ q)
mapped_says None q e = cc
mapped_says (Some r) q e = (r, refl, let z : height_of r ≡ q = cc in z)
