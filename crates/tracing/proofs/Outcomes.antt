-- What a tracing tells and writes, by its answer. Assumes nothing.
use Rattle.std.proofs.Common.{◌≡◌, ℕ, List, length, take, Some, Ok, Err, Result, sym, refl, ap, subst}
use Rattle.network.specs.Model.{Roads}
use Rattle.network.specs.Paths.{Path, along}
use Rattle.network.specs.declared.refusals.Refusal.{Refusal}
use Rattle.soonest.specs.Ways.{back}
use Rattle.tracing.specs.Traces.{told, InFront, Written, Drives}
use Rattle.tracing.proofs.Driven.{back_chain}

module _ (answer : Result (List ℕ × ℕ) Refusal) where
  pub refused_told : (r : Refusal) → answer ≡ Err r → Err r ≡ told answer
  refused_told r e = sym (ap told e)

  pub refused_kept : (r : Refusal) (list : List ℕ) → answer ≡ Err r → Written answer list list
  refused_kept r list e = subst (λ o. Written o list list) (sym e) refl

  pub traced_told : (arcs : List ℕ) (q : ℕ) → answer ≡ Ok (arcs, q) → Ok (length arcs, q) ≡ told answer
  traced_told arcs q e = sym (ap told e)

  pub traced_written : (arcs before after : List ℕ) (q : ℕ) → answer ≡ Ok (arcs, q) → InFront arcs before after → Written answer before after
  traced_written arcs before after q e f = subst (λ o. Written o before after) (sym e) f

-- what stands in front of the list is a path
pub traced_drives : (m : Roads) (way : ℕ → ℕ) (from number to n h q : ℕ) (arcs before after : List ℕ) → m.start number ≡ Some h → back m way from n to ≡ Some arcs → along m h arcs ≡ Some q → InFront arcs before after → Drives m from number to (take (length arcs) after) q
traced_drives m way from number to n h q arcs before after s b a f = (h, s, subst (λ xs. Path m from h xs to q) (sym f.front) (back_chain m way from n to arcs b, a))
