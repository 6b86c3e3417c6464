use Rattle.std.proofs.Common.{◌-◌, length, sym, ap, ◌∙◌, ⊎_elim, arith}
use Rattle.std.proofs.lemmas.Bool.{both_ways}
use Rattle.std.specs.Option.{option_map}
use Rattle.network.specs.declared.refusals.Places.TheVariants.{One}
use Rattle.network.specs.Refused.{refusal}
use Rattle.network.proofs.Refusing.{arcs_miscounted, arcs_misrun, arcs_then, first_past}
use Rattle.network.proofs.checks.check_arcs.Goals as goal

pub returns-then-count-lt-LEAST_STARTS : goal.returns-then-count-lt-LEAST_STARTS
returns-then-count-lt-LEAST_STARTS c = sym (arcs_miscounted c.args.starts.now c.args.heads.now (λ l m. omega arith))

pub returns-then-not-runs_to : goal.returns-then-not-runs_to
returns-then-not-runs_to c = sym (arcs_misrun c.args.starts.now c.args.heads.now (omega arith) (omega arith)
    (λ r k. ⊎_elim (λ f. both_ways c.runs_to.result f (c.runs_to.ensures ∙ r)) (λ p. let m = p.1 in omega arith) c.then-not-runs_to.either))

pub returns-in-Some : goal.returns-in-Some
returns-in-Some c =
    let s = c.args.starts.now in
    let h = c.args.heads.now in
    sym
    (arcs_then s h (omega arith) (omega arith) (sym c.if-not-runs_to.ensures) c.if-heads-gt-MOST_ARCS.false ∙ first_past h (length s - 1) (λ a. refusal 3 (One a)) ∙ ap (option_map (λ a. refusal 3 (One a))) (sym c.first_past.ensures.first ∙ c.in-Some.is))

pub returns-in-None : goal.returns-in-None
returns-in-None c =
    let s = c.args.starts.now in
    let h = c.args.heads.now in
    sym
    (arcs_then s h (omega arith) (omega arith) (sym c.if-not-runs_to.ensures) c.if-heads-gt-MOST_ARCS.false ∙ first_past h (length s - 1) (λ a. refusal 3 (One a)) ∙ ap (option_map (λ a. refusal 3 (One a))) (sym c.first_past.ensures.first ∙ c.in-None.is))
