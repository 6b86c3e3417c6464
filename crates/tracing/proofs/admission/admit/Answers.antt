use Rattle.std.proofs.Common.{◌≡◌, Err, sym, ap, ◌∙◌, subst, inl, inr, ⊎_elim, arith}
use Rattle.std.specs.Option.{option_map}
use Rattle.std.specs.Result.{result_ok}
use Rattle.std.proofs.lemmas.Grind.{common_steps}
use Rattle.soonest.specs.declared.faults.TraceFault.TheVariants.{Start}
use Rattle.tracing.specs.Admitted.{Admission}
use Rattle.tracing.specs.Traces.{tracing}
use Rattle.tracing.proofs.Refusing.{no_junction, no_start, no_room}
use Rattle.tracing.proofs.admission.admit.Goals as goal
use Rattle.tracing.proofs.admission.admit.Goals.{then-ways-junctions-via-then-ways-junctions, then-ways-junctions-via-else-ways-junctions+then-arcs-junctions}

pub returns-then-from-junctions : goal.returns-then-from-junctions
returns-then-from-junctions g c =
    let m = g.N.Network.roads c.args.network.now in
    let t = tracing c.args.from c.args.number c.args.to c.args.ways c.args.arcs in
    λ way. no_junction m way t (⊎_elim (λ l. inl (omega arith)) (λ l. inr (omega arith)) c.then-from-junctions.either)

pub returns-in_err-start : goal.returns-in_err-start
returns-in_err-start g c =
    let height = g.N.Network.height c.args.network.now in
    let m = g.N.Network.roads c.args.network.now in
    let t = tracing c.args.from c.args.number c.args.to c.args.ways c.args.arcs in
    let none = c.ok_or.ensures.ok_part ∙ ap result_ok c.in_err-start.was in
    let refused : c.from_residual.result ≡ Err Start = grind (arith, common_steps, c.from_residual.ensures, c.ok_or.ensures.value, c.in_err-start.was) in
    subst (Admission height m t) (sym refused) (λ way. no_start m way t (omega arith) (omega arith) (sym c.start.ensures ∙ ap (option_map height) none))

pub returns-then-ways-junctions : goal.returns-then-ways-junctions
returns-then-ways-junctions g c =
    let height = g.N.Network.height c.args.network.now in
    let m = g.N.Network.roads c.args.network.now in
    let t = tracing c.args.from c.args.number c.args.to c.args.ways c.args.arcs in
    let starts = c.ok_or.ensures.ok_part ∙ ap result_ok c.in_ok-start.was in
    λ way. no_room m way t (height c.in_ok-start.start) (omega arith) (omega arith) (sym c.start.ensures ∙ ap (option_map height) starts)
    (elim c.then-ways-junctions.branch [ then-ways-junctions-via-then-ways-junctions w ↦ inl (omega arith) | then-ways-junctions-via-else-ways-junctions+then-arcs-junctions w ↦ inr (omega arith) ])
