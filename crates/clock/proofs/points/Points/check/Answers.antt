use Rattle.std.proofs.Common.{sym, ◌∙◌, arith}
use Rattle.network.proofs.First.{first_at, first_none}
use Rattle.std.proofs.lemmas.Result.{err_from_is_err_and}
use Rattle.clock.specs.Faults.{table_fault}
use Rattle.clock.specs.Points.{arc_refusal}
use Rattle.clock.specs.Timed.{points_then, cut_says, cut_within}
use Rattle.clock.proofs.points.Points.check.Goals as goal

pub check_arc-requires : goal.check_arc-requires
check_arc-requires c =
    let s = c.args.self.now in
    let k = cut_within _ _ _ _ (cut_says _ _ _ _ (sym c.if-not-well_cut.ensures)) c.loop-arc.arc (omega arith) in
    record { there = k.0; rising = k.1; within = k.2; alike = k.3 }

pub returns-in_err-check_arc : goal.returns-in_err-check_arc
returns-in_err-check_arc c =
    let s = c.args.self.now in
    let p = err_from_is_err_and c.from_residual.result c.from_residual.ensures.1 in
    rw (p.1, p.2) (sym (points_then _ _ _ _ (sym c.if-not-well_cut.ensures) ∙ first_at (arc_refusal s.starts.now s.departures.now s.arrivals.now) c.args.arcs c.loop-arc.arc (table_fault c.in_err-check_arc.field-0.0) (omega arith) c.loop-arc.invariant (sym c.in_err-check_arc.ensures)))

pub returns : goal.returns
returns c =
    let s = c.args.self.now in
    sym (points_then _ _ _ _ (sym c.if-not-well_cut.ensures) ∙ first_none (arc_refusal s.starts.now s.departures.now s.arrivals.now) c.args.arcs (λ a l. c.loop-arc.invariant a (omega arith)))
