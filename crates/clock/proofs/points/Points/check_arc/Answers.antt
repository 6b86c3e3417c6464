use Rattle.std.proofs.Common.{◌≡◌, ◌+◌, ◌-◌, get_or, sym, arith}
use Rattle.network.proofs.First.{first_at, first_none}
use Rattle.std.proofs.lemmas.Result.{err_from_is_err_and}
use Rattle.clock.specs.Faults.{table_fault}
use Rattle.clock.specs.Points.{arc_refusal}
use Rattle.clock.specs.Timed.{place_refusal}
use Rattle.clock.proofs.points.Points.check_arc.Goals as goal

pub returns-in_err-check : goal.returns-in_err-check
unfolding arc_refusal
returns-in_err-check c =
    let s = c.args.self.now in
    let first = get_or s.starts.now c.args.arc 0 in
    let end = get_or s.starts.now (c.args.arc + 1) 0 in
    let p = err_from_is_err_and c.from_residual.result c.from_residual.ensures.1 in
    let here : first + (c.loop-place.place - first) ≡ c.loop-place.place = omega arith in
    rw (p.1, p.2) (sym (first_at (place_refusal s.starts.now s.departures.now s.arrivals.now c.args.arc) (end - first) (c.loop-place.place - first) (table_fault c.in_err-check.field-0.0) (omega arith) (λ j l. c.loop-place.invariant (first + j) (omega arith) (omega arith)) (rw here (sym c.in_err-check.ensures))))

pub returns : goal.returns
unfolding arc_refusal
returns c =
    let s = c.args.self.now in
    let first = get_or s.starts.now c.args.arc 0 in
    let end = get_or s.starts.now (c.args.arc + 1) 0 in
    sym (first_none (place_refusal s.starts.now s.departures.now s.arrivals.now c.args.arc) (end - first) (λ j l. c.loop-place.invariant (first + j) (omega arith) (omega arith)))
