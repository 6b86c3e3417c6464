use Rattle.std.proofs.Common.{◌≡◌, ◌<◌, ◌⊎◌, length, subst, ⊎_elim, inl, inr, length-append, arith}
use Rattle.std.proofs.lemmas.Slice.Zip.{zip_turn, zip_end}
use Rattle.least.specs.Points.{LeastAtPoints}
use Rattle.least.proofs.Walking.{none_yet, one_within, one_outside, zip_starts}
use Rattle.least.proofs.times.least_at_points.Goals.{else-first-departure-via-then-first-departure+else-departure-last, else-first-departure-via-else-first-departure}
use Rattle.least.proofs.times.least_at_points.Goals as goal

pub loop-departure-init : goal.loop-departure-init
loop-departure-init c = none_yet _ _ _ _ _

pub loop-departure-preserved-then-departure-last : goal.loop-departure-preserved-then-departure-last
loop-departure-preserved-then-departure-last c =
    let z = c.zip-departure-items.ensures in
    let on = zip_starts _ _ _ c.args.departures.now c.args.arrivals.now c.into_iter-departure-iterator.ensures.into_iter_gives z.first c.iter.ensures.rest z.second.0 in
    let turn = zip_turn c.args.departures.now c.args.arrivals.now c.loop-departure.yielded c.into_iter-departure-iterator.result c.loop-departure.departure-iterator c.next.new.self c.next.result on.0 on.1 c.loop-departure.yielded_by (c.in-Some.departure, c.in-Some.arrival) c.in-Some.is c.next.ensures.steps in
    rw c.min-least.ensures (one_within _ _ _ _ _ (length c.loop-departure.yielded) _ _ _ _ c.loop-departure.invariant (length-append _ _) (turn.2 0) (turn.3 0) c.if-first-departure.true c.if-departure-last.true)

pub loop-departure-preserved : goal.loop-departure-preserved
loop-departure-preserved c =
    let z = c.zip-departure-items.ensures in
    let on = zip_starts _ _ _ c.args.departures.now c.args.arrivals.now c.into_iter-departure-iterator.ensures.into_iter_gives z.first c.iter.ensures.rest z.second.0 in
    let turn = zip_turn c.args.departures.now c.args.arrivals.now c.loop-departure.yielded c.into_iter-departure-iterator.result c.loop-departure.departure-iterator c.next.new.self c.next.result on.0 on.1 c.loop-departure.yielded_by (c.in-Some.departure, c.in-Some.arrival) c.in-Some.is c.next.ensures.steps in
    let outside : (c.in-Some.departure.now < c.args.first) ⊎ (c.args.last < c.in-Some.departure.now) =
    elim c.else-first-departure.branch [
      | else-first-departure-via-then-first-departure+else-departure-last w ↦ inr w.if-departure-last.false
      | else-first-departure-via-else-first-departure w ↦ inl w.if-first-departure.false
    ] in
    one_outside _ _ _ _ _ (length c.loop-departure.yielded) _ _ c.in-Some.departure.now c.loop-departure.invariant (length-append _ _) (turn.2 0) (λ l m. ⊎_elim (λ h. absurd (omega arith)) (λ h. absurd (omega arith)) outside)

pub returns : goal.returns
returns c =
    let z = c.zip-departure-items.ensures in
    let on = zip_starts _ _ _ c.args.departures.now c.args.arrivals.now c.into_iter-departure-iterator.ensures.into_iter_gives z.first c.iter.ensures.rest z.second.0 in
    let all = zip_end c.args.departures.now c.args.arrivals.now c.loop-departure.yielded c.into_iter-departure-iterator.result c.loop-departure.departure-iterator c.next.new.self c.next.result on.0 on.1 c.loop-departure.yielded_by c.in-None.is c.next.ensures.steps in
    let alike = c.requires.alike in
    let e : length c.loop-departure.yielded ≡ length c.args.departures.now = omega arith in
    subst (λ n. LeastAtPoints c.args.departures.now c.args.arrivals.now c.args.first c.args.last c.args.start n c.loop-departure.least) e c.loop-departure.invariant
