use Rattle.std.proofs.Common.{◌≡◌, ◌-◌, min, sym, ap, ◌∙◌, arith}
use Rattle.clock.specs.ClockLaws.{roads_open}
use Rattle.clock.specs.Held.{road_lists}
use Rattle.least.specs.Held.{day_firsts}
use Rattle.least.specs.Times.{travel_time}
use Rattle.least.proofs.Cuts.{whole_says, span_says, no_span, span_within}
use Rattle.least.proofs.Entered.{own_alike, own_later}
use Rattle.least.proofs.LeastTimes.{ends_give, no_segment, no_arc, carried_there, not_carried}
use Rattle.least.proofs.times.least_time.Goals as goal

pub returns-in_err-first : goal.returns-in_err-first
returns-in_err-first c =
    let t = road_lists c.args.roads.now in
    let firsts = day_firsts c.args.day.now in
    c.from_residual.ensures ∙ sym (no_segment t firsts c.args.segment c.args.arc (no_span firsts c.args.segment c.in_err-first.ensures))

pub overflow_sub-last : goal.overflow_sub-last
overflow_sub-last c =
    let d = c.args.day.now in
    let firsts = day_firsts d in
    let span = span_says firsts c.args.segment c.in_ok-first.first c.in_ok-first.end c.in_ok-first.ensures in
    let within = (span_within firsts (whole_says firsts d.whole) c.args.segment span.0).0 in
    let end = span.2 in
    omega arith

pub returns-in_err-travel_time : goal.returns-in_err-travel_time
returns-in_err-travel_time c =
    let r = c.args.roads.now in
    let d = c.args.day.now in
    let firsts = day_firsts d in
    let span = span_says firsts c.args.segment c.in_ok-first.first c.in_ok-first.end c.in_ok-first.ensures in
    let within = span_within firsts (whole_says firsts d.whole) c.args.segment span.0 in
    let some = within.0 in
    let few = within.1 in
    let first = span.1 in
    c.from_residual-in_err-travel_time.ensures ∙ sym (no_arc (road_lists r) firsts c.args.segment c.args.arc (not_carried r c.args.arc c.in_ok-first.first (omega arith) c.in_err-travel_time.ensures))

pub returns-in_err-travel_time-2 : goal.returns-in_err-travel_time-2
returns-in_err-travel_time-2 c =
    let r = c.args.roads.now in
    let d = c.args.day.now in
    let firsts = day_firsts d in
    let span = span_says firsts c.args.segment c.in_ok-first.first c.in_ok-first.end c.in_ok-first.ensures in
    let within = span_within firsts (whole_says firsts d.whole) c.args.segment span.0 in
    let some = within.0 in
    let few = within.1 in
    let end = span.2 in
    c.from_residual-in_err-travel_time-2.ensures ∙ sym (no_arc (road_lists r) firsts c.args.segment c.args.arc (not_carried r c.args.arc (c.in_ok-first.end - 1) (omega arith) c.in_err-travel_time-2.ensures))

pub least_at_points-requires : goal.least_at_points-requires
least_at_points-requires c =
    let r = c.args.roads.now in
    let t = road_lists r in
    let a = c.args.arc in
    let there = (carried_there r a c.in_ok-first.first c.in_ok-travel_time.field-0 c.in_ok-travel_time.ensures).0 in
    rw (c.departures.ensures, c.arrivals.ensures) (record { alike = own_alike t a there (roads_open r a there); later = own_later t a there (roads_open r a there) })

pub returns : goal.returns
returns c =
    let r = c.args.roads.now in
    let d = c.args.day.now in
    let firsts = day_firsts d in
    let a = c.args.arc in
    let span = span_says firsts c.args.segment c.in_ok-first.first c.in_ok-first.end c.in_ok-first.ensures in
    let at_first = carried_there r a c.in_ok-first.first c.in_ok-travel_time.field-0 c.in_ok-travel_time.ensures in
    let at_last = carried_there r a (c.in_ok-first.end - 1) c.in_ok-travel_time-2.field-0 c.in_ok-travel_time-2.ensures in
    let start : c.min-start.result ≡ min (travel_time (road_lists r) a c.in_ok-first.first) (travel_time (road_lists r) a (c.in_ok-first.end - 1)) =
    c.min-start.ensures ∙ ap (λ x. min x c.in_ok-travel_time-2.field-0) at_first.1 ∙ ap (λ x. min (travel_time (road_lists r) a c.in_ok-first.first) x) at_last.1 in
    sym (ends_give (road_lists r) a at_first.0 (roads_open r a at_first.0) firsts (whole_says firsts d.whole) c.args.segment span.0 c.departures.result.now c.arrivals.result.now c.departures.ensures c.arrivals.ensures c.in_ok-first.first (c.in_ok-first.end - 1) c.min-start.result c.least_at_points.result span.1 (ap (λ e. e - 1) span.2) start c.least_at_points.ensures)
