-- There is room for every arc, and each time is within its bounds. Assumes nothing.
use Rattle.std.proofs.Common.{◌<◌, [], ◌∷◌, ◌++◌, length, sym, ◌∙◌, lit<, arith}
use Rattle.std.proofs.lemmas.List.FromFn.{map-range_with_len_more}
use Rattle.clock.specs.ClockLaws.{roads_wellformed, roads_open}
use Rattle.clock.specs.Held.{road_lists}
use Rattle.least.specs.Held.{day_firsts}
use Rattle.least.specs.Times.{least_in_segment}
use Rattle.least.proofs.Cuts.{whole_says, span_says}
use Rattle.least.proofs.LeastTimes.{least_says, least_within}
use Rattle.laying.proofs.Costing.{made_long, made_within}
use Rattle.laying.proofs.costs.Costs.of.Goals as goal

pub push-requires : goal.push-requires
push-requires c =
    let r = c.args.roads.now in
    let few = (roads_wellformed r).few_arcs in
    let more = c.loop-arc-test.true in
    let n = c.arcs-arc-end.ensures in
    let long = made_long (least_in_segment (road_lists r) (day_firsts c.args.day.now) c.args.segment) c.loop-arc.arc c.loop-arc.list.items c.loop-arc.invariant in
    (lit< tt, omega arith)

pub loop-arc-preserved : goal.loop-arc-preserved
loop-arc-preserved c =
    let t = road_lists c.args.roads.now in
    let firsts = day_firsts c.args.day.now in
    let f = least_in_segment t firsts c.args.segment in
    let here = (least_says t firsts c.args.segment c.loop-arc.arc c.in_ok-least_time.field-0 (sym c.least_time.ensures ∙ c.in_ok-least_time.was)).2 in
    c.push.ensures.items
    ∙ (λ i. c.loop-arc.invariant i ++ here i ∷ [])
    ∙ sym (map-range_with_len_more f 0 c.loop-arc.arc c.loop-arc.arc (omega arith))

pub invariant_of-result : goal.invariant_of-result
invariant_of-result c =
    let r = c.args.roads.now in
    let t = road_lists r in
    let firsts = day_firsts c.args.day.now in
    let f = least_in_segment t firsts c.args.segment in
    let all = c.arcs-arc-end.ensures in
    let within = c.loop-arc.auto.arc-end in
    let span = span_says firsts c.args.segment c.in_ok-span.field-0.0 c.in_ok-span.field-0.1 c.in_ok-span.ensures in
    record { within = made_within f c.loop-arc.arc c.loop-arc.list.items c.loop-arc.invariant (λ a l. let low : a < length t.heads = omega arith in least_within t a low (roads_open r a low) firsts (whole_says firsts c.args.day.now.whole) c.args.segment span.0) }
