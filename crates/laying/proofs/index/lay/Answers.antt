-- Each segment has its own part of the lists, and the rows in it are those of its least times. Assumes nothing.
use Rattle.std.proofs.Common.{◌≡◌, ℕ, ◌+◌, ◌*◌, ◌<◌, ◌≤◌, List, None, length, sym, ap, ◌∙◌, subst, arith}
use Rattle.std.proofs.lemmas.List.{length-take-le}
use Rattle.std.proofs.lemmas.Nat.{mul-le}
use Rattle.clock.specs.ClockLaws.{roads_wellformed}
use Rattle.clock.specs.Held.{road_lists}
use Rattle.clock.specs.Model.{clock_roads}
use Rattle.least.specs.Held.{day_firsts}
use Rattle.least.specs.Times.{least_in_segment}
use Rattle.rows.specs.Index.{place_at}
use Rattle.rows.proofs.Only.{only_index}
use Rattle.laying.specs.Admitted.{lay_refusal}
use Rattle.laying.specs.Held.{costs_in}
use Rattle.laying.specs.Costs.{cost_by}
use Rattle.laying.specs.Places.{Laid, SameOutside}
use Rattle.laying.proofs.Admitting.{has_passed}
use Rattle.laying.proofs.Costing.{costs_say}
use Rattle.laying.proofs.Layouts.{segment_within, laid_same, segment_next, laid_index, LaidBelow}
use Rattle.laying.proofs.index.lay.Goals as goal

-- the work list has room for each junction
work_fits : (n : ℕ) (firsts : List ℕ) (C sites times work : ℕ) → lay_refusal n firsts C sites times work ≡ None → n ≤ work
work_fits n firsts C sites times work e =
    let p = has_passed n firsts C sites times work e in
    let all = p.work_long in
    let wide = mul-le n 1 n C (omega arith) p.some in
    omega arith

pub slice_bounds-new-end : goal.slice_bounds-new-end
slice_bounds-new-end c = work_fits c.junctions-n.result c.args.segments.now c.args.most (length c.args.sites.now) (length c.args.times.now) (length c.args.work.now) (sym c.in_ok-day.ensures.refusal)

pub slice_bounds-new-end-2 : goal.slice_bounds-new-end-2
slice_bounds-new-end-2 c =
    let fits = work_fits c.junctions-n.result c.args.segments.now c.args.most (length c.args.sites.now) (length c.args.times.now) (length c.args.work.now) (sym c.in_ok-day.ensures.refusal) in
    sym (length-take-le c.junctions-n.result c.args.work.now fits)

pub new-search-requires-clause-few : goal.new-search-requires-clause-few
new-search-requires-clause-few c = let few = (roads_wellformed c.args.roads.now).few_junctions in subst (λ n. n ≤ 4096) (sym c.junctions-n.ensures) few

pub new-search-requires-clause-room : goal.new-search-requires-clause-room
new-search-requires-clause-room c =
    let fits = work_fits c.junctions-n.result c.args.segments.now c.args.most (length c.args.sites.now) (length c.args.times.now) (length c.args.work.now) (sym c.in_ok-day.ensures.refusal) in
    length-take-le c.junctions-n.result c.args.work.now fits

pub new-search-requires-clause-short : goal.new-search-requires-clause-short
new-search-requires-clause-short c = (has_passed c.junctions-n.result c.args.segments.now c.args.most (length c.args.sites.now) (length c.args.times.now) (length c.args.work.now) (sym c.in_ok-day.ensures.refusal)).short

pub lay_segment-requires-clause-costs : goal.lay_segment-requires-clause-costs
lay_segment-requires-clause-costs c = (costs_say (road_lists c.args.roads.now) (day_firsts c.in_ok-day.day) c.loop-segment.segment (costs_in c.in-Some.costs) c.in-Some.ensures).0

pub lay_segment-requires-clause-sites : goal.lay_segment-requires-clause-sites
lay_segment-requires-clause-sites c =
    let p = has_passed c.junctions-n.result c.args.segments.now c.args.most (length c.args.sites.now) (length c.args.times.now) (length c.args.work.now) (sym c.in_ok-day.ensures.refusal) in
    let end = c.count-segment-end.ensures in
    let day = ap length c.in_ok-day.ensures.day in
    let more = c.loop-segment-test.true in
    subst (λ C. place_at (clock_roads (road_lists c.args.roads.now)).junctions C (c.loop-segment.segment + 1) 0 0 ≤ length c.loop-segment.sites) (sym c.loop-segment.invariant.1)
    (segment_within (length c.args.segments.now) (clock_roads (road_lists c.args.roads.now)).junctions c.args.most c.loop-segment.segment (length c.loop-segment.sites)
    (c.loop-segment.auto.sites ∙ p.sites_long ∙ ap (λ n. length c.args.segments.now * n * c.args.most) c.junctions-n.ensures)
    (omega arith))

pub lay_segment-requires-clause-times : goal.lay_segment-requires-clause-times
lay_segment-requires-clause-times c =
    let p = has_passed c.junctions-n.result c.args.segments.now c.args.most (length c.args.sites.now) (length c.args.times.now) (length c.args.work.now) (sym c.in_ok-day.ensures.refusal) in
    let end = c.count-segment-end.ensures in
    let day = ap length c.in_ok-day.ensures.day in
    let more = c.loop-segment-test.true in
    subst (λ C. place_at (clock_roads (road_lists c.args.roads.now)).junctions C (c.loop-segment.segment + 1) 0 0 ≤ length c.loop-segment.times) (sym c.loop-segment.invariant.1)
    (segment_within (length c.args.segments.now) (clock_roads (road_lists c.args.roads.now)).junctions c.args.most c.loop-segment.segment (length c.loop-segment.times)
    (c.loop-segment.auto.times ∙ p.times_long ∙ ap (λ n. length c.args.segments.now * n * c.args.most) c.junctions-n.ensures)
    (omega arith))

pub loop-segment-preserved : goal.loop-segment-preserved
loop-segment-preserved c =
    let t = road_lists c.args.roads.now in
    let m = clock_roads t in
    let firsts = day_firsts c.in_ok-day.day in
    let s = c.loop-segment.segment in
    let C = c.args.most in
    let i = c.loop-segment.invariant in
    let costs = cost_by (costs_in c.in-Some.costs) in
    let others = c.lay_segment.new.sites in
    let since = c.lay_segment.new.times in
    let agree = (costs_say t firsts s (costs_in c.in-Some.costs) c.in-Some.ensures).1 in
    let laid = subst (λ k. (v : ℕ) → v < m.junctions → Laid m costs k s v others since) i.1 c.lay_segment.ensures.rows in
    let rest = subst (λ k. SameOutside (place_at m.junctions k s 0 0) (place_at m.junctions k (s + 1) 0 0) c.loop-segment.sites c.loop-segment.times others since) i.1 c.lay_segment.ensures.rest in (
      c.lay_segment.ensures.sized,
      c.lay_segment.ensures.most ∙ i.1,
      c.lay_segment.ensures.idle,
      segment_next m C (least_in_segment t firsts) s c.loop-segment.sites c.loop-segment.times others since i.3
          (λ v l. laid_same m (least_in_segment t firsts s) costs (λ a k. sym (agree a k)) C s v others since (laid v l))
          rest,
    )

pub returns-clause-index : goal.returns-clause-index
returns-clause-index c =
    let p = has_passed c.junctions-n.result c.args.segments.now c.args.most (length c.args.sites.now) (length c.args.times.now) (length c.args.work.now) (sym c.in_ok-day.ensures.refusal) in
    let t = road_lists c.args.roads.now in
    let m = clock_roads t in
    let C = c.args.most in
    let firsts = c.args.segments.now in
    let day = c.in_ok-day.ensures.day in
    let long = ap length day in
    let end = c.count-segment-end.ensures in
    let last = c.loop-segment-test.false in
    let within = c.loop-segment.auto.segment-end in
    let all = subst (λ l. LaidBelow m C (least_in_segment t l) c.loop-segment.segment c.loop-segment.sites c.loop-segment.times) day c.loop-segment.invariant.3 in
    let count : c.loop-segment.segment ≡ length firsts = omega arith in
    let same = c.junctions-n.ensures in
    laid_index m C (least_in_segment t firsts) (roads_wellformed c.args.roads.now).head_within (length firsts) c.loop-segment.sites c.loop-segment.times
    (c.loop-segment.auto.sites ∙ p.sites_long ∙ ap (λ n. length firsts * n * C) same)
    (c.loop-segment.auto.times ∙ p.times_long ∙ ap (λ n. length firsts * n * C) same)
    (subst (λ i. LaidBelow m C (least_in_segment t firsts) i c.loop-segment.sites c.loop-segment.times) count all)

pub returns-clause-only : goal.returns-clause-only
returns-clause-only c =
    let t = road_lists c.args.roads.now in
    let firsts = c.args.segments.now in
    only_index (clock_roads t) (length firsts) c.args.most (least_in_segment t firsts) c.loop-segment.sites c.loop-segment.times (returns-clause-index c)
