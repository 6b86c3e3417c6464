use Rattle.std.proofs.Common.{◌≡◌, ◌+◌, suc, sym, ap, ◌∙◌, arith}
use Rattle.clock.specs.ClockLaws.{roads_wellformed}
use Rattle.rows.specs.Offering.{offer_all, offer_arcs}
use Rattle.rows.proofs.Turning.{leaving_says, arcs_none, arcs_next, arcs_last}
use Rattle.guided.specs.Indexed.{lists_of}
use Rattle.guided.specs.Lists.{network_of, arc_times, row_of}
use Rattle.guided.proofs.indexed.IndexedRoads.offered_row.Goals as goal

pub loop-arc-init : goal.loop-arc-init
loop-arc-init c =
    let x = lists_of c.args.self.now in
    (omega arith, c.in_ok-row.ensures.most, c.in_ok-row.ensures.entries ∙ sym (arcs_none (network_of x) (arc_times x c.args.segment) x.nearest (row_of x c.args.segment) c.args.junction))

pub offer_along-requires-clause-arc : goal.offer_along-requires-clause-arc
offer_along-requires-clause-arc c =
    let m = network_of (lists_of c.args.self.now) in
    (leaving_says m.arcs m.tail c.args.junction c.loop-arc.from c.in-Some.arc (sym c.in-Some.ensures)).1

pub overflow_add-from : goal.overflow_add-from
overflow_add-from c =
    let m = network_of (lists_of c.args.self.now) in
    let l = (leaving_says m.arcs m.tail c.args.junction c.loop-arc.from c.in-Some.arc (sym c.in-Some.ensures)).1 in
    let few = (roads_wellformed c.args.self.now.roads).few_arcs in
    omega arith

pub loop-arc-smaller : goal.loop-arc-smaller
loop-arc-smaller c =
    let m = network_of (lists_of c.args.self.now) in
    let s = leaving_says m.arcs m.tail c.args.junction c.loop-arc.from c.in-Some.arc (sym c.in-Some.ensures) in
    let k = s.0 in
    let l = s.1 in
    omega arith

pub loop-arc-preserved : goal.loop-arc-preserved
loop-arc-preserved c =
    let x = lists_of c.args.self.now in
    let i = c.args.segment in
    let a = c.in-Some.arc in
    let n = arcs_next (network_of x) (arc_times x i) x.nearest (row_of x i) c.args.junction c.loop-arc.from a (sym c.in-Some.ensures) in
    let l = n.0 in
    let most = c.loop-arc.invariant.1 in (
      omega arith,
      c.offer_along.ensures.most ∙ most,
      c.in_ok-offer_along.ensures.entries
          ∙ ap (λ C. offer_all C (arc_times x i a) (row_of x i ((network_of x).head a)) c.loop-arc.row.entries.items) most
          ∙ ap (offer_all x.nearest (arc_times x i a) (row_of x i ((network_of x).head a))) c.loop-arc.invariant.2
          ∙ sym n.1
          ∙ ap (offer_arcs (network_of x) (arc_times x i) x.nearest (row_of x i) c.args.junction) (let z : suc a ≡ a + 1 = omega arith in z),
    )

pub returns-clause-entries : goal.returns-clause-entries
returns-clause-entries c =
    let x = lists_of c.args.self.now in
    let i = c.args.segment in
    c.loop-arc.invariant.2 ∙ sym (arcs_last (network_of x) (arc_times x i) x.nearest (row_of x i) c.args.junction c.loop-arc.from c.loop-arc.invariant.0 (sym c.in_default.ensures))
