use Rattle.std.proofs.Common.{sym, ap, ◌∙◌, arith}
use Rattle.laying.specs.Held.{costs_in}
use Rattle.laying.specs.NearestRows.{junctions_in, rows_in}
use Rattle.guided.specs.Indexed.{lists_of}
use Rattle.guided.specs.Offers.{row_difference}
use Rattle.guided.proofs.Computed.{costs_long, computed_right, row_tells, segment_quiet_tells}
use Rattle.guided.proofs.Differences.{one_more_none}
use Rattle.guided.proofs.indexed.IndexedRoads.check_segment.Goals as goal

pub unreachable-requires-in_default-of : goal.unreachable-requires-in_default-of
unreachable-requires-in_default-of c =
    let r = c.args.self.now in
    let there = c.in_default-of.ensures.variant.1 (r.some, r.few, costs_long r c.args.segment c.requires.segment (costs_in c.in-Some.costs) c.in-Some.ensures, c.requires.work) in
    let z : ⊥ = cc in z

pub returns-in-Some-row_difference : goal.returns-in-Some-row_difference
returns-in-Some-row_difference c rows right =
    let r = c.args.self.now in
    let x = lists_of r in
    let made = c.in-Some-of.rows in
    let v = c.loop-junction.junction in
    let e = c.junctions-junction-end.ensures in
    let l = c.loop-junction-test.true in
    let same = computed_right r c.args.segment c.requires.segment (costs_in c.in-Some.costs) c.in-Some.ensures rows right (junctions_in made) (rows_in made) c.in-Some-of.ensures.rows v c.in-Some-row.row.now (omega arith) c.in-Some-row.ensures in
    row_tells x rows c.args.segment v c.in-Some-row_difference.place (omega arith) (c.loop-junction.invariant rows right)
    (ap (row_difference x c.args.segment v) (sym same) ∙ sym c.in-Some-row_difference.ensures)

pub loop-junction-preserved : goal.loop-junction-preserved
loop-junction-preserved c rows right =
    let r = c.args.self.now in
    let x = lists_of r in
    let made = c.in-Some-of.rows in
    let v = c.loop-junction.junction in
    let e = c.junctions-junction-end.ensures in
    let l = c.loop-junction-test.true in
    let same = computed_right r c.args.segment c.requires.segment (costs_in c.in-Some.costs) c.in-Some.ensures rows right (junctions_in made) (rows_in made) c.in-Some-of.ensures.rows v c.in-Some-row.row.now (omega arith) c.in-Some-row.ensures in
    one_more_none (λ w. row_difference x c.args.segment w (rows c.args.segment w)) v (c.loop-junction.invariant rows right)
    (ap (row_difference x c.args.segment v) (sym same) ∙ sym c.in_default-row_difference.ensures)

pub returns : goal.returns
returns c rows right =
    let e = c.junctions-junction-end.ensures in
    segment_quiet_tells (lists_of c.args.self.now) rows c.args.segment c.loop-junction.junction (omega arith) (c.loop-junction.invariant rows right)
