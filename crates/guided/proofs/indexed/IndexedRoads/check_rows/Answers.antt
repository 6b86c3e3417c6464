use Rattle.std.proofs.Common.{length, ap, arith}
use Rattle.std.proofs.lemmas.Result.{err_from_is_err_and}
use Rattle.guided.specs.Faults.{load_fault}
use Rattle.guided.specs.Indexed.{lists_of}
use Rattle.guided.proofs.Computed.{segment_tells, quiet_tells}
use Rattle.guided.proofs.Differences.{all_quiet}
use Rattle.guided.proofs.Indexes.{right_if_own}
use Rattle.guided.proofs.indexed.IndexedRoads.check_rows.Goals as goal

pub returns-in_err-check_segment : goal.returns-in_err-check_segment
returns-in_err-check_segment c rows right =
    let r = c.args.self.now in
    let n = c.count-segment-end.ensures in
    let d = ap length r.cut in
    let l = c.loop-segment-test.true in
    let p = err_from_is_err_and c.from_residual.result c.from_residual.ensures.1 in
    rw (p.1, p.2) (segment_tells (lists_of r) rows c.loop-segment.segment (load_fault c.in_err-check_segment.field-0.0) (omega arith) (c.loop-segment.invariant rows right) (c.in_err-check_segment.ensures rows right))

pub returns-after-loop-segment : goal.returns-after-loop-segment
returns-after-loop-segment c rows right =
    let r = c.args.self.now in
    let n = c.count-segment-end.ensures in
    let d = ap length r.cut in
    let x = lists_of r in
    quiet_tells x rows (all_quiet x rows c.loop-segment.segment (omega arith) (c.loop-segment.invariant rows right))

pub returns-else-not-agrees : goal.returns-else-not-agrees
returns-else-not-agrees c rows right = let r = c.args.self.now in quiet_tells (lists_of r) rows (right_if_own r rows right c.if-not-agrees.ensures)
