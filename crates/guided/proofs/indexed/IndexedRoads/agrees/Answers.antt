use Rattle.std.proofs.Common.{length, ap, arith}
use Rattle.guided.specs.Indexed.{lists_of}
use Rattle.guided.specs.Offers.{offered_of, segment_difference}
use Rattle.guided.proofs.Differences.{segment_quiet, one_more_none, own_quiet}
use Rattle.guided.proofs.indexed.IndexedRoads.agrees.Goals as goal

pub loop-segment-preserved : goal.loop-segment-preserved
loop-segment-preserved c =
    let x = lists_of c.args.self.now in
    one_more_none (segment_difference x (offered_of x)) c.loop-segment.segment c.loop-segment.invariant
    (segment_quiet x (offered_of x) c.loop-segment.segment c.loop-junction.junction (omega arith) c.loop-junction.invariant)

pub returns : goal.returns
returns c = own_quiet (lists_of c.args.self.now) c.loop-segment.segment (let e = c.count-segment-end.ensures in let d = ap length c.args.self.now.cut in omega arith) c.loop-segment.invariant
