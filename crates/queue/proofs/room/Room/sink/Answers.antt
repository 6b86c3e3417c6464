use Rattle.std.proofs.Common.{◌∙◌, arith}
use Rattle.queue.specs.Room.{item, held}
use Rattle.queue.proofs.Holding.{kept_then}
use Rattle.queue.proofs.Orders.{strict}
use Rattle.queue.proofs.Sifting.{rests, settled, sinks}
use Rattle.queue.proofs.room.Room.sink.Goals as goal

pub returns-then-not-earlier-clause-heap : goal.returns-then-not-earlier-clause-heap
returns-then-not-earlier-clause-heap g c d =
    let o = strict g.met.T.Ord.total g.met.T.Keyed.ordered in
    let v = c.loop-j.invariant in
    let child = c.least_child-child in
    settled g.T.Keyed.before o (item (held c.loop-j.self) d) c.args.self.now.len c.loop-j.j child.result (λ k h l. child.ensures.least d k h (omega arith)) (cc (c.earlier.ensures d)) (v.gap d)

pub loop-j-preserved : goal.loop-j-preserved
loop-j-preserved g c =
    let o = strict g.met.T.Ord.total g.met.T.Keyed.ordered in
    let v = c.loop-j.invariant in
    let child = c.least_child-child in
    record {
      len = c.swap.ensures.len ∙ v.len;
      kept = kept_then v.len v.kept c.swap.ensures.kept;
      gap = λ d. sinks g.T.Keyed.before o (item (held c.loop-j.self) d) (item (held c.swap.new.self) d) c.args.self.now.len c.loop-j.j child.result child.ensures.child (omega arith)
          (λ k h l. child.ensures.least d k h (omega arith)) (cc (c.earlier.ensures d)) (c.swap.ensures.items d) (v.gap d);
    }

pub returns-clause-heap : goal.returns-clause-heap
returns-clause-heap g c d =
    let v = c.loop-j.invariant in
    rests g.T.Keyed.before (item (held c.loop-j.self) d) c.args.self.now.len c.loop-j.j (omega arith) (v.gap d)
