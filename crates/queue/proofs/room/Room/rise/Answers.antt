use Rattle.std.proofs.Common.{◌-◌, ◌/◌, ◌∙◌, arith}
use Rattle.queue.specs.Room.{item, held}
use Rattle.queue.proofs.Holding.{kept_then}
use Rattle.queue.proofs.Orders.{strict}
use Rattle.queue.proofs.Sifting.{settles, rises}
use Rattle.queue.proofs.room.Room.rise.Goals as goal

pub returns-then-not-earlier-clause-gap : goal.returns-then-not-earlier-clause-gap
returns-then-not-earlier-clause-gap g c d = settles g.T.Keyed.before (item (held c.loop-j.self) d) c.args.self.now.len c.loop-j.j (c.loop-j.invariant.loose d) (λ l. cc (c.earlier.ensures d))

pub loop-j-preserved : goal.loop-j-preserved
loop-j-preserved g c =
    let o = strict g.met.T.Ord.total g.met.T.Keyed.ordered in
    let j = c.loop-j.j in
    let v = c.loop-j.invariant in
    record {
      inside = omega arith;
      len = c.swap.ensures.len ∙ v.len;
      kept = kept_then v.len v.kept c.swap.ensures.kept;
      loose = λ d. rises g.T.Keyed.before o (item (held c.loop-j.self) d) (item (held c.swap.new.self) d) c.args.self.now.len j ((j - 1) / 2) (omega arith, omega arith) v.inside (c.swap.ensures.items d) (v.loose d);
    }

pub returns-clause-gap : goal.returns-clause-gap
returns-clause-gap g c d = settles g.T.Keyed.before (item (held c.loop-j.self) d) c.args.self.now.len c.loop-j.j (c.loop-j.invariant.loose d) (λ l. absurd (omega arith))
