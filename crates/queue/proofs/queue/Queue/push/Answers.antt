use Rattle.std.proofs.Common.{◌∙◌, arith}
use Rattle.queue.specs.Queues.{capacity, waiting}
use Rattle.queue.proofs.Mending.{has_room, len_short, pushed, mended, mended_updated}
use Rattle.queue.proofs.Orders.{strict}
use Rattle.queue.proofs.queue.Queue.push.Goals as goal

pub put-requires : goal.put-requires
unfolding capacity waiting
put-requires g c =
    let whole = c.args.self.now.whole in
    let r = c.requires in
    record { inside = has_room whole r.fits r.short r.free; short = len_short whole r.fits r.short r.free; fits = r.fits }

pub repair-requires : goal.repair-requires
unfolding capacity waiting
repair-requires g c =
    let o = strict g.met.T.Ord.total g.met.T.Keyed.ordered in
    let a = pushed c.args.self.now.whole c.requires.fits c.requires.short c.requires.free o c.put.ensures.put in
    record { placed = a.placed; inside = omega arith; loose = a.loose }

pub invariant_of-self : goal.invariant_of-self
unfolding capacity waiting
invariant_of-self g c =
    let o = strict g.met.T.Ord.total g.met.T.Keyed.ordered in
    let a = pushed c.args.self.now.whole c.requires.fits c.requires.short c.requires.free o c.put.ensures.put in
    record { whole = mended a c.repair.ensures.len c.repair.ensures.kept c.repair.ensures.heap }

pub returns : goal.returns
unfolding capacity waiting
returns g c =
    let o = strict g.met.T.Ord.total g.met.T.Keyed.ordered in
    let a = pushed c.args.self.now.whole c.requires.fits c.requires.short c.requires.free o c.put.ensures.put in
    record { capacity = c.repair.ensures.kept.long ∙ a.long; updated = mended_updated a c.repair.ensures.len c.repair.ensures.kept }
