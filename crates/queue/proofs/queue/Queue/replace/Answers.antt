use Rattle.std.proofs.Common.{◌∙◌, arith}
use Rattle.queue.specs.Queues.{capacity, waiting}
use Rattle.queue.proofs.Mending.{has_slot, replaced, mended, mended_updated}
use Rattle.queue.proofs.Orders.{strict}
use Rattle.queue.proofs.queue.Queue.replace.Goals as goal

pub put-requires-clause-fits : goal.put-requires-clause-fits
unfolding waiting
put-requires-clause-fits g c = has_slot c.args.self.now.whole c.requires.inside c.requires.own

pub repair-requires : goal.repair-requires
unfolding waiting
repair-requires g c =
    let o = strict g.met.T.Ord.total g.met.T.Keyed.ordered in
    let a = replaced c.args.self.now.whole c.requires.inside c.requires.own o c.put.ensures.len c.put.ensures.put in
    record { placed = a.placed; inside = omega arith; loose = a.loose }

pub invariant_of-self : goal.invariant_of-self
unfolding waiting
invariant_of-self g c =
    let o = strict g.met.T.Ord.total g.met.T.Keyed.ordered in
    let a = replaced c.args.self.now.whole c.requires.inside c.requires.own o c.put.ensures.len c.put.ensures.put in
    record { whole = mended a c.repair.ensures.len c.repair.ensures.kept c.repair.ensures.heap }

pub returns : goal.returns
unfolding capacity waiting
returns g c =
    let o = strict g.met.T.Ord.total g.met.T.Keyed.ordered in
    let a = replaced c.args.self.now.whole c.requires.inside c.requires.own o c.put.ensures.len c.put.ensures.put in
    record { capacity = c.repair.ensures.kept.long ∙ a.long; updated = mended_updated a c.repair.ensures.len c.repair.ensures.kept }
