use Rattle.std.proofs.Common.{◌∙◌}
use Rattle.queue.specs.Queues.{capacity, waiting}
use Rattle.queue.proofs.Mending.{removed, cut, cut_sound, mended, mended_updated}
use Rattle.queue.proofs.Orders.{strict}
use Rattle.queue.proofs.queue.Queue.remove_at.Goals as goal

pub repair-requires : goal.repair-requires
repair-requires g c =
    let o = strict g.met.T.Ord.total g.met.T.Keyed.ordered in
    let a = cut o c.args.self.now.whole c.requires.inside c.swap.ensures.kept c.swap.ensures.items in
    record { placed = a.placed; inside = c.if-at-last.true; loose = a.loose }

pub invariant_of-self : goal.invariant_of-self
invariant_of-self g c =
    let o = strict g.met.T.Ord.total g.met.T.Keyed.ordered in
    let a = cut o c.args.self.now.whole c.requires.inside c.swap.ensures.kept c.swap.ensures.items in
    record { whole = mended a c.repair.ensures.len c.repair.ensures.kept c.repair.ensures.heap }

pub returns-then-at-last : goal.returns-then-at-last
unfolding capacity waiting
returns-then-at-last g c =
    let o = strict g.met.T.Ord.total g.met.T.Keyed.ordered in
    record {
      capacity = c.repair.ensures.kept.long ∙ c.swap.ensures.kept.long;
      updated = λ d. mended_updated (removed o c.args.self.now.whole c.requires.inside c.swap.ensures.kept c.swap.ensures.items d) c.repair.ensures.len c.repair.ensures.kept;
    }

pub invariant_of-self-else-at-last : goal.invariant_of-self-else-at-last
invariant_of-self-else-at-last g c =
    let o = strict g.met.T.Ord.total g.met.T.Keyed.ordered in
    record { whole = cut_sound o c.args.self.now.whole c.requires.inside c.swap.ensures.kept c.swap.ensures.items c.if-at-last.false }

pub returns-else-at-last : goal.returns-else-at-last
unfolding capacity waiting
returns-else-at-last g c =
    let o = strict g.met.T.Ord.total g.met.T.Keyed.ordered in
    record { capacity = c.swap.ensures.kept.long; updated = λ d. (removed o c.args.self.now.whole c.requires.inside c.swap.ensures.kept c.swap.ensures.items d).updated }
