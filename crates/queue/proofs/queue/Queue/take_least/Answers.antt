use Rattle.std.proofs.Common.{sym, arith}
use Rattle.queue.specs.Room.{held}
use Rattle.queue.specs.Queues.{capacity, waiting}
use Rattle.queue.proofs.Orders.{strict, one_handle}
use Rattle.queue.proofs.Seen.{take_count}
use Rattle.queue.proofs.Taking.{empty_least, top_is_least}
use Rattle.queue.proofs.queue.Queue.take_least.Goals as goal

pub returns-then-self-eq0-clause-least : goal.returns-then-self-eq0-clause-least
unfolding capacity waiting
returns-then-self-eq0-clause-least g c = sym (empty_least g.T.Keyed.handled g.T.Keyed.before (held c.args.self.now.room) c.args.self.now.room.len (omega arith))

pub returns : goal.returns
unfolding capacity waiting
returns g c =
    let now = c.args.self.now in
    let d = c.index-self-top.result in
    let total = g.met.T.Ord.total in
    let ordered = g.met.T.Keyed.ordered in
    let least = sym (top_is_least g.T.Keyed.handled g.T.Keyed.before (held now.room) now.room.len (strict total ordered) (one_handle total ordered g.met.T.Keyed.level) now.whole (omega arith) d) in
    let gone = c.remove_at.ensures in
    record { capacity = gone.capacity; least = least; without = gone.updated d; count = take_count now c.remove_at.new.self gone.capacity least (gone.updated d) }
