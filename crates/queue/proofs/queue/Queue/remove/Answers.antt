use Rattle.std.proofs.Common.{None, subst, arith}
use Rattle.queue.specs.Room.{item, held}
use Rattle.queue.specs.Queues.{waiting}
use Rattle.queue.specs.Waiting.{Updated}
use Rattle.queue.proofs.Mending.{some_slot}
use Rattle.queue.proofs.Seen.{belongs, remove_count}
use Rattle.queue.proofs.queue.Queue.remove.Goals as goal

pub returns-in-Some : goal.returns-in-Some
returns-in-Some g c =
    let now = c.args.self.now in
    let low = c.in-Some.ensures.inside in
    let fits = now.whole.placed.fits in
    let d = some_slot (held now.room) (omega arith) in
    let own = (belongs now c.args.handle (item (held now.room) d c.in-Some.at) (c.in-Some.ensures.what d)).0 in
    let updated = subst (λ h. Updated (waiting now) (waiting c.remove_at.new.self) h None) own (c.remove_at.ensures.updated d) in
    record { capacity = c.remove_at.ensures.capacity; none = updated; count = remove_count now c.remove_at.new.self c.remove_at.ensures.capacity updated }
