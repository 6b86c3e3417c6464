use Rattle.std.proofs.Common.{refl}
use Rattle.queue.specs.Queues.{capacity, waiting}
use Rattle.queue.proofs.Changing.{none_sound, none_waits}
use Rattle.queue.proofs.queue.Queue.new.Goals as goal

pub invariant_of-result : goal.invariant_of-result
invariant_of-result g c = record { whole = none_sound g.T.Keyed.handled g.T.Keyed.before c.args.slots.now }

pub returns : goal.returns
unfolding capacity waiting
returns g c = record { capacity = refl; none = none_waits g.T.Keyed.handled c.args.slots.now }
