use Rattle.std.proofs.Common.{refl}
use Rattle.queue.specs.Queues.{capacity}
use Rattle.queue.proofs.queue.Queue.capacity.Goals as goal

pub returns : goal.returns
unfolding capacity
returns g c = refl
