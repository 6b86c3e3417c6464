use Rattle.std.proofs.Common.{sym}
use Rattle.queue.specs.Queues.{capacity, waiting}
use Rattle.queue.proofs.queue.Queue.len.Goals as goal

pub returns : goal.returns
unfolding capacity waiting
returns g c = sym c.args.self.now.whole.counted
