use Rattle.std.proofs.Common.{arith}
use Rattle.queue.proofs.Seen.{set_count}
use Rattle.queue.proofs.queue.Queue.set.Goals as goal

pub returns-in-Some-clause-count : goal.returns-in-Some-clause-count
returns-in-Some-clause-count g c = set_count c.args.self.now c.replace.new.self c.replace.ensures.capacity (omega arith) c.replace.ensures.updated

pub returns-in-None-clause-count : goal.returns-in-None-clause-count
returns-in-None-clause-count g c = set_count c.args.self.now c.push.new.self c.push.ensures.capacity (omega arith) c.push.ensures.updated
