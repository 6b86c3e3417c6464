use Rattle.queue.proofs.Seen.{belongs}
use Rattle.queue.proofs.queue.Queue.waiting.Goals as goal

pub returns-in_err-at-clause-own : goal.returns-in_err-at-clause-own
returns-in_err-at-clause-own g c = belongs c.args.self.now

pub returns-clause-own : goal.returns-clause-own
returns-clause-own g c = belongs c.args.self.now
