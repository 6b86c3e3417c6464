use Rattle.std.proofs.Common.{length, vec_items}
use Rattle.depot.proofs.Lists.{Sofar}
use Rattle.depot.proofs.entry.read_numbers.Given as goal

abbrev pub invariant-loop-word : goal.invariant-loop-word
invariant-loop-word l = Sofar l.bytes l.left (vec_items l.found)

abbrev pub decreases-loop-word : goal.decreases-loop-word
decreases-loop-word l = length l.left
