use Rattle.std.proofs.Common.{length, vec_items}
use Rattle.depot.specs.Reads.{items}
use Rattle.depot.proofs.Lining.{Sofar}
use Rattle.depot.proofs.line.read_lines.Given as goal

abbrev pub invariant-loop-index : goal.invariant-loop-index
invariant-loop-index l = Sofar l.text (length l.yielded) (items (vec_items l.listings.lines))
