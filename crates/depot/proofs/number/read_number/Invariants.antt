use Rattle.depot.proofs.Numerals.{Sofar}
use Rattle.depot.proofs.number.read_number.Given as goal

abbrev pub invariant-loop-byte : goal.invariant-loop-byte
invariant-loop-byte l = Sofar l.word l.byte-index l.value
