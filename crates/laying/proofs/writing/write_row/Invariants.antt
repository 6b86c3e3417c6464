use Rattle.std.proofs.Common.{◌+◌}
use Rattle.laying.specs.Places.{Stands, SameOutside}
use Rattle.laying.proofs.writing.write_row.Given as goal

-- the entries so far are written, and nothing else has changed
abbrev pub invariant-loop-r : goal.invariant-loop-r
invariant-loop-r l = Stands l.row l.r l.place l.sites l.times × SameOutside l.place (l.place + l.r) l.initial.sites l.initial.times l.sites l.times
