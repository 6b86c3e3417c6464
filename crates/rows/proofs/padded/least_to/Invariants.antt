use Rattle.std.proofs.Common.{◌≡◌, ◌-◌, length, min}
use Rattle.network.specs.Sets.{has}
use Rattle.rows.proofs.Padding.{says}
use Rattle.rows.proofs.padded.least_to.Given as goal

-- what the whole row says is what the entries that are left say
abbrev pub invariant-loop-site : goal.invariant-loop-site
invariant-loop-site l = let C = min (length l.sites) (length l.times) in says (has l.wanted) l.sites l.times C 0 0 ≡ says (has l.wanted) l.sites l.times (C - length l.yielded) (length l.yielded) l.last
