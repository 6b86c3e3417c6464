use Rattle.std.proofs.Common.{◌≡◌, ℕ}
use Rattle.network.specs.Sets.{has}
use Rattle.console.proofs.Naming.{first_named}
use Rattle.console.proofs.estimates.set_of.Given as goal

abbrev pub invariant-loop-site : goal.invariant-loop-site
invariant-loop-site l = (s : ℕ) → has l.set s ≡ first_named l.sites l.site-index s
