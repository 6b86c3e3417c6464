use Rattle.std.proofs.Common.{sym, ◌∙◌, arith}
use Rattle.network.specs.Sets.{has}
use Rattle.guided.specs.Indexed.{lists_of}
use Rattle.guided.specs.Lists.{network_of}
use Rattle.guided.proofs.Estimates.{none_wanted, stands_wanted}
use Rattle.guided.proofs.indexed.IndexedRoads.has_wanted.Goals as goal

pub returns-then-has : goal.returns-then-has
returns-then-has c =
    stands_wanted (network_of (lists_of c.args.self.now)) (has c.args.wanted.now) c.args.junction c.loop-site.site (let e = c.sites-site-end.ensures in omega arith) c.place.result c.place.ensures (sym c.eq.ensures ∙ c.if-eq.true) (sym c.has.ensures ∙ c.if-has.true)

pub returns : goal.returns
returns c = none_wanted (network_of (lists_of c.args.self.now)) (has c.args.wanted.now) c.args.junction (λ s l. c.loop-site.invariant s (let e = c.sites-site-end.ensures in omega arith))
