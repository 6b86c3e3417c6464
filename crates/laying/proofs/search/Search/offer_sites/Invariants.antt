use Rattle.std.proofs.Common.{◌≡◌, ℕ}
use Rattle.rows.specs.Offering.{offer_sites}
use Rattle.laying.specs.Search.{IsQueued, IsSized, rows_of}
use Rattle.laying.proofs.search.Search.offer_sites.Given as goal

-- the sites so far have offered themselves
abbrev pub invariant-loop-site : goal.invariant-loop-site
invariant-loop-site g l =
    let m = g.N.Network.roads l.roads in
    IsSized m.junctions l.self
    × (l.self.most ≡ l.initial.self.most)
    × (l.self.settled ≡ l.initial.self.settled)
    × ((v : ℕ) → rows_of l.self v ≡ offer_sites m l.self.most v l.site)
    × IsQueued l.self
