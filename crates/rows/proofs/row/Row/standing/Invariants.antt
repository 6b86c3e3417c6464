use Rattle.std.proofs.Common.{◌≡◌}
use Rattle.rows.specs.Offering.{offer_sites}
use Rattle.rows.proofs.row.Row.standing.Given as goal

-- the sites so far are offered
abbrev pub invariant-loop-site : goal.invariant-loop-site
invariant-loop-site g l = (l.row.entries.items ≡ offer_sites (g.N.Network.roads l.roads) l.most l.junction l.site) × (l.row.most ≡ l.most)
