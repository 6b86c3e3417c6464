use Rattle.std.proofs.Common.{◌≡◌, length, min}
use Rattle.rows.proofs.Reoffering.{Made}
use Rattle.rows.proofs.row.Row.offer_later.Given as goal

-- what is left of the row makes of the entries so far what the whole row makes of the first
abbrev pub invariant-loop-site : goal.invariant-loop-site
invariant-loop-site l = Made l.sites l.times l.initial.self.most l.by (min (length l.sites) (length l.times)) l.initial.self.entries.items (length l.yielded) l.self.entries.items × (l.self.most ≡ l.initial.self.most)
