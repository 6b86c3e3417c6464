use Rattle.std.proofs.Common.{◌≡◌, ◌<◌, ℕ, true}
use Rattle.finder.specs.Labels.{mark_in}
use Rattle.finder.proofs.beginning.note_sites.Given as goal

abbrev pub invariant-loop-site : goal.invariant-loop-site
invariant-loop-site g l =
    ((v : ℕ) → (mark_in l.marks v).reading ≡ (mark_in l.fn.marks v).reading) × ((s : ℕ) → s < l.site → (mark_in l.marks ((g.G.Network.roads l.guide).place s)).sited ≡ true)
