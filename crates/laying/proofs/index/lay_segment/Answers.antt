-- The rows are those of least sums, and stand in their segment.
use Rattle.std.proofs.Common.{ℕ, ◌<◌, length, subst}
use Rattle.laying.specs.Costs.{cost_by}
use Rattle.laying.specs.Held.{costs_in}
use Rattle.laying.specs.Places.{Laid}
use Rattle.laying.specs.Search.{rows_of}
use Rattle.laying.proofs.Costing.{costs_fit}
use Rattle.laying.proofs.Layouts.{laid_from}
use Rattle.laying.proofs.index.lay_segment.Goals as goal

pub fill-requires-clause-costs : goal.fill-requires-clause-costs
fill-requires-clause-costs g c = costs_fit (costs_in c.args.costs.now) c.as_slice.result.now (g.N.Network.roads c.args.roads.now).arcs c.args.costs.now.within c.as_slice.ensures c.requires.costs

pub returns-clause-rows : goal.returns-clause-rows
returns-clause-rows g c =
    let m = g.N.Network.roads c.args.roads.now in
    let costs = costs_in c.args.costs.now in
    let t = c.fill.new.self in
    subst (λ C. (v : ℕ) → v < m.junctions → Laid m (cost_by costs) C c.args.segment v c.write.new.sites c.write.new.times) c.fill.ensures.most
    (laid_from m costs c.as_slice.result.now t.most (length t.rows.items) c.args.segment (rows_of t) c.write.new.sites c.write.new.times c.as_slice.ensures c.fill.ensures.sized.rows c.fill.ensures.rows c.write.ensures.rows)
