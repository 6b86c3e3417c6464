-- The costs are those of the arcs, and there are no other such rows.
use Rattle.std.proofs.Common.{◌∙◌, subst, arith}
use Rattle.rows.specs.Rows.{Defined}
use Rattle.laying.specs.Costs.{cost_by}
use Rattle.laying.specs.Held.{costs_in}
use Rattle.laying.specs.Search.{rows_of}
use Rattle.rows.proofs.Only.{only_defined}
use Rattle.laying.proofs.Costing.{costs_fit}
use Rattle.laying.proofs.nearest.NearestRows.of.Goals as goal

pub fill-requires-clause-costs : goal.fill-requires-clause-costs
fill-requires-clause-costs g c =
    let long = c.len.ensures in
    let arcs = c.arcs.ensures in
    let same = c.if-len-arcs.false in
    costs_fit (costs_in c.args.costs.now) c.as_slice.result.now (g.N.Network.roads c.args.roads.now).arcs c.args.costs.now.within c.as_slice.ensures (omega arith)

pub returns-clause-only : goal.returns-clause-only
returns-clause-only g c =
    let m = g.N.Network.roads c.args.roads.now in
    let t = c.fill.new.self in
    only_defined m (cost_by (costs_in c.args.costs.now)) c.args.most (rows_of t)
    (subst (λ C. Defined m (cost_by (costs_in c.args.costs.now)) C (rows_of t)) (c.fill.ensures.most ∙ c.new-search.ensures.most)
    (subst (λ l. Defined m (cost_by l) t.most (rows_of t)) c.as_slice.ensures c.fill.ensures.rows))
