use Rattle.std.proofs.Common.{Some, None, sym, ap, ◌∙◌}
use Rattle.soonest.specs.Stages.{below}
use Rattle.finder.proofs.Bridges.{reading_here}
use Rattle.finder.proofs.labels.Labels.improves.Goals as goal

pub returns-in-Some : goal.returns-in-Some
returns-in-Some g c =
    let height = g.G.Network.height c.args.guide.now in
    c.less.ensures ∙ sym (ap (below (height c.args.arrived)) (reading_here height c.args.self.now.marks.now c.args.head c.index-self-head.result (Some c.in-Some.reading) c.requires.there c.in-Some.is))

pub returns-in-None : goal.returns-in-None
returns-in-None g c =
    let height = g.G.Network.height c.args.guide.now in
    sym (ap (below (height c.args.arrived)) (reading_here height c.args.self.now.marks.now c.args.head c.index-self-head.result None c.requires.there c.in-None.is))
