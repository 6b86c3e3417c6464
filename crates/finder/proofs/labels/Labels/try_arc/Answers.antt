use Rattle.std.proofs.Common.{ltb, refl, sym, ap, ◌∙◌, arith}
use Rattle.std.specs.Option.{option_map}
use Rattle.network.proofs.Following.{provided_says}
use Rattle.network.specs.Sets.{has}
use Rattle.finder.specs.Labels.{guidance, stage_of}
use Rattle.finder.proofs.Bridges.{readings_set, ways_set, arrive_is}
use Rattle.finder.proofs.labels.Labels.try_arc.Goals as goal

pub returns-clause-stage : goal.returns-clause-stage
returns-clause-stage g c = λ k listed steps.
    let guide = c.args.guide.now in
    let m = g.G.Network.roads guide in
    let height = g.G.Network.height guide in
    let before = c.args.self.now in
    let a = c.args.arc in
    let j = c.in-Some-head.head in
    let head = (provided_says (ltb a m.arcs) (m.head a) j (sym c.head.ensures ∙ c.in-Some-head.is)).1 in
    let within = (g.met.G.Network.wellformed guide).head_within a c.requires.there in
    let marks = c.requires.sized.marks in
    let ways = c.requires.long in
    arrive_is (guidance m (g.G.Guide.guess guide)) k a (height c.in-Some.arrived) j (stage_of height before c.args.ways.now (has c.args.wanted.now) listed steps) _ _ _ (m.carry a (height c.args.reading)) (sym c.carry.ensures ∙ ap (option_map height) c.in-Some.is) head (sym c.improves.ensures ∙ c.if-not-improves.false)
    (readings_set height before.marks.now j _ c.in-Some.arrived refl (omega arith))
    c.wait.ensures.keys
    (ways_set c.args.ways.now j a (omega arith))
