use Rattle.std.proofs.Common.{rules}
use Rattle.layers.proofs.Standing.{first_carries}
use Rattle.layers.proofs.roads.LayerArrayVecNetwork.carry.Goals as goal

pub returns-in-Some : goal.returns-in-Some
returns-in-Some g c =
    let s = c.args.self.now in
    let m = g.G.Network.roads s.below in
    let h = g.G.Network.height s.below c.args.reading in
    let first = g.met.O.Obstacle.first s.obstacles.items m c.args.arc h in
    let alone = first_carries g.O.Obstacle.on c.args.arc g.O.Obstacle.layer s.obstacles.items c.in-Some.obstacle m h (search rules) in
    cc
