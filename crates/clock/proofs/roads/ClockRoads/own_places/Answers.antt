use Rattle.std.proofs.Common.{arith}
use Rattle.std.proofs.lemmas.Grind.{common_steps}
use Rattle.clock.specs.ClockLaws.{roads_open}
use Rattle.clock.proofs.roads.ClockRoads.own_places.Goals as goal

pub index-requires : goal.index-requires
index-requires c =
    let s = c.args.self.now in
    let e = s.points.ok.0 in
    let o = (roads_open s c.args.arc c.requires).inside in
    omega arith

pub index-requires-2 : goal.index-requires-2
index-requires-2 c =
    let s = c.args.self.now in
    let e = s.points.ok.0 in
    let o = (roads_open s c.args.arc c.requires).inside in
    omega arith

pub returns : goal.returns
returns c =
    let s = c.args.self.now in
    let o = roads_open s c.args.arc c.requires in
    let first = c.index.ensures in
    let end = c.index-2.ensures in
    let two = o.two in
    let within = o.within in
    let alike = o.alike in
    record {
      first = grind (arith, common_steps);
      end = grind (arith, common_steps);
      forward = grind (arith, common_steps);
      departing = grind (arith, common_steps);
      arriving = grind (arith, common_steps);
    }
