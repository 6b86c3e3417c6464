-- Examined length tables keep the laws of a network. Assumes nothing.
use Rattle.std.specs.Prelude.{◌+◌, ◌-◌, ◌*◌, ◌/◌, ◌%◌, min, length, vec_items, slice_index}
use Rattle.std.proofs.Common.{arith}
use Rattle.std.proofs.lemmas.Bool.Decides.{nat_tests}
use Rattle.network.specs.Estimates.{Admissible}
use Rattle.network.specs.Laws.{WellFormed, Lawful}
use Rattle.network.proofs.Following.{reading_admissible}
use Rattle.network.proofs.Refusing.{Arcs, Sited, streets_arcs, streets_sites}
use Rattle.network.proofs.Tails.{tail_says}
use Rattle.length.specs.Held.{road_lists}
use Rattle.length.specs.Model.{length_roads, length_estimate}
use Rattle.length.specs.Tables.{Tables}
use Rattle.length.specs.declared.roads.LengthRoads.{LengthRoads}
use Rattle.length.specs.Heights.{longer_says, longer_from, carried_says, carried_from, carried_nowhere}
use Rattle.length.specs.Measured.{Measured, measured_says}

module _ (t : Tables) (arcs : Arcs t.starts t.heads) (sited : Sited (length t.starts - 1) t.sites) (long : Measured (length t.heads) t.metres) where
  pub length_wellformed : WellFormed (length_roads t)
  length_wellformed =
      let two = arcs.two in
      let few = arcs.few in
      let count = long.count in
      record {
        some_junction = omega arith;
        few_junctions = omega arith;
        few_arcs = arcs.few_heads;
        few_sites = sited.few;
        tail_within = λ a l. (tail_says t.starts t.heads arcs a l).0;
        head_within = arcs.within;
        place_within = sited.within;
        no_such_arc = λ a h l. carried_nowhere t.metres a h (omega arith);
        low = λ h e. grind (arith, nat_tests);
        start_reads = λ n h e. grind (arith, nat_tests);
        carry_reads = λ a h q r e. let s = carried_says t.metres a h q e in grind (arith, nat_tests);
        lengthen_reads = λ u h q r e. let s = longer_says u h q e in grind (arith, nat_tests);
      }

  pub length_lawful : Lawful (length_roads t)
  length_lawful = record {
    rises = λ a h q l r e. let s = carried_says t.metres a h q e in let one = long.some a s.0 in let j = s.2 in omega arith;
    keeps_order = λ a g h q l rg rh m e.
        let s = carried_says t.metres a h q e in
        let k = s.1 in
        let j = s.2 in
        ((g / 65536 + slice_index t.metres a) * 65536 + min (g % 65536 + 1) 65535, carried_from t.metres a g s.0 (omega arith), omega arith);
    lengthens = λ u h q r e. let j = (longer_says u h q e).1 in omega arith;
    lengthens_in_order = λ u g h q rg rh m e.
        let s = longer_says u h q e in
        let k = s.0 in
        let j = s.1 in
        ((g / 65536 + u) * 65536 + g % 65536, longer_from u g (omega arith), omega arith);
  }

  pub length_admissible : Admissible (length_roads t) (length_estimate t)
  length_admissible = reading_admissible (length_roads t) length_wellformed length_lawful

-- the same of length roads as they are held
pub roads_measured : (r : LengthRoads) → Measured (length (vec_items r.streets.heads)) (vec_items r.metres)
roads_measured r = measured_says (length (vec_items r.streets.heads)) (vec_items r.metres) r.long

pub roads_wellformed : (r : LengthRoads) → WellFormed (length_roads (road_lists r))
roads_wellformed r = length_wellformed (road_lists r) (streets_arcs r.streets) (streets_sites r.streets) (roads_measured r)

pub roads_lawful : (r : LengthRoads) → Lawful (length_roads (road_lists r))
roads_lawful r = length_lawful (road_lists r) (streets_arcs r.streets) (streets_sites r.streets) (roads_measured r)

pub roads_admissible : (r : LengthRoads) → Admissible (length_roads (road_lists r)) (length_estimate (road_lists r))
roads_admissible r = length_admissible (road_lists r) (streets_arcs r.streets) (streets_sites r.streets) (roads_measured r)
