use Rattle.town.proofs.Examples.{examples_hold}
use Rattle.town.proofs.four_junctions.Goals as goal

pub returns : goal.returns
returns c = record { lists = c.four_with.ensures; worked = examples_hold }
