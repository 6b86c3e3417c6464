use Rattle.network.proofs.Layering.{pile_keeps}
use Rattle.layers.proofs.layer.Layer+G+ArrayVec+O+MOST.over.Goals as goal

pub returns-clause-piles : goal.returns-clause-piles
returns-clause-piles g c = pile_keeps
