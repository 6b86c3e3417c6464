use Rattle.guided.specs.GuidedLaws.{guided_index}
use Rattle.guided.proofs.roads.GuidedRoads.index_row.Goals as goal

pub returns-clause-index : goal.returns-clause-index
returns-clause-index c = guided_index c.args.self.now
