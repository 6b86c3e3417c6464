use Rattle.std.proofs.Common.{◌∙◌}
use Rattle.guided.specs.Indexed.{lists_of}
use Rattle.guided.proofs.Differences.{compared}
use Rattle.guided.proofs.indexed.IndexedRoads.row_agrees.Goals as goal

pub returns-in-Some : goal.returns-in-Some
returns-in-Some c =
    compared (lists_of c.args.self.now) c.is_none.result c.row_difference.result c.args.segment c.args.junction c.entries.result.now c.requires.segment c.requires.junction
    c.is_none.ensures c.row_difference.ensures (c.entries.ensures ∙ c.in-Some.ensures.entries)
