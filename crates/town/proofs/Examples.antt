-- All the worked examples hold. Assumes nothing.
use Rattle.town.specs.Examples.{WorkedExamples}
use Rattle.town.proofs.Asked.{askings_hold}
use Rattle.town.proofs.Computed.{arrivals_hold, refusals_hold, lengths_hold}
use Rattle.town.proofs.Guided.{estimates_hold, guided_hold}
use Rattle.town.proofs.Offered.{index_holds}

pub examples_hold : WorkedExamples
examples_hold = record {
  arrivals = arrivals_hold;
  refusals = refusals_hold;
  lengths = lengths_hold;
  askings = askings_hold;
  index = index_holds;
  estimates = estimates_hold;
  guided = guided_hold;
}
