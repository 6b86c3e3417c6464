-- All the worked examples. Assumes nothing.
use Rattle.town.specs.Askings.{WorkedAskings}
use Rattle.town.specs.Guided.{WorkedEstimates, WorkedGuided}
use Rattle.town.specs.Indexed.{WorkedIndex}
use Rattle.town.specs.Worked.{WorkedArrivals, WorkedRefusals, WorkedLengths}

-- what the definitions say of the built-in depot, and of an arc with wrong points
pub record WorkedExamples : Type 0 where
  pub arrivals : WorkedArrivals
  pub refusals : WorkedRefusals
  pub lengths : WorkedLengths
  pub askings : WorkedAskings
  pub index : WorkedIndex
  pub estimates : WorkedEstimates
  pub guided : WorkedGuided
