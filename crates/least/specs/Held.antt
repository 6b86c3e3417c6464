-- The first seconds that a day holds. Assumes nothing.
use Rattle.std.specs.Prelude.{ℕ, List}
use Rattle.least.specs.declared.day.Day.{Day}

abbrev pub day_firsts : Day → List ℕ
day_firsts d = d.firsts.items
