-- Worked examples, as theorems of the definitions. Assumes nothing.
use Rattle.std.specs.Prelude.{◌≡◌, [], ◌∷◌, Some, None}
use Rattle.clock.specs.Model.{clock_roads}
use Rattle.clock.specs.Points.{table_refusal}
use Rattle.console.specs.Kinds.{length_tables}
use Rattle.length.specs.Model.{length_roads}
use Rattle.length.specs.Readings.{height_of}
use Rattle.network.specs.Layers.{closed, detoured}
use Rattle.network.specs.Model.{Roads, arrival}
use Rattle.network.specs.Paths.{along}
use Rattle.network.specs.Refused.{refusal}
use Rattle.network.specs.declared.refusals.Places.TheVariants.{Two}
use Rattle.town.specs.FourJunctions.{four_junctions, town, one_arc}
use Rattle.town.specs.Frozen.{frozen}

-- the built-in depot as length roads
abbrev pub lengths : Roads
lengths = length_roads (length_tables four_junctions)

pub record WorkedArrivals : Type 0 where
  -- the built-in tables are not refused
  pub accepted : table_refusal town ≡ None
  -- arc 3 between its points (28800, 28900) and (32400, 33100)
  pub arc_3_at_32350 : arrival (clock_roads town) 3 32350 ≡ Some 33041
  -- arc 1 and then arc 3, and what streets frozen at the start would give
  pub arcs_1_3_from_28800 : along (clock_roads town) 28800 (1 ∷ 3 ∷ []) ≡ Some 29016
  pub frozen_from_28800 : frozen (clock_roads town) 28800 28800 (1 ∷ 3 ∷ []) ≡ Some 29000
  -- the last second that is carried, and the first that is not
  pub at_86400 : arrival (clock_roads town) 0 86400 ≡ Some 86700
  pub at_86401 : arrival (clock_roads town) 0 86401 ≡ None

pub record WorkedRefusals : Type 0 where
  -- a departure that is not after the one before it
  pub standing : table_refusal (one_arc (0 ∷ 0 ∷ 86400 ∷ []) (100 ∷ 200 ∷ 86500 ∷ [])) ≡ Some (refusal 5 (Two 0 1))
  -- an arrival that is not after its departure
  pub early : table_refusal (one_arc (0 ∷ 600 ∷ 86400 ∷ []) (100 ∷ 600 ∷ 86500 ∷ [])) ≡ Some (refusal 6 (Two 0 1))
  -- an arrival below the one before it
  pub falling : table_refusal (one_arc (0 ∷ 600 ∷ 86400 ∷ []) (900 ∷ 800 ∷ 86500 ∷ [])) ≡ Some (refusal 7 (Two 0 1))

pub record WorkedLengths : Type 0 where
  -- arc 1 and then arc 3 from 0: 900 metres after 2 arcs
  pub arcs_1_3 : along lengths (height_of (0, 0)) (1 ∷ 3 ∷ []) ≡ Some (height_of (900, 2))
  -- with arc 3 closed, nothing; with a detour of 60 on arc 1, 960 metres
  pub arc_3_closed : along (closed (3 ∷ []) lengths) (height_of (0, 0)) (1 ∷ 3 ∷ []) ≡ None
  pub detour_on_arc_1 : along (detoured ((1, 60) ∷ []) lengths) (height_of (0, 0)) (1 ∷ 3 ∷ []) ≡ Some (height_of (960, 2))
