-- A guide as its answers. Assumes nothing.
use Rattle.std.specs.Prelude.{List}
use Rattle.network.specs.Estimates.{Estimate, Keeps}
use Rattle.network.specs.Layers.{Layer, pile}
use Rattle.network.specs.Model.{Roads}

pub record Guidance : Type 0 where
  pub roads : Roads
  pub estimate : Estimate

-- the guide under a pile of closures and detours, which leave its estimate
abbrev pub under : List Layer → Guidance → Guidance
under layers g = record { roads = pile layers g.roads; estimate = g.estimate }

-- a guide that answers as it should, and keeps the four laws and the estimate's rule
abbrev pub Sound : Guidance → Type 0
Sound g = Keeps g.roads g.estimate
