-- Layers in any number and order. Assumes nothing.
use Rattle.std.specs.Prelude.{List}
use Rattle.network.specs.Estimates.{Estimate, Keeps}
use Rattle.network.specs.Layers.{Layer, pile}
use Rattle.network.specs.Model.{Roads}

-- a pile over a network that keeps the rules keeps them, with the same estimate
abbrev pub PilesKeepTheRules : Type 0
PilesKeepTheRules = (layers : List Layer) (m : Roads) (estimate : Estimate) → Keeps m estimate → Keeps (pile layers m) estimate
