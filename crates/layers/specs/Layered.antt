-- What a layer makes of the roads below. Assumes nothing.
use Rattle.std.specs.Prelude.{◌≡◌, ℕ, List, [], ◌∷◌, Some, None, Option}
use Rattle.network.specs.Layers.{Layer, layered, carrying}
use Rattle.network.specs.Model.{Roads}

-- the roads below, carrying as the layer does
abbrev pub under_layer : Layer → Roads → Roads
under_layer l m = carrying (layered l m).carry m

-- what arrives by an arc on which one obstacle stands, or none
abbrev pub carried_by : {X : Type 0} → (List X → Layer) → Option X → Roads → ℕ → ℕ → Option ℕ
carried_by layer None m a h = m.carry a h
carried_by layer (Some x) m a h = (layered (layer (x ∷ [])) m).carry a h

-- carrying is all that a layer of either sort changes, so these are the roads of the model
abbrev pub LayersAsModelled : Type 0
LayersAsModelled = (l : Layer) (m : Roads) → under_layer l m ≡ layered l m
