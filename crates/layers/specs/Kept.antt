-- A layer keeps the rules of what it stands over. Assumes nothing.
use Rattle.network.specs.Estimates.{Estimate, Admissible}
use Rattle.network.specs.Laws.{WellFormed, Lawful}
use Rattle.network.specs.Layers.{Layer, closures, detours}
use Rattle.network.specs.Model.{Roads}
use Rattle.network.proofs.Layering.{closed_wellformed, closed_lawful, closed_admissible, detoured_wellformed, detoured_lawful, detoured_admissible}
use Rattle.layers.specs.Layered.{under_layer}

pub kept_wellformed : (l : Layer) (m : Roads) → WellFormed m → Lawful m → WellFormed (under_layer l m)
kept_wellformed (closures arcs) m ok law = closed_wellformed m ok law arcs
kept_wellformed (detours ds) m ok law = detoured_wellformed m ok law ds

pub kept_lawful : (l : Layer) (m : Roads) → WellFormed m → Lawful m → Lawful (under_layer l m)
kept_lawful (closures arcs) m ok law = closed_lawful m ok law arcs
kept_lawful (detours ds) m ok law = detoured_lawful m ok law ds

pub kept_admissible : (l : Layer) (m : Roads) → WellFormed m → Lawful m → (estimate : Estimate) → Admissible m estimate → Admissible (under_layer l m) estimate
kept_admissible (closures arcs) m ok law estimate adm = closed_admissible m ok law arcs estimate adm
kept_admissible (detours ds) m ok law estimate adm = detoured_admissible m ok law ds estimate adm
