-- The names of a depot file.
use Rattle.std.specs.Prelude.{ℕ, Bool, false, ◌||◌, List, [], ◌∷◌, codes}
use Rattle.std.specs.Str.{bytes_eq}
use Rattle.depot.specs.declared.part.Part.{Part}
use Rattle.depot.specs.declared.part.Part.TheVariants.{ArcStarts, Heads, PointStarts, Departures, Arrivals, Sites, Metres, Segments, Nearest, Bays, Board}

-- the name of each part of a depot
abbrev pub name_of : Part → List ℕ
name_of ArcStarts = codes "arc-starts"
name_of Heads = codes "heads"
name_of PointStarts = codes "point-starts"
name_of Departures = codes "departures"
name_of Arrivals = codes "arrivals"
name_of Sites = codes "sites"
name_of Metres = codes "metres"
name_of Segments = codes "segments"
name_of Nearest = codes "nearest"
name_of Bays = codes "bays"
name_of Board = codes "board"

-- every part
abbrev pub parts : List Part
parts = ArcStarts ∷ Heads ∷ PointStarts ∷ Departures ∷ Arrivals ∷ Sites ∷ Metres ∷ Segments ∷ Nearest ∷ Bays ∷ Board ∷ []

-- the parts that are one number
abbrev pub singles : List Part
singles = Nearest ∷ Board ∷ []

-- w is the name of one of ps
abbrev pub names : List Part → List ℕ → Bool
names [] w = false
names (p ∷ ps) w = bytes_eq w (name_of p) || names ps w
