-- The part of a name. Assumes nothing.
use Rattle.std.proofs.Common.{◌≡◌, ℕ, Bool, true, false, cond, ◌||◌, List, [], ◌∷◌, Some, sym, refl, ap, ◌∙◌, MatchOption, Decides}
use Rattle.std.proofs.lemmas.Bool.Decides.{same_from_decides, Decides-like}
use Rattle.std.proofs.lemmas.Slice.Eq.{bytes_eq-Decides}
use Rattle.std.specs.Str.{bytes_eq}
use Rattle.depot.specs.declared.part.Part.{Part}
use Rattle.depot.specs.declared.part.Part.TheVariants.{ArcStarts, Heads, PointStarts, Departures, Arrivals, Sites, Metres, Segments, Nearest, Bays, Board}
use Rattle.depot.specs.Named.{find_named}
use Rattle.depot.specs.Names.{name_of, names, parts}

-- a part that is found has the name, and one is found where there is one
find_says : (ps : List Part) (w : List ℕ) → MatchOption (find_named name_of ps w) (names ps w ≡ false) (λ p. (w ≡ name_of p) × (names ps w ≡ true))
find_says [] w = refl
find_says (p ∷ ps) w = by (bytes_eq w (name_of p)) refl (find_says ps w)
  where
    by : (t : Bool) → bytes_eq w (name_of p) ≡ t → MatchOption (find_named name_of ps w) (names ps w ≡ false) (λ q. (w ≡ name_of q) × (names ps w ≡ true)) → MatchOption (cond t (Some p) (find_named name_of ps w)) ((t || names ps w) ≡ false) (λ q. (w ≡ name_of q) × ((t || names ps w) ≡ true))
    by true f h = ((bytes_eq-Decides w (name_of p)).0 f, refl)
    by false f h = h

pub has_name : (w : List ℕ) (p : Part) → find_named name_of parts w ≡ Some p → w ≡ name_of p
has_name w p e = (rw e at (find_says parts w)).0

found : (p : Part) → find_named name_of parts (name_of p) ≡ Some p
found ArcStarts = refl
found Heads = refl
found PointStarts = refl
found Departures = refl
found Arrivals = refl
found Sites = refl
found Metres = refl
found Segments = refl
found Nearest = refl
found Bays = refl
found Board = refl

pub known : (p : Part) → names parts (name_of p) ≡ true
known p = (rw (found p) at (find_says parts (name_of p))).1

-- no two parts have one name
one_name : (p q : Part) → name_of p ≡ name_of q → p ≡ q
one_name p q e = let same : Some p ≡ Some q = sym (found p) ∙ ap (find_named name_of parts) e ∙ found q in cc

-- parts are told apart by their names
pub same_part : (p q : Part) (b : Bool) → Decides b (p ≡ q) → b ≡ bytes_eq (name_of p) (name_of q)
same_part p q b d = same_from_decides b _ (Decides-like b (ap name_of) (one_name p q) d) (bytes_eq-Decides (name_of p) (name_of q))
