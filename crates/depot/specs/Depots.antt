-- What the text of a depot file says.
use Rattle.std.specs.Prelude.{ℕ, ◌+◌, cond, List, [], ◌∷◌, ◌++◌, drop, Ok, Err, Option, Result}
use Rattle.std.specs.List.{slice_get}
use Rattle.std.specs.Option.{unwrap_or}
use Rattle.std.specs.Str.{bytes_eq}
use Rattle.depot.specs.declared.fault.What.{What}
use Rattle.depot.specs.declared.fault.What.TheVariants.{UnknownWord, SecondNumber}
use Rattle.depot.specs.declared.part.Part.TheVariants.{ArcStarts, Heads, PointStarts, Departures, Arrivals, Sites, Metres, Segments, Nearest, Bays, Board}
use Rattle.depot.specs.Cuts.{lines, code, words}
use Rattle.depot.specs.Entries.{Wrong, numbers_in}
use Rattle.depot.specs.Names.{name_of, names, parts, singles}

-- a name and its numbers
abbrev pub Item : Type 0
Item = List ℕ × List ℕ

-- all the numbers under a name, in the order of the items
abbrev pub listed : List ℕ → List Item → List ℕ
listed name [] = []
listed name (e ∷ es) = cond (bytes_eq e.0 name) e.1 [] ++ listed name es

-- the words past the one number that a name may have; `had` are its numbers of earlier lines
abbrev pub surplus : List ℕ → List (List ℕ) → List (List ℕ)
surplus [] ws = drop 1 ws
surplus (n ∷ had) ws = ws

-- es with the item e more, unless a word is one number too many
abbrev pub admitted : List Item → Item → List (List ℕ) → Result (List Item) Wrong
admitted es e [] = Ok (es ++ e ∷ [])
admitted es e (w ∷ ws) = Err (w, SecondNumber)

-- es with the name and the numbers that its words ws write, or the wrong word
abbrev pub added : List Item → List ℕ → List (List ℕ) → Result (List ℕ) Wrong → Result (List Item) Wrong
added es name ws (Ok ns) = admitted es (name, ns) (cond (names singles name) (surplus (listed name es) ws) [])
added es name ws (Err wrong) = Err wrong

-- es with what the words of a line say, or the wrong word
abbrev pub grown : List Item → List (List ℕ) → Result (List Item) Wrong
grown es [] = Ok es
grown es (name ∷ ws) = cond (names parts name) (added es name ws (numbers_in ws)) (Err (name, UnknownWord))

-- a line's number, a word of it, and what is wrong with the word
abbrev pub Fault : Type 0
Fault = ℕ × List ℕ × What

-- goes on after line n where it can be read, and else names it
abbrev pub onward : ℕ → Result (List Item) Wrong → (List Item → Result (List Item) Fault) → Result (List Item) Fault
onward n (Ok es) go = go es
onward n (Err wrong) go = Err (n, wrong.0, wrong.1)

-- es with what the lines from number n on say, or the first that cannot be read
abbrev pub gathered : ℕ → List Item → List (List ℕ) → Result (List Item) Fault
gathered n es [] = Ok es
gathered n es (line ∷ rest) = onward n (grown es (words (code line))) (λ fs. gathered (n + 1) fs rest)

-- the lists and the numbers of a depot
pub record Lists : Type 0 where
  pub arc_starts : List ℕ
  pub heads : List ℕ
  pub point_starts : List ℕ
  pub departures : List ℕ
  pub arrivals : List ℕ
  pub sites : List ℕ
  pub metres : List ℕ
  pub segments : List ℕ
  pub nearest : ℕ
  pub bays : List ℕ
  pub board : ℕ

-- the first of some numbers
abbrev pub first : List ℕ → Option ℕ
first ns = slice_get ns 0

-- what the items list under each name: no number at all is the empty list, and 0 for a part that is one number
abbrev pub lists_of : List Item → Lists
lists_of es = record {
  arc_starts = listed (name_of ArcStarts) es;
  heads = listed (name_of Heads) es;
  point_starts = listed (name_of PointStarts) es;
  departures = listed (name_of Departures) es;
  arrivals = listed (name_of Arrivals) es;
  sites = listed (name_of Sites) es;
  metres = listed (name_of Metres) es;
  segments = listed (name_of Segments) es;
  nearest = unwrap_or (first (listed (name_of Nearest) es)) 0;
  bays = listed (name_of Bays) es;
  board = unwrap_or (first (listed (name_of Board) es)) 0;
}

-- the depot of some items, or the fault
abbrev pub depot : Result (List Item) Fault → Result Lists Fault
depot (Ok es) = Ok (lists_of es)
depot (Err fault) = Err fault

-- the depot that a text says, or its first line that cannot be read, the word there and what is wrong with it
abbrev pub depot_of : List ℕ → Result Lists Fault
depot_of text = depot (gathered 1 [] (lines text))
