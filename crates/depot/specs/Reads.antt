-- What the results of reading a depot file say, by the items of their vectors.
use Rattle.std.specs.Prelude.{ℕ, List, map, vec_items, Result}
use Rattle.depot.specs.declared.depots.Depot.{Depot}
use Rattle.depot.specs.declared.fault.WordFault.{WordFault}
use Rattle.depot.specs.declared.fault.LineFault.{LineFault}
use Rattle.depot.specs.declared.fault.TextFault.{TextFault}
use Rattle.depot.specs.declared.fault.TextFault.TheVariants as fault
use Rattle.depot.specs.declared.listing.Listing.{Listing}
use Rattle.depot.specs.Depots.{Item, Fault, Lists}
use Rattle.depot.specs.Names.{name_of}
use Rattle.depot.specs.Says.{Tells}

-- a listing's name and numbers
abbrev pub item : Listing → Item
item e = (name_of e.part, vec_items e.numbers)

-- the same of each listing
abbrev pub items : List Listing → List Item
items es = map item es

-- the lists and the numbers of a depot that was read
abbrev pub seen : Depot → Lists
seen d = record {
  arc_starts = vec_items d.arc_starts;
  heads = vec_items d.heads;
  point_starts = vec_items d.point_starts;
  departures = vec_items d.departures;
  arrivals = vec_items d.arrivals;
  sites = vec_items d.sites;
  metres = vec_items d.metres;
  segments = vec_items d.segments;
  nearest = d.nearest;
  bays = vec_items d.bays;
  board = d.board;
}

-- the line of a fault, its word and what is wrong with it
abbrev pub blamed : LineFault → Fault
blamed f = (f.line, vec_items f.fault.word, f.fault.what)

-- r says m, where f tells what a value says; of want of memory nothing more is said
abbrev pub Reads : {T X : Type 0} → (T → X) → Result T (TextFault LineFault) → Result X Fault → Type 0
Reads f r m = Tells f blamed r m

-- the fault of a word, put at a line
abbrev pub at_line : ℕ → TextFault WordFault → TextFault LineFault
at_line n fault.Memory = fault.Memory
at_line n (fault.Wrong f) = fault.Wrong (record { line = n; fault = f })
