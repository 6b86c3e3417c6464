-- The index of the built-in depot, as theorems of the definitions. Assumes nothing.
use Rattle.std.specs.Prelude.{◌≡◌, ℕ, ◌<◌, List, [], ◌∷◌, length}
use Rattle.clock.specs.Model.{clock_roads}
use Rattle.least.specs.Times.{least_in_segment}
use Rattle.rows.specs.Index.{LeastIndex, listed_at, place_at}
use Rattle.rows.specs.Nearest.{entry}
use Rattle.rows.specs.declared.entry.Entry.{Entry}
use Rattle.town.specs.FourJunctions.{four_junctions, town}

-- an index: how many entries it keeps for each junction of each segment, their sites and their times
pub record Index : Type 0 where
  pub nearest : ℕ
  pub sites : List ℕ
  pub times : List ℕ

-- the first seconds of the built-in segments
abbrev pub firsts : List ℕ
firsts = four_junctions.segments

-- whether it is the index of the built-in depot: the sites of least time from each junction, by the least time that
-- each arc takes in the segment
abbrev pub IsRight : Index → Type 0
IsRight x = LeastIndex (clock_roads town) (length firsts) x.nearest (least_in_segment town firsts) x.sites x.times

-- entry r of junction v in segment i
abbrev pub entry_of : Index → (i v r : ℕ) → Entry
entry_of x i v r = listed_at x.sites x.times (place_at (clock_roads town).junctions x.nearest i v r)

-- with one entry kept: in each of three segments, junctions 0 to 3
abbrev pub one_kept : Index
one_kept = record {
  nearest = 1;
  sites = 0 ∷ 0 ∷ 0 ∷ 1 ∷ 0 ∷ 0 ∷ 0 ∷ 1 ∷ 0 ∷ 0 ∷ 0 ∷ 1 ∷ [];
  times = 200 ∷ 0 ∷ 100 ∷ 0 ∷ 300 ∷ 0 ∷ 700 ∷ 0 ∷ 200 ∷ 0 ∷ 100 ∷ 0 ∷ [];
}

-- with two entries kept
abbrev pub two_kept : Index
two_kept = record {
  nearest = 2;
  sites = 0 ∷ 1 ∷ 0 ∷ 1 ∷ 0 ∷ 1 ∷ 1 ∷ 65535 ∷ 0 ∷ 1 ∷ 0 ∷ 1 ∷ 0 ∷ 1 ∷ 1 ∷ 65535 ∷ 0 ∷ 1 ∷ 0 ∷ 1 ∷ 0 ∷ 1 ∷ 1 ∷ 65535 ∷ [];
  times = 200 ∷ 250 ∷ 0 ∷ 50 ∷ 100 ∷ 150 ∷ 0 ∷ 0 ∷ 300 ∷ 350 ∷ 0 ∷ 50 ∷ 700 ∷ 750 ∷ 0 ∷ 0 ∷ 200 ∷ 250 ∷ 0 ∷ 50 ∷ 100 ∷ 150 ∷ 0 ∷ 0 ∷ [];
}

pub record WorkedIndex : Type 0 where
  -- least times: of arcs 0 to 2 the same in every segment, of arc 3 another in the segment between
  pub arc_0 : (i : ℕ) → i < 3 → least_in_segment town firsts i 0 ≡ 300
  pub arc_1 : (i : ℕ) → i < 3 → least_in_segment town firsts i 1 ≡ 100
  pub arc_2 : (i : ℕ) → i < 3 → least_in_segment town firsts i 2 ≡ 50
  pub arc_3_first : least_in_segment town firsts 0 3 ≡ 100
  pub arc_3_between : least_in_segment town firsts 1 3 ≡ 700
  pub arc_3_last : least_in_segment town firsts 2 3 ≡ 100
  -- both are the index, and no others are
  pub one_is_right : IsRight one_kept
  pub two_is_right : IsRight two_kept
  pub no_other : (x y : Index) → x.nearest ≡ y.nearest → IsRight x → IsRight y → x ≡ y
  -- with two kept, junction 3 has site 1 at no time in each segment, and no second entry
  pub junction_3_has_1 : (i : ℕ) → i < 3 → entry_of two_kept i 3 0 ≡ entry 1 0
  pub junction_3_lacks : (i : ℕ) → i < 3 → entry_of two_kept i 3 1 ≡ entry 65535 0
