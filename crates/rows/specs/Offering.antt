-- A row put together from offers, one after the other. Assumes nothing.
use Rattle.std.specs.Prelude.{◌≡◌, ◌≢◌, ℕ, zero, suc, ◌+◌, ◌^◌, ◌<◌, ◌≤◌, Bool, true, false, ◌&&◌, ◌||◌, if◌then◌else◌, List, [], ◌∷◌, ◌++◌, All, length, take, drop, fold, Some, None, Option, option_map, ◌==◌, nat_lt, slice_get}
use Rattle.std.specs.List.{list_all}
use Rattle.network.specs.Model.{Roads}
use Rattle.network.specs.Without.{without}
use Rattle.rows.specs.Index.{entry_at, same}
use Rattle.rows.specs.Nearest.{entry, Before}
use Rattle.rows.specs.declared.entry.Entry.{Entry}

-- whether an entry comes before another, by time, then number
abbrev pub comes_before : Entry → Entry → Bool
comes_before x y = nat_lt x.time y.time || (x.time == y.time && nat_lt x.site y.site)

-- whether each entry of a list comes before all that follow
abbrev pub is_in_order : List Entry → Bool
is_in_order [] = true
is_in_order (x ∷ l) = list_all (comes_before x) l && is_in_order l

-- the site that an entry is of
abbrev pub site_of : Entry → ℕ
site_of x = x.site

-- the list with x in its place, and no other entry of its site; as it was where one that does not come after x is there
abbrev pub put : Entry → List Entry → List Entry
put x [] = x ∷ []
put x (y ∷ l) = elim (comes_before x y) [ true ↦ x ∷ without site_of x.site (y ∷ l) | false ↦ elim (y.site == x.site) [ true ↦ y ∷ l | false ↦ y ∷ put x l ] ]

-- a row of at most C entries after one more offer
unfoldable pub offer : (C : ℕ) → List Entry → Entry → List Entry
offer C row x = take C (put x row)

-- whether a row of at most C entries is full of entries that come before x
abbrev pub is_full_before : (C : ℕ) → List Entry → Entry → Bool
is_full_before C row x = length row == C && list_all (λ y. comes_before y x) row

-- whether an offer leaves a row as it was
abbrev pub Keeps : (C : ℕ) → List Entry → Entry → Type 0
Keeps C row x = offer C row x ≡ row

-- Whether the entry at a place, or the room behind all, gives way to x: the offer of x keeps what
-- stands above the place, and puts x among what stands below it, which has no entry of its site.
pub record GivesWay (C : ℕ) (row : List Entry) (x : Entry) (at : ℕ) : Type 0 where
  pub within : at ≤ length row
  pub room : at < C
  pub apart : All (λ y. y.site ≢ x.site) (take at row)
  pub after : at < length row → Before x (entry_at row at)
  pub made : offer C row x ≡ put x (take at row) ++ drop (at + 1) row

-- Whether x was put at p, no further than at a place, with nothing changed before p.
pub record IsPutAt (x : Entry) (at p : ℕ) (old now : List Entry) : Type 0 where
  pub within : p ≤ at
  pub here : slice_get now p ≡ Some x
  pub same : (i : ℕ) → i < p → slice_get now i ≡ slice_get old i
  pub after : p < at → Before x (entry_at old p)

-- the first place at which two rows differ, if any
abbrev pub first_change : List Entry → List Entry → Option ℕ
first_change [] [] = None
first_change [] (y ∷ k) = Some 0
first_change (x ∷ l) [] = Some 0
first_change (x ∷ l) (y ∷ k) = if same x y then option_map suc (first_change l k) else Some 0

-- an entry later by d
abbrev pub later : ℕ → Entry → Entry
later d x = entry x.site (d + x.time)

-- the row after the offers of a list, each later by d
abbrev pub offer_all : (C d : ℕ) → List Entry → List Entry → List Entry
offer_all C d l row = fold (λ r x. offer C r (later d x)) row l

-- whether an entry later by d has a time of 32 bits
abbrev pub fits : ℕ → Entry → Bool
fits d x = nat_lt (d + x.time) (2 ^ 32)

-- the entries of a list before the first that does not fit, later by d
abbrev pub fitting : ℕ → List Entry → List Entry
fitting d [] = []
fitting d (x ∷ l) = elim (fits d x) [ true ↦ x ∷ fitting d l | false ↦ [] ]

-- the row of the sites below n that stand at v
unfoldable pub offer_sites : Roads → (C v n : ℕ) → List Entry
offer_sites m C v zero = []
offer_sites m C v (suc s) = elim (m.place s == v) [ true ↦ offer C (offer_sites m C v s) (entry s 0) | false ↦ offer_sites m C v s ]

-- that row of all sites, and then of the rows at the heads of v's arcs below n, each later by its arc's time
unfoldable pub offer_arcs : Roads → (ℕ → ℕ) → (C : ℕ) → (ℕ → List Entry) → (v n : ℕ) → List Entry
offer_arcs m f C rows v zero = offer_sites m C v m.sites
offer_arcs m f C rows v (suc a) = elim (m.tail a == v) [ true ↦ offer_all C (f a) (rows (m.head a)) (offer_arcs m f C rows v a) | false ↦ offer_arcs m f C rows v a ]

-- the row of all that is offered at v
abbrev pub offered_row : Roads → (ℕ → ℕ) → (C : ℕ) → (ℕ → List Entry) → (v : ℕ) → List Entry
offered_row m f C rows v = offer_arcs m f C rows v m.arcs
