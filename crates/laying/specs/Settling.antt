-- A search from all sites at once, against the direction of travel, inside the crate: the entries of the rows are settled by
-- rising time, and each settled entry is relaxed along the arcs into its junction, that is, offered where the arc starts.
use Rattle.std.specs.Prelude.{◌≡◌, ℕ, zero, suc, ◌+◌, ◌*◌, ◌<◌, ◌≤◌, ◌⊎◌, Bool, if◌then◌else◌, ◌==◌, Contains, List, length, take, drop}
use Rattle.std.specs.List.{list_any}
use Rattle.network.specs.Model.{Roads}
use Rattle.rows.specs.Index.{entry_at}
use Rattle.rows.specs.Nearest.{entry, Nearest}
use Rattle.rows.specs.declared.entry.Entry.{Entry}

-- what was relaxed along an arc: the first entries of its head's row
abbrev pub relaxed_along : Roads → (rows : ℕ → List Entry) → (relaxed : ℕ → ℕ) → ℕ → List Entry
relaxed_along m rows relaxed a = take (relaxed a) (rows (m.head a))

-- whether a site was offered at v at a time: it stands there, or was relaxed along an arc of v, later by the arc's time
abbrev pub OfferedSoFar : Roads → (ℕ → ℕ) → (along : ℕ → List Entry) → (v s t : ℕ) → Type 0
OfferedSoFar m f along v s t =
    ((s < m.sites) × (m.place s ≡ v) × (t ≡ 0))
    ⊎ ((a : ℕ) × (u : ℕ) × (a < m.arcs) × (m.tail a ≡ v) × Contains (along a) (entry s u) × (t ≡ f a + u))

-- Each row is the nearest of what was offered so far. Its first `settled` entries are settled, and of those of an arc's head
-- the first `relaxed` were relaxed along it. What is settled is no later than the level; all else, and what is not relaxed, no
-- sooner.
pub record IsSearchState (m : Roads) (f : ℕ → ℕ) (C : ℕ) (rows : ℕ → List Entry) (settled relaxed : ℕ → ℕ) (level : ℕ) : Type 0 where
  pub row : (v : ℕ) → Nearest C (OfferedSoFar m f (relaxed_along m rows relaxed) v) (rows v)
  pub within : (v : ℕ) → settled v ≤ length (rows v)
  pub behind : (a : ℕ) → a < m.arcs → relaxed a ≤ settled (m.head a)
  pub low : (v : ℕ) (x : Entry) → Contains (take (settled v) (rows v)) x → x.time ≤ level
  pub high : (v : ℕ) (x : Entry) → Contains (drop (settled v) (rows v)) x → level ≤ x.time
  pub pending : (a : ℕ) → a < m.arcs → (x : Entry) → Contains (drop (relaxed a) (rows (m.head a))) x → level ≤ x.time

-- whether all that is settled was relaxed
abbrev pub AllRelaxed : Roads → (settled relaxed : ℕ → ℕ) → Type 0
AllRelaxed m settled relaxed = (a : ℕ) → a < m.arcs → relaxed a ≡ settled (m.head a)

-- x is the first entry of v's row that is not settled, and no sooner one is in any other row
pub record IsNext (rows : ℕ → List Entry) (settled : ℕ → ℕ) (v : ℕ) (x : Entry) : Type 0 where
  pub there : settled v < length (rows v)
  pub is : entry_at (rows v) (settled v) ≡ x
  pub least : (w : ℕ) → settled w < length (rows w) → x.time ≤ (entry_at (rows w) (settled w)).time

-- whether a list has an entry of a site
abbrev pub lists : List Entry → ℕ → Bool
lists l s = list_any (λ x. x.site == s) l

-- at how many of the numbers below n a test passes
unfoldable pub count_below : (ℕ → Bool) → ℕ → ℕ
count_below p zero = 0
count_below p (suc n) = if p n then suc (count_below p n) else count_below p n

-- at how many junctions a site is settled
abbrev pub settled_for : Roads → (rows : ℕ → List Entry) → (settled : ℕ → ℕ) → ℕ → ℕ
settled_for m rows settled s = count_below (λ v. lists (take (settled v) (rows v)) s) m.junctions

-- Where no arc takes longer than `longest`, an entry's time is at most that for each junction at which its site is settled, and
-- less by one arc where it is settled and not relaxed yet. So times have a bound that knows no chain.
pub record HasShortTimes (m : Roads) (longest : ℕ) (rows : ℕ → List Entry) (settled relaxed : ℕ → ℕ) : Type 0 where
  pub each : (v : ℕ) (x : Entry) → Contains (rows v) x → x.time ≤ settled_for m rows settled x.site * longest
  pub owed : (a : ℕ) → a < m.arcs → (x : Entry) → Contains (drop (relaxed a) (take (settled (m.head a)) (rows (m.head a)))) x → x.time + longest ≤ settled_for m rows settled x.site * longest

-- between two settlings: all that is settled was relaxed
pub record IsAtRest (m : Roads) (f : ℕ → ℕ) (C longest : ℕ) (rows : ℕ → List Entry) (settled : ℕ → ℕ) : Type 0 where
  pub relaxed : ℕ → ℕ
  pub level : ℕ
  pub state : IsSearchState m f C rows settled relaxed level
  pub short : HasShortTimes m longest rows settled relaxed
  pub all : AllRelaxed m settled relaxed
