-- What a list of soonest sites is. It speaks of paths and sites alone. Assumes nothing.
use Rattle.std.specs.Prelude.{◌≡◌, ℕ, ◌-◌, ◌<◌, ◌≤◌, Bool, true, List, length, Some, ◌≢◌, slice_index_or}
use Rattle.network.specs.Model.{Roads}
use Rattle.network.specs.Paths.{Path}
use Rattle.soonest.specs.Ways.{back}

-- the site and the reading at place i of a list
abbrev pub site_at : List (ℕ × ℕ) → ℕ → ℕ
site_at l i = (slice_index_or l i (0, 0)).0

abbrev pub reading_at : List (ℕ × ℕ) → ℕ → ℕ
reading_at l i = (slice_index_or l i (0, 0)).1

-- whether a site is in a list
abbrev pub Listed : List (ℕ × ℕ) → ℕ → Type 0
Listed l s = (i : ℕ) × (i < length l) × (site_at l i ≡ s)

-- a path from junction v at h to the site s that reads q
abbrev pub Reaches : Roads → (v h s q : ℕ) → List ℕ → Type 0
Reaches m v h s q arcs = Path m v h arcs (m.place s) q

-- The k free sites that are reached soonest from junction v at the reading h, with their readings, and by `way` the arc by
-- which each junction was reached.
pub record Soonest (m : Roads) (free : ℕ → Bool) (v h k : ℕ) (listed : List (ℕ × ℕ)) (way : ℕ → ℕ) : Type 0 where
  pub at_most_k : length listed ≤ k
  pub each_is_free : (i : ℕ) → i < length listed → (site_at listed i < m.sites) × (free (site_at listed i) ≡ true)
  pub each_once : (i j : ℕ) → i < j → j < length listed → site_at listed i ≢ site_at listed j
  pub readings_never_fall : (i j : ℕ) → i < j → j < length listed → reading_at listed i ≤ reading_at listed j
  -- the way of a listed site is a path that reads exactly what is listed
  pub way_reads_it : (i : ℕ) → i < length listed → (arcs : List ℕ) × (back m way v (m.junctions - 1) (m.place (site_at listed i)) ≡ Some arcs) × Reaches m v h (site_at listed i) (reading_at listed i) arcs
  -- no path to a listed site reads less
  pub none_sooner : (i q : ℕ) (arcs : List ℕ) → i < length listed → Reaches m v h (site_at listed i) q arcs → reading_at listed i ≤ q
  -- no path to a free site that is not listed reads less than any listed reading
  pub no_other_sooner : (s q i : ℕ) (arcs : List ℕ) → s < m.sites → free s ≡ true → (Listed listed s → ⊥) → Reaches m v h s q arcs → i < length listed → reading_at listed i ≤ q
  -- where fewer than k are listed, no path leads to any other free site
  pub no_other_where_fewer : (s q : ℕ) (arcs : List ℕ) → length listed < k → s < m.sites → free s ≡ true → (Listed listed s → ⊥) → Reaches m v h s q arcs → ⊥
