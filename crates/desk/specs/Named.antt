-- Holds that are kept under numbers. Assumes nothing.
use Rattle.std.specs.Prelude.{◌≡◌, ℕ, ◌+◌, ◌<◌, cond, List, [], ◌∷◌, map, length, Some, None, Option, ◌==◌, ◌≢◌, slice_index_or}
use Rattle.board.specs.Held.{hold_bears}
use Rattle.desk.specs.declared.kept.Kept.{Kept}

-- a kept hold as the number that it is kept by, and its site
abbrev pub named : Kept → ℕ × ℕ
named k = (k.name, (hold_bears k.hold).1)

abbrev pub named_sites : List Kept → List (ℕ × ℕ)
named_sites kept = map named kept

-- the site of the hold that is kept by a number, where one is
abbrev pub site_under : List (ℕ × ℕ) → ℕ → Option ℕ
site_under [] n = None
site_under (k ∷ ks) n = cond (k.0 == n) (Some k.1) (site_under ks n)

-- the others, in their order
abbrev pub without : List (ℕ × ℕ) → ℕ → List (ℕ × ℕ)
without [] n = []
without (k ∷ ks) n = cond (k.0 == n) ks (k ∷ without ks n)

-- how many are kept of a site
abbrev pub kept_at : List (ℕ × ℕ) → ℕ → ℕ
kept_at [] s = 0
kept_at (k ∷ ks) s = cond (k.1 == s) 1 0 + kept_at ks s

-- the first place that is kept by a number
pub record FirstUnder (kept : List Kept) (n i : ℕ) : Type 0 where
  pub within : i < length kept
  pub here : (d : Kept) → (slice_index_or kept i d).name ≡ n
  pub before : (k : ℕ) (d : Kept) → k < i → (slice_index_or kept k d).name ≢ n
