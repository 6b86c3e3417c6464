-- The entries of least time among what is offered. Assumes nothing.
use Rattle.std.specs.Prelude.{◌≡◌, ℕ, ◌<◌, ◌≤◌, ◌⊎◌, All, AllPairs, Contains, List, length}
use Rattle.rows.specs.declared.entry.Entry.{Entry}

-- an entry by its site and its time
abbrev pub entry : (site time : ℕ) → Entry
entry s t = record { site = s; time = t }

-- whether one entry comes before another: by time, then number
abbrev pub Before : Entry → Entry → Type 0
Before x y = (x.time < y.time) ⊎ ((x.time ≡ y.time) × (x.site < y.site))

-- whether a site is in a list
abbrev pub Listed : List Entry → ℕ → Type 0
Listed l s = (t : ℕ) × Contains l (entry s t)

-- whether t is the least time at which the site s is offered
abbrev pub LeastOf : (ℕ → ℕ → Type 0) → (s t : ℕ) → Type 0
LeastOf Offered s t = Offered s t × ((u : ℕ) → Offered s u → t ≤ u)

-- The C nearest of the sites that are offered at times, each with the least of its times, in order; fewer where fewer are
-- offered.
pub record Nearest (C : ℕ) (Offered : ℕ → ℕ → Type 0) (l : List Entry) : Type 0 where
  pub most : length l ≤ C
  pub least : All (λ x. LeastOf Offered x.site x.time) l
  pub ordered : AllPairs Before l
  -- where a site is left out, the list is full, and all of it comes before what is offered of that site
  pub rest : (s t : ℕ) → Offered s t → (Listed l s → ⊥) → (length l ≡ C) × All (λ x. Before x (entry s t)) l
