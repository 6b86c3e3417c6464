-- What an asking leaves in the lists that it is lent. Assumes nothing.
use Rattle.std.specs.Prelude.{◌≡◌, ℕ, ◌≤◌, List, map, take, slice_index_or}
use Rattle.soonest.specs.Stages.{Stage}
use Rattle.soonest.specs.Ways.{way_in}
use Rattle.finder.specs.declared.answers.Answer.{Answer}
use Rattle.finder.specs.declared.answers.Listing.{Listing}

-- the first answers of a list, each a site and the height of its reading
abbrev pub listed_in : {R : Type 0} → (R → ℕ) → ℕ → List (Answer R) → List (ℕ × ℕ)
listed_in height count answers = map (λ a. (a.site, height a.reading)) (take count answers)

-- every entry from n on is as it was
abbrev pub KeptFrom : {X : Type 0} → (n : ℕ) → (before after : List X) → Type 0
KeptFrom {X = X} n before after = (i : ℕ) (d : X) → n ≤ i → slice_index_or after i d ≡ slice_index_or before i d

-- a listing, answers and ways that show a stage
pub record Shows {R : Type 0} (height : R → ℕ) (l : Listing) (answers : List (Answer R)) (ways : List ℕ) (s : Stage) : Type 0 where
  pub sites_listed : listed_in height l.count answers ≡ s.listed
  pub steps_taken : l.steps ≡ s.steps
  pub ways_left : way_in ways ≡ s.way
