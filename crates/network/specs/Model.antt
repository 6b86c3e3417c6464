-- A network as its answers. A reading says how far a van has come, and here stands as its height: the whole number
-- that orders it among the readings of its kind. Assumes nothing.
use Rattle.std.specs.Prelude.{ℕ, Bool, ◌&&◌, Option, ◌==◌, nat_le, nat_lt}
use Rattle.network.specs.First.{first_of, provided}

pub record Roads : Type 0 where
  -- how many there are of each, numbered from 0
  pub junctions : ℕ
  pub arcs : ℕ
  pub sites : ℕ
  -- an arc's two ends, and the junction where a site stands
  pub tail : ℕ → ℕ
  pub head : ℕ → ℕ
  pub place : ℕ → ℕ
  -- which numbers are the height of a reading
  pub reads : ℕ → Bool
  -- the start reading for a number; the reading at an arc's head, for the arc and the reading on entering it;
  -- a reading lengthened, for the units and the reading
  pub start : ℕ → Option ℕ
  pub carry : ℕ → ℕ → Option ℕ
  pub lengthen : ℕ → ℕ → Option ℕ

-- what f says of number i of n, and nothing where there is no such number
abbrev pub there : {X : Type 0} → ℕ → (ℕ → X) → ℕ → Option X
there n f i = provided (nat_lt i n) (f i)

-- the first arc that leaves the junction, at or after `from`
abbrev pub leaving : (arcs : ℕ) → (ℕ → ℕ) → ℕ → ℕ → Option ℕ
leaving arcs tail v from = first_of (λ a. provided (nat_le from a && tail a == v) a) arcs

-- what arrives at the head of an arc that is entered at h
abbrev pub arrival : Roads → ℕ → ℕ → Option ℕ
arrival m a h = m.carry a h
