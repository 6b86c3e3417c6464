-- The lists of length roads. Junction v's arcs run from arc start v to before arc start v + 1. Assumes nothing.
use Rattle.std.specs.Prelude.{ℕ, List}

pub record Tables : Type 0 where
  pub starts : List ℕ
  pub heads : List ℕ
  pub metres : List ℕ
  pub sites : List ℕ
