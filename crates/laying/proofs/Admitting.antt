-- What is known where nothing is refused of laying. Assumes nothing.
use Rattle.std.proofs.Common.{◌≡◌, ℕ, ◌*◌, ◌≤◌, List, length, None, arith}
use Rattle.std.proofs.lemmas.Bool.Decides.{nat_tests}
use Rattle.laying.specs.Admitted.{lay_refusal}
use Rattle.least.specs.Segments.{cuts_day}

pub record Passed (n : ℕ) (firsts : List ℕ) (C sites times work : ℕ) : Type 0 where
  pub few : length firsts ≤ 8
  pub some : 1 ≤ C
  pub short : C ≤ 8
  pub sites_long : sites ≡ length firsts * n * C
  pub times_long : times ≡ length firsts * n * C
  pub work_long : n * C ≤ work

pub has_passed : (n : ℕ) (firsts : List ℕ) (C sites times work : ℕ) → lay_refusal n firsts C sites times work ≡ None → Passed n firsts C sites times work
unfolding lay_refusal cuts_day
has_passed n firsts C sites times work e = record {
  few = grind (arith, nat_tests, e);
  some = grind (arith, nat_tests, e);
  short = grind (arith, nat_tests, e);
  sites_long = grind (arith, nat_tests, e);
  times_long = grind (arith, nat_tests, e);
  work_long = grind (arith, nat_tests, e);
}
