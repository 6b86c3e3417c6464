use Rattle.std.proofs.Common.{◌≡◌, ◌≢◌, ℕ, ◌+◌, ◌<◌, ◌≤◌, true, List, ◌++◌, length, take, drop, slice_get}
use Rattle.rows.specs.Index.{entry_at}
use Rattle.rows.specs.Nearest.{Before}
use Rattle.std.specs.List.{All}
use Rattle.rows.specs.Offering.{is_in_order, put}
use Rattle.rows.specs.declared.entry.Entry.{Entry}
use Rattle.rows.proofs.offering.put_before.Given as goal

-- x put at the place that the loop has come to makes the list that it made where the loop began
pub record Moving (x : Entry) (old now : List Entry) (from at : ℕ) : Type 0 where
  pub inside : at < length now
  pub order : is_in_order (take at now) ≡ true
  pub apart : All (λ y. y.site ≢ x.site) (take at now)
  pub made : put x (take at now) ++ drop (at + 1) now ≡ put x (take from old) ++ drop (from + 1) old
  pub up_to : at ≤ from
  pub same : (i : ℕ) → i < at → slice_get now i ≡ slice_get old i
  pub after : at < from → Before x (entry_at old at)

abbrev pub invariant-loop-place : goal.invariant-loop-place
invariant-loop-place l = Moving l.offered l.fn.entries l.entries l.at l.place

abbrev pub decreases-loop-place : goal.decreases-loop-place
decreases-loop-place l = l.place
