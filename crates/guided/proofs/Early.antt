-- What tables that are not refused keep, and that there are rows of the index by them. Assumes nothing.
use Rattle.std.proofs.Common.{◌≡◌, ℕ, ◌*◌, ◌≤◌, true, leb, List, [], length, None, Some, Option, Ok, Err, refl, sym, ap, subst, ◌∙◌, arith}
use Rattle.std.specs.Option.{option_map, option_or}
use Rattle.std.proofs.lemmas.Nat.{mul-le}
use Rattle.clock.specs.Points.{table_refusal}
use Rattle.clock.specs.Tables.{Tables}
use Rattle.clock.specs.Timed.{table_says}
use Rattle.laying.specs.Admitted.{lay_refusal, lists_fit}
use Rattle.laying.proofs.Admitting.{has_passed}
use Rattle.least.specs.Segments.{day_refusal}
use Rattle.network.specs.First.{unless}
use Rattle.network.specs.Refused.{answered, refusal}
use Rattle.network.specs.declared.refusals.Places.TheVariants.{Call}
use Rattle.network.specs.declared.refusals.Refusal.{Refusal}
use Rattle.network.proofs.First.{clash, none_is, or_none, unless_none}
use Rattle.network.proofs.Refusing.{Arcs, arcs_say}
use Rattle.rows.specs.declared.entry.Entry.{Entry}
use Rattle.rows.proofs.Existence.{swept, swept_defined}
use Rattle.guided.specs.Lists.{Lists, network_of, arc_times, difference_from}
use Rattle.guided.specs.Loads.{early_refusal, load_refusal, RightRows, RowsOf, HasRows}
use Rattle.guided.specs.Faults.{differs}

pub tables_arcs : (t : Tables) → table_refusal t ≡ None → Arcs t.starts t.heads
tables_arcs t e = arcs_say t.starts t.heads (none_is _ (table_says t e).0)

module _ (x : Lists) (work : ℕ) where
  -- the tables are the first to be refused
  pub early_tables : early_refusal x work ≡ None → table_refusal x.tables ≡ None
  unfolding early_refusal
  early_tables e = (or_none (table_refusal x.tables) _ e).0

  pub has_rows : HasRows x work
  has_rows = go (early_refusal x work) refl
    where
      go : (o : Option Refusal) → early_refusal x work ≡ o → HasRows x work
      go (Some q) e = (λ i v. [], λ n. clash (early_refusal x work) q e n)
      go None e = (λ i. swept (network_of x) (arc_times x i) x.nearest (network_of x).junctions, λ n i l. swept_defined (network_of x) (arc_times x i) x.nearest (tables_arcs x.tables (early_tables e)).within)

module _ (x : Lists) (work : ℕ) (none : early_refusal x work ≡ None) where
  admitted : lay_refusal (network_of x).junctions x.segments x.nearest (length x.sites) (length x.times) work ≡ None
  unfolding early_refusal
  admitted = (or_none (table_refusal x.tables) (lay_refusal (network_of x).junctions x.segments x.nearest (length x.sites) (length x.times) work) none).1

  pub early_fit : lists_fit (length x.segments) (network_of x).junctions x.nearest (length x.sites) (length x.times) ≡ true
  unfolding lay_refusal
  early_fit = let fits = lists_fit (length x.segments) (network_of x).junctions x.nearest (length x.sites) (length x.times) in
      unless_none fits (refusal 10 Call) (or_none (unless fits (refusal 10 Call)) (unless (leb ((network_of x).junctions * x.nearest) work) (refusal 17 Call)) (or_none (day_refusal x.segments) (option_or (unless fits (refusal 10 Call)) (unless (leb ((network_of x).junctions * x.nearest) work) (refusal 17 Call))) admitted).1).0

  -- there is a work record for each junction
  pub early_work : (network_of x).junctions ≤ work
  early_work =
      let passed = has_passed (network_of x).junctions x.segments x.nearest (length x.sites) (length x.times) work admitted in
      let all = passed.work_long in
      let each = mul-le (network_of x).junctions 1 (network_of x).junctions x.nearest (omega arith) passed.some in
      omega arith

  module _ (rows : ℕ → ℕ → List Entry) (right : RowsOf x work rows) (y : Lists) (same : y ≡ x) where
    late_refusal : load_refusal x work rows ≡ option_map differs (difference_from x rows)
    late_refusal = ap (λ o. option_or o (option_map differs (difference_from x rows))) none

    here : (o : Option Refusal) → (RightRows y rows → o ≡ option_map differs (difference_from y rows)) → load_refusal x work rows ≡ o
    here o h = late_refusal ∙ sym (subst (λ z. RightRows z rows → o ≡ option_map differs (difference_from z rows)) same h (right none))

    pub answered_loaded : (RightRows y rows → None ≡ option_map differs (difference_from y rows)) → Ok y ≡ answered x (load_refusal x work rows)
    answered_loaded h = ap Ok same ∙ sym (ap (answered x) (here None h))

    pub answered_refused : (q : Refusal) (z : Lists) → z ≡ y → (RightRows y rows → Some q ≡ option_map differs (difference_from y rows)) → Err (q, z) ≡ answered x (load_refusal x work rows)
    answered_refused q z back h = ap (λ w. Err (q, w)) (back ∙ same) ∙ sym (ap (answered x) (here (Some q) h))

-- what is refused early is refused whatever the rows
pub answered_early : (x : Lists) (work : ℕ) (rows : ℕ → ℕ → List Entry) (q : Refusal) → Some q ≡ early_refusal x work → Err (q, x) ≡ answered x (load_refusal x work rows)
answered_early x work rows q e = ap (λ o. answered x (option_or o (option_map differs (difference_from x rows)))) e
