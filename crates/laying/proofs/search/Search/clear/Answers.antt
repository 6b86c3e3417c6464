-- One more row has no entry.
use Rattle.std.proofs.Common.{length, refl, sym, ap, ◌∙◌, subst, ⊎_elim, arith}
use Rattle.std.proofs.lemmas.Bool.{cases_eq, cases_lt}
use Rattle.std.proofs.lemmas.Option.{slice_get_past}
use Rattle.laying.specs.Search.{IsSized, entries_of, rows_of, settled_of}
use Rattle.laying.proofs.Linking.{all_alike}
use Rattle.laying.proofs.Ending.{key_past}
use Rattle.laying.proofs.Stepping.{numbers}
use Rattle.laying.proofs.search.Search.clear.Goals as goal

pub loop-junction-init : goal.loop-junction-init
loop-junction-init c =
    let sized = c.requires.sized in (
      record { rows = sized.rows; few = sized.few; short = sized.short; settled = refl; queue = sized.queue; most = sized.most },
      refl,
      λ v l. absurd (omega arith),
      λ v. all_alike 4096 v 0,
      c.requires.idle,
    )

pub loop-junction-preserved : goal.loop-junction-preserved
loop-junction-preserved c =
    let t = c.clear_row.new.self in
    let i = c.loop-junction.invariant in
    let change = c.clear_row.ensures.rows in (
      subst (λ n. IsSized n t) i.0.rows c.clear_row.ensures.sized,
      c.clear_row.ensures.most ∙ i.1,
      λ v l. ⊎_elim (λ e. ap (rows_of t) e ∙ change.0) (λ d. change.1 v d ∙ i.2 v (omega arith)) (cases_eq v c.loop-junction.junction),
      λ v. ap (λ l. numbers l v) c.clear_row.ensures.settled ∙ i.3 v,
      λ v. c.clear_row.ensures.keys v ∙ i.4 v,
    )

pub returns-clause-rows : goal.returns-clause-rows
returns-clause-rows c v =
    let s = c.loop-junction.self in
    let i = c.loop-junction.invariant in
    let long = c.len-count.ensures.value in
    let last = c.loop-junction-test.false in
    let same = i.0.rows in
    ⊎_elim (λ l. i.2 v l) (λ l. ap entries_of (slice_get_past s.rows.items v (omega arith))) (cases_lt v c.loop-junction.junction)

pub returns-clause-queued : goal.returns-clause-queued
returns-clause-queued c v =
    let s = c.loop-junction.self in
    let none = ap length (returns-clause-rows c v) in
    c.loop-junction.invariant.4 v ∙ sym (key_past (rows_of s v) (settled_of s v) v (omega arith))
