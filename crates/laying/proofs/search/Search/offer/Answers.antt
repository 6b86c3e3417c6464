-- Where the row has not changed up to its next entry, the junction waits as it should.
use Rattle.std.proofs.Common.{sym, ap, ◌∙◌}
use Rattle.std.specs.List.{slice_get}
use Rattle.rows.proofs.Changes.{no_change, same_before}
use Rattle.laying.specs.Search.{keys_of, rows_of, settled_of}
use Rattle.laying.proofs.Stepping.{numbers, queued_still}
use Rattle.laying.proofs.search.Search.offer.Goals as goal

pub returns-in_default-clause-queued : goal.returns-in_default-clause-queued
returns-in_default-clause-queued c u =
    let s = c.args.self.now in
    let t = c.offer_to_row.new.self in
    let v = c.args.junction in
    let told = c.offer_to_row.ensures in
    let count = ap (λ l. slice_get (rows_of t v) (numbers l v)) told.settled in
    let next = count ∙ ap (λ r. slice_get r (settled_of s v)) (no_change (rows_of s v) (rows_of t v) (sym told.place ∙ c.in_default.is)) in
    told.keys u ∙ queued_still (keys_of s) (rows_of s) (rows_of t) (settled_of s) (settled_of t) v told.rows.1 (λ w d. ap (λ l. numbers l w) told.settled) next c.requires.queued u

pub returns-else-changed-self-clause-queued : goal.returns-else-changed-self-clause-queued
returns-else-changed-self-clause-queued c u =
    let s = c.args.self.now in
    let t = c.offer_to_row.new.self in
    let v = c.args.junction in
    let told = c.offer_to_row.ensures in
    let count = ap (λ l. slice_get (rows_of s v) (numbers l v)) told.settled in
    let next = same_before (rows_of s v) (rows_of t v) c.in-Some.changed (settled_of t v) (sym told.place ∙ c.in-Some.is) c.if-changed-self.false ∙ count in
    told.keys u ∙ queued_still (keys_of s) (rows_of s) (rows_of t) (settled_of s) (settled_of t) v told.rows.1 (λ w d. ap (λ l. numbers l w) told.settled) next c.requires.queued u
