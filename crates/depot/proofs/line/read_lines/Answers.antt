use Rattle.std.proofs.Common.{◌≡◌, ◌<◌, ◌+◌, ◌∷◌, [], ◌++◌, length, get_or, Ok, Err, sym, ap, ◌∙◌, rules, tests, arith, zero-add, length-append}
use Rattle.std.proofs.lemmas.Grind.{common_steps}
use Rattle.depot.specs.Cuts.{lines, words, code}
use Rattle.depot.specs.Depots.{grown, gathered}
use Rattle.depot.specs.Entries.{Wrong}
use Rattle.depot.specs.Reads.{items}
use Rattle.std.specs.Iterator.Adapters.{enumerate_source, enumerate_count}
use Rattle.std.specs.Slice.Iter.{split_rest, split_done, split_callee}
use Rattle.std.proofs.lemmas.Iterator.Consumers.{YieldsList-from_enumerate, YieldsList-turn, YieldsList-end}
use Rattle.std.proofs.lemmas.Iterator.Splits.{YieldsList-from_slice_split}
use Rattle.std.proofs.lemmas.List.FromFn.{length-enumerate_from, get_or-enumerate_from}
use Rattle.depot.proofs.Lining.{newline, pieces, at_first, further, wrong_at, all_read}
use Rattle.depot.proofs.line.read_lines.Goals as goal
use Rattle.depot.proofs.line.read_lines.Goals.{In-Some}

pub loop-index-init : goal.loop-index-init
loop-index-init c = rw c.new-listings.ensures (at_first c.args.text.now)

turn : (c : In-Some) → (length c.loop-index.yielded < length (pieces c.args.text.now)) × (c.in-Some.index ≡ length c.loop-index.yielded) × (c.in-Some.line.now ≡ get_or (pieces c.args.text.now) (length c.loop-index.yielded) c.in-Some.line.now)
turn c =
    let same = c.into_iter-index-iterator.ensures.into_iter_gives in
    let source = ap enumerate_source same ∙ c.enumerate-index-items.ensures.source in
    let it = YieldsList-turn (YieldsList-from_enumerate {s = c.into_iter-index-iterator.result} (YieldsList-from_slice_split _ newline c.args.text.now (ap split_rest source ∙ c.split.ensures.rest) (ap split_done source ∙ c.split.ensures.done) (ap split_callee source ∙ c.split.ensures.closure) (λ x b q k. search (rules, tests))) (ap enumerate_count same ∙ c.enumerate-index-items.ensures.count)) c.loop-index.yielded c.loop-index.index-iterator c.loop-index.yielded_by _ _ _ c.in-Some.is c.next.ensures.steps in
    let n = length c.loop-index.yielded in
    let lt = rw (length-enumerate_from 0 (pieces c.args.text.now)) at it.0 in
    let here = it.1 ∙ get_or-enumerate_from 0 (pieces c.args.text.now) n (c.in-Some.index, c.in-Some.line.now) lt in
    (lt, ap (λ p. p.0) here ∙ zero-add n, ap (λ p. p.1) here)

pub loop-index-preserved : goal.loop-index-preserved
loop-index-preserved c =
    let t = turn (goal.at.loop-index-preserved c).In-Some in
    let more : length (c.loop-index.yielded ++ (c.in-Some.index, c.in-Some.line) ∷ []) ≡ length c.loop-index.yielded + 1 = length-append c.loop-index.yielded ((c.in-Some.index, c.in-Some.line) ∷ []) in
    let read : c.add.result ≡ Ok c.in_ok-map_err.field-0 = search rules in
    let said = rw read at c.add.ensures in
    rw more (further c.loop-index.invariant c.in-Some.line.now _ t.0 t.2 said)

pub returns-in_err-map_err : goal.returns-in_err-map_err
returns-in_err-map_err c =
    let t = turn (goal.at.returns-in_err-map_err c).In-Some in
    let wrong : (w : Wrong) → grown (items c.loop-index.listings.lines.items) (words (code c.in-Some.line.now)) ≡ Err w → gathered 1 [] (lines c.args.text.now) ≡ Err (c.in-Some.index + 1, w.0, w.1) =
    λ w e. wrong_at c.loop-index.invariant c.in-Some.line.now w t.0 t.2 e ∙ ap (λ k. Err (k + 1, w.0, w.1)) (sym t.1) in
    grind (arith, common_steps, wrong)

pub returns : goal.returns
returns c =
    let same = c.into_iter-index-iterator.ensures.into_iter_gives in
    let source = ap enumerate_source same ∙ c.enumerate-index-items.ensures.source in
    let end = YieldsList-end (YieldsList-from_enumerate {s = c.into_iter-index-iterator.result} (YieldsList-from_slice_split _ newline c.args.text.now (ap split_rest source ∙ c.split.ensures.rest) (ap split_done source ∙ c.split.ensures.done) (ap split_callee source ∙ c.split.ensures.closure) (λ x b q k. search (rules, tests))) (ap enumerate_count same ∙ c.enumerate-index-items.ensures.count)) c.loop-index.yielded c.loop-index.index-iterator c.loop-index.yielded_by _ _ c.in-None.is c.next.ensures.steps in
    let all : length (pieces c.args.text.now) ≡ length c.loop-index.yielded = sym (length-enumerate_from 0 (pieces c.args.text.now)) ∙ sym end.1 in
    all_read c.loop-index.invariant (omega arith)
