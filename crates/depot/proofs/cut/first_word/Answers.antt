use Rattle.std.proofs.Common.{◌≡◌, sym, ap, ◌∙◌, rules, tests}
use Rattle.std.specs.List.{position, prefix_len}
use Rattle.std.specs.Slice.Iter.{iter_rest}
use Rattle.std.proofs.lemmas.Iterator.{YieldsList-from_slice}
use Rattle.std.proofs.lemmas.Iterator.Consumers.{count_from_yields_List}
use Rattle.std.proofs.lemmas.Iterator.Search.{YieldsList-from_take_while, position_from_yields_List}
use Rattle.std.proofs.lemmas.List.Folds.{length-prefix_len}
use Rattle.depot.proofs.Cutting.{solid, no_word, word_cut}
use Rattle.depot.proofs.cut.first_word.Goals as goal

pub returns-in_err-start : goal.returns-in_err-start
returns-in_err-start c =
    let start : c.position.result ≡ position solid c.args.bytes.now =
    position_from_yields_List solid _ _ _ c.position.ensures.ran (YieldsList-from_slice c.args.bytes.now cc) (λ x b q k. search (rules, tests)) in
    rw c.from_residual.ensures (record { value = no_word c.args.bytes.now (sym start ∙ c.in_err-start.was); rest = tt; shorter = tt })

pub returns : goal.returns
returns c =
    let start : c.position.result ≡ position solid c.args.bytes.now =
    position_from_yields_List solid _ _ _ c.position.ensures.ran (YieldsList-from_slice c.args.bytes.now cc) (λ x b q k. search (rules, tests)) in
    let from = c.split_at.result.1.now in
    let end : c.count-end.result ≡ prefix_len solid from =
    count_from_yields_List c.take_while.result _ c.count-end.ensures.ran (YieldsList-from_take_while _ solid (YieldsList-from_slice from (ap iter_rest c.take_while.ensures.source ∙ c.iter-2.ensures.rest)) c.take_while.ensures.closure c.take_while.ensures.done (λ x b q k. search (rules, tests))) ∙ length-prefix_len solid from in
    let cut = word_cut _ _ _ _ _ _ (sym start ∙ c.in_ok-start.was) c.split_at.ensures.back end c.split_at-2.ensures.front c.split_at-2.ensures.back in
    record { value = cut.0; rest = cut.1; shorter = cut.2 }
