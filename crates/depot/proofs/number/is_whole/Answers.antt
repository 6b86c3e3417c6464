use Rattle.std.proofs.Common.{◌≡◌, ◌&&◌, length, sym, ap, ◌∙◌, arith, false-eqb, rules, tests}
use Rattle.std.specs.List.{list_all}
use Rattle.std.proofs.lemmas.Bool.{lt-ltb}
use Rattle.std.proofs.lemmas.Iterator.{YieldsList-from_slice}
use Rattle.std.proofs.lemmas.Iterator.Search.{all_from_yields_List}
use Rattle.depot.specs.Numbers.{digit}
use Rattle.depot.proofs.number.is_whole.Goals as goal

pub returns-then-not-is_empty : goal.returns-then-not-is_empty
returns-then-not-is_empty c =
    let word = c.args.word.now in
    let all : c.all.result ≡ list_all digit word =
    all_from_yields_List digit _ _ c.all.result c.all.ensures.ran (YieldsList-from_slice word cc) (λ x b q k. search (rules, tests)) in
    let q = c.if-not-is_empty.ensures in
    all ∙ ap (λ t. t && list_all digit word) (sym (lt-ltb 0 (length word) (omega (arith, false-eqb _ 0 c.if-not-is_empty.ensures))))
