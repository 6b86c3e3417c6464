use Rattle.std.proofs.Common.{◌≡◌, ℕ, Bool, not, eqb, take, ap, ◌∙◌, rules, tests}
use Rattle.std.proofs.lemmas.Iterator.{YieldsList-from_slice}
use Rattle.std.proofs.lemmas.Iterator.Consumers.{count_from_yields_List}
use Rattle.std.proofs.lemmas.Iterator.Search.{YieldsList-from_take_while}
use Rattle.std.proofs.lemmas.List.Folds.{length-prefix_len}
use Rattle.depot.specs.Cuts.{before}
use Rattle.depot.proofs.cut.without_comment.Goals as goal

pub returns : goal.returns
returns c =
    let line = c.args.line.now in
    let code_byte : ℕ → Bool = λ b. not (eqb b 35) in
    let end : c.count-end.result ≡ before 35 line =
    count_from_yields_List c.take_while.result _ c.count-end.ensures.ran (YieldsList-from_take_while _ code_byte (YieldsList-from_slice line cc) c.take_while.ensures.closure c.take_while.ensures.done (λ x b q k. search (rules, tests))) ∙ length-prefix_len code_byte line in
    ap (λ n. take n line) end
