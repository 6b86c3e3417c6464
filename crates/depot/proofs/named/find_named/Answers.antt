use Rattle.std.proofs.Common.{Bool, ◌∙◌, rules, tests}
use Rattle.std.specs.Str.{bytes_eq}
use Rattle.std.proofs.lemmas.Iterator.{YieldsList-from_slice}
use Rattle.std.proofs.lemmas.Iterator.Search.{find_from_yields_List}
use Rattle.depot.proofs.named.find_named.Goals as goal

pub returns : goal.returns
returns g c =
    let all = c.args.all.now in
    let test : g.row.T.Denot → Bool = λ x. bytes_eq c.args.name.now (g.T.Named.called x) in
    let found = find_from_yields_List test _ _ c.find.result c.find.ensures.ran (YieldsList-from_slice all (cc)) (λ x b q k. search (rules, tests)) in
    c.copied.ensures ∙ found
