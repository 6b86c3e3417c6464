use Rattle.std.proofs.Common.{ℕ, Bool, ◌&&◌, nat_le, arith, rules, tests}
use Rattle.std.proofs.lemmas.Bool.Decides.{nat_tests}
use Rattle.std.proofs.lemmas.Iterator.{YieldsList-from_slice}
use Rattle.std.proofs.lemmas.Iterator.Search.{all_from_yields_List}
use Rattle.length.specs.Metres.{measured}
use Rattle.length.specs.Measured.{all_is_every}
use Rattle.length.proofs.examining.metres_fit.Goals as goal

pub returns-then-metres-arcs : goal.returns-then-metres-arcs
unfolding measured
returns-then-metres-arcs c =
    let fits : ℕ → Bool = λ m. nat_le 1 m && nat_le m 1000000 in
    let all = all_from_yields_List fits _ _ c.all.result c.all.ensures.ran (YieldsList-from_slice c.args.metres.now cc) (λ x b q k. search (rules, tests)) in
    let each = all_is_every fits c.args.metres.now in
    grind (arith, nat_tests)

pub returns-else-metres-arcs : goal.returns-else-metres-arcs
unfolding measured
returns-else-metres-arcs c = grind (arith, nat_tests)
