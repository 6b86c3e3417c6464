use Rattle.std.proofs.Common.{get_or, refl, ◌∙◌, arith}
use Rattle.network.specs.Sets.{has}
use Rattle.console.proofs.Naming.{none_named, one_named, all_named}
use Rattle.console.proofs.estimates.set_of.Goals as goal

pub loop-site-init : goal.loop-site-init
loop-site-init c = λ s. c.none-set.ensures s ∙ none_named c.args.sites.now s

pub loop-site-preserved : goal.loop-site-preserved
loop-site-preserved c =
    let i = c.loop-site.site-index in
    one_named c.args.sites.now i (get_or c.args.sites.now i 0) c.loop-site-test.true refl (has c.loop-site.set) (has c.insert.new.self) c.loop-site.invariant c.insert.ensures

pub returns : goal.returns
returns c = λ s. c.loop-site.invariant s ∙ all_named c.args.sites.now c.loop-site.site-index (omega arith) s
