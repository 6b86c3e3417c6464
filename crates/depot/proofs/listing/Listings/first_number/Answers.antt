use Rattle.std.proofs.Common.{ap, ◌∙◌, rules, tests}
use Rattle.std.specs.Option.{option_and_then}
use Rattle.std.specs.Slice.Iter.{iter_rest}
use Rattle.std.proofs.lemmas.Iterator.{YieldsList-from_slice}
use Rattle.std.proofs.lemmas.Iterator.Consumers.{YieldsList-from_filter}
use Rattle.std.proofs.lemmas.Iterator.Search.{find_from_yields_List}
use Rattle.depot.specs.Depots.{first}
use Rattle.depot.proofs.Gathering.{of, filled, numbers, first_in, and_then_is, now_and_then}
use Rattle.depot.proofs.Naming.{same_part}
use Rattle.depot.proofs.listing.Listings.first_number.Goals as goal

pub returns : goal.returns
returns c =
    let es = c.args.self.now.lines.items in
    let rest = ap iter_rest c.filter.ensures.source ∙ c.iter.ensures.rest ∙ c.deref.ensures.value in
    let found = find_from_yields_List filled _ _ c.find.result c.find.ensures.ran (YieldsList-from_filter _ (of c.args.part) (YieldsList-from_slice es rest) c.filter.ensures.closure (λ x b q k. (search (rules, tests), same_part x.now.part c.args.part b (λ e. search (rules, tests), λ e. search (rules, tests))))) (λ x b q k. search (rules, tests)) in
    let own = and_then_is (λ x. first (numbers x.now)) _ c.find.result c.and_then.result c.and_then.ensures (λ x p. search rules) in
    own ∙ now_and_then (λ e. first (numbers e)) c.find.result ∙ ap (option_and_then (λ e. first (numbers e))) found ∙ first_in c.args.part es
