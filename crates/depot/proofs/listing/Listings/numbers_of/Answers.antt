use Rattle.std.proofs.Common.{sym, ap, ◌∙◌, rules, tests}
use Rattle.std.specs.List.{flat_map}
use Rattle.std.specs.Slice.Iter.{iter_rest}
use Rattle.std.specs.Iterator.Adapters.{filter_source, filter_callee}
use Rattle.std.proofs.lemmas.Iterator.{YieldsList-from_slice}
use Rattle.std.proofs.lemmas.Iterator.Consumers.{YieldsList-from_filter, YieldsList-end}
use Rattle.std.proofs.lemmas.List.Folds.{flat_map-map}
use Rattle.depot.proofs.Gathering.{of, numbers, listed_in}
use Rattle.depot.proofs.Naming.{same_part}
use Rattle.depot.proofs.listing.Listings.numbers_of.Goals as goal

pub returns : goal.returns
returns c =
    let es = c.args.self.now.lines.items in
    let same = c.into_iter-listing-iterator.ensures.into_iter_gives in
    let rest = ap (λ s. iter_rest (filter_source s)) same ∙ ap iter_rest c.filter-listing-items.ensures.source ∙ c.iter.ensures.rest ∙ c.deref.ensures.value in
    let all = YieldsList-end (YieldsList-from_filter {s = c.into_iter-listing-iterator.result} _ (of c.args.part) (YieldsList-from_slice es rest) (ap filter_callee same ∙ c.filter-listing-items.ensures.closure) (λ x b q k. (search (rules, tests), same_part x.now.part c.args.part b (λ e. search (rules, tests), λ e. search (rules, tests))))) c.loop-listing.yielded c.loop-listing.listing-iterator c.loop-listing.yielded_by _ _ c.in-None.is c.next.ensures.steps in
    c.loop-listing.invariant ∙ sym (flat_map-map numbers (λ x. x.now) c.loop-listing.yielded) ∙ ap (flat_map numbers) all.0 ∙ listed_in c.args.part es
