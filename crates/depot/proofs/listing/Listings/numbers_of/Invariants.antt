use Rattle.std.proofs.Common.{◌≡◌, vec_items}
use Rattle.std.specs.List.{flat_map}
use Rattle.depot.proofs.Gathering.{numbers}
use Rattle.depot.proofs.listing.Listings.numbers_of.Given as goal

abbrev pub invariant-loop-listing : goal.invariant-loop-listing
invariant-loop-listing l = vec_items l.found ≡ flat_map (λ x. numbers x.now) l.yielded
