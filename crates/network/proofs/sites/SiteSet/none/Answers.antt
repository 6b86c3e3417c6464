use Rattle.std.proofs.Common.{false, ltb, get_or, replicate, ⊎_elim}
use Rattle.std.proofs.lemmas.List.{get_or-replicate}
use Rattle.std.proofs.lemmas.Bool.{and_left, and_right, cases_lt, le-ltb}
use Rattle.network.proofs.sites.SiteSet.none.Goals as goal

pub returns : goal.returns
returns c k =
    ⊎_elim
    (λ l. and_right (ltb k 64) (get_or (replicate 64 false) k false) (get_or-replicate 64 k false false l))
    (λ l. and_left (ltb k 64) (get_or (replicate 64 false) k false) (le-ltb k 64 l))
    (cases_lt k 64)
