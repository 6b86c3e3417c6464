use Rattle.std.proofs.Common.{rules}
use Rattle.std.proofs.lemmas.Iterator.{YieldsList-from_slice}
use Rattle.tracing.proofs.Folded.{folded}
use Rattle.tracing.proofs.drive.drive.Goals as goal

pub returns : goal.returns
returns g c =
    let height = g.N.Network.height c.args.network.now in
    let m = g.N.Network.roads c.args.network.now in
    folded _ _ _ height m (λ b x v f' called. search rules) _ _ _ _ _ _ (YieldsList-from_slice c.args.arcs.now c.iter.ensures.rest) c.try_fold.ensures.ran
