use Rattle.std.proofs.Common.{Some, None, sym, ap, ◌∙◌}
use Rattle.std.specs.Option.{option_map}
use Rattle.queue.specs.Queues.{waiting}
use Rattle.finder.proofs.Bridges.{keys_updated}
use Rattle.finder.proofs.keys.wait.Goals as goal

pub returns-in_default-clause-keys : goal.returns-in_default-clause-keys
returns-in_default-clause-keys g c =
    keys_updated (waiting c.args.queue.now) (waiting c.remove.new.self) c.args.junction None _ (sym (ap (option_map (g.G.Network.height c.args.guide.now)) c.in_default.is) ∙ c.estimate.ensures) c.remove.ensures.none

pub returns-clause-keys : goal.returns-clause-keys
returns-clause-keys g c =
    keys_updated (waiting c.args.queue.now) (waiting c.set.new.self) c.args.junction (Some (record { height = c.height.result; junction = c.args.junction })) _ (ap Some c.height.ensures ∙ sym (ap (option_map (g.G.Network.height c.args.guide.now)) c.in-Some.is) ∙ c.estimate.ensures) (c.set.ensures.below c.requires.there)
