-- Each turn settles one entry more.
use Rattle.std.proofs.Common.{◌≡◌, Some, None, sym, ◌∙◌, subst}
use Rattle.queue.specs.Keys.{key_before}
use Rattle.queue.specs.Waiting.{least_of}
use Rattle.rows.specs.Index.{entry_at}
use Rattle.laying.specs.Costs.{cost_by}
use Rattle.laying.specs.Search.{rows_of, settled_of, keys_of}
use Rattle.laying.proofs.Settlings.{defined}
use Rattle.laying.proofs.Ending.{next_is, all_settled, none_left, less_left}
use Rattle.laying.proofs.search.Search.settle_all.Goals as goal

pub returns-clause-rows : goal.returns-clause-rows
returns-clause-rows g c =
    let m = g.N.Network.roads c.args.roads.now in
    let s = c.loop-key.self in
    let i = c.loop-key.invariant in
    defined m (cost_by c.args.costs.now) s.most 172800 (rows_of s) (settled_of s) (g.met.N.Network.wellformed c.args.roads.now).head_within (λ a l. (c.requires.costs.within a l).0) i.2
    (all_settled (keys_of s) s.rows.items s.settled m.junctions i.3 i.0.rows (subst (λ n. least_of key_before (keys_of s) n ≡ None) i.0.queue (sym c.take_least.ensures.least ∙ c.in_default.is)) i.2.state.within)

pub returns-clause-idle : goal.returns-clause-idle
returns-clause-idle g c v =
    let m = g.N.Network.roads c.args.roads.now in
    let s = c.loop-key.self in
    let i = c.loop-key.invariant in
    let all = all_settled (keys_of s) s.rows.items s.settled m.junctions i.3 i.0.rows (subst (λ n. least_of key_before (keys_of s) n ≡ None) i.0.queue (sym c.take_least.ensures.least ∙ c.in_default.is)) i.2.state.within in
    c.in_default.ensures.without v ∙ none_left (keys_of s) s.rows.items s.settled m.junctions i.3 i.0.rows all v

pub settle-requires-clause-there : goal.settle-requires-clause-there
settle-requires-clause-there g c =
    let m = g.N.Network.roads c.args.roads.now in
    let s = c.loop-key.self in
    let i = c.loop-key.invariant in
    (next_is (keys_of s) s.rows.items s.settled m.junctions i.3 i.0.rows c.in-Some.key (subst (λ n. least_of key_before (keys_of s) n ≡ Some c.in-Some.key) i.0.queue (sym c.in-Some.ensures.least))).0

pub settle-requires-clause-next : goal.settle-requires-clause-next
settle-requires-clause-next g c =
    let m = g.N.Network.roads c.args.roads.now in
    let s = c.loop-key.self in
    let i = c.loop-key.invariant in
    (next_is (keys_of s) s.rows.items s.settled m.junctions i.3 i.0.rows c.in-Some.key (subst (λ n. least_of key_before (keys_of s) n ≡ Some c.in-Some.key) i.0.queue (sym c.in-Some.ensures.least))).1

pub loop-key-smaller : goal.loop-key-smaller
loop-key-smaller g c =
    let m = g.N.Network.roads c.args.roads.now in
    let s = c.loop-key.self in
    let t = c.settle.new.self in
    let i = c.loop-key.invariant in
    let v = c.in-Some.key.junction in
    let next = next_is (keys_of s) s.rows.items s.settled m.junctions i.3 i.0.rows c.in-Some.key (subst (λ n. least_of key_before (keys_of s) n ≡ Some c.in-Some.key) i.0.queue (sym c.in-Some.ensures.least)) in
    less_left m (cost_by c.args.costs.now) s.most t.most 172800 m.junctions v (rows_of s) (settled_of s) (settled_of t) (entry_at (rows_of s v) (settled_of s v)) c.settle.ensures.most next.0 i.2 next.1 c.settle.ensures.settled
