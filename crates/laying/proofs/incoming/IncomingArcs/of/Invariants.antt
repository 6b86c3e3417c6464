use Rattle.std.proofs.Common.{◌≡◌, ℕ, ◌<◌, None, length, slice_index_or}
use Rattle.laying.specs.Incoming.{last_into, no_arc}
use Rattle.laying.proofs.incoming.IncomingArcs.of.Given as goal

-- the arcs so far are linked
abbrev pub invariant-loop-arc : goal.invariant-loop-arc
invariant-loop-arc g l =
    let m = g.N.Network.roads l.roads in
    (length l.incoming.last ≡ 4096)
    × (length l.incoming.arcs ≡ 16384)
    × ((v : ℕ) → v < m.junctions → slice_index_or l.incoming.last v None ≡ last_into m.head v l.arc)
    × ((a : ℕ) → a < l.arc → (slice_index_or l.incoming.arcs a no_arc).tail ≡ m.tail a)
    × ((a : ℕ) → a < l.arc → (slice_index_or l.incoming.arcs a no_arc).before ≡ last_into m.head (m.head a) a)
