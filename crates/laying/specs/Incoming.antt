-- The arcs that lead into a junction, from the last to the first, inside the crate.
use Rattle.std.specs.Prelude.{◌≡◌, ℕ, zero, suc, ◌<◌, if◌then◌else◌, Some, None, Option, ◌==◌, slice_index_or}
use Rattle.network.specs.Model.{Roads}
use Rattle.laying.specs.declared.incoming.IncomingArc.{IncomingArc}
use Rattle.laying.specs.declared.incoming.IncomingArcs.{IncomingArcs}

-- the last arc below n that leads into v
unfoldable pub last_into : (head : ℕ → ℕ) → (v n : ℕ) → Option ℕ
last_into head v zero = None
last_into head v (suc a) = if head a == v then Some a else last_into head v a

-- the arc that stands for none
abbrev pub no_arc : IncomingArc
no_arc = record { tail = 0; before = None }

-- the last arc into each junction, and each arc's tail and the last arc before it into the same junction
pub record Links (m : Roads) (i : IncomingArcs) : Type 0 where
  pub last : (v : ℕ) → v < m.junctions → slice_index_or i.last v None ≡ last_into m.head v m.arcs
  pub tail : (a : ℕ) → a < m.arcs → (slice_index_or i.arcs a no_arc).tail ≡ m.tail a
  pub before : (a : ℕ) → a < m.arcs → (slice_index_or i.arcs a no_arc).before ≡ last_into m.head (m.head a) a
