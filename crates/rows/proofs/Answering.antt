-- The estimate by lists that are the index is admissible. Assumes nothing.
use Rattle.std.proofs.Common.{◌≡◌, ℕ, ◌+◌, ◌<◌, ◌≤◌, leb, List, Some, None, Option, arith}
use Rattle.network.specs.Estimates.{Admissible}
use Rattle.network.specs.Laws.{WellFormed, Lawful}
use Rattle.network.specs.Model.{Roads}
use Rattle.rows.specs.Guided.{guided_estimate}
use Rattle.rows.specs.Index.{LeastIndex, row_in}
use Rattle.rows.proofs.Guiding.{Cuts, guided_admissible}
use Rattle.rows.proofs.Reading.{rows_defined}

pub index_admissible : (m : Roads) (ok : WellFormed m) (law : Lawful m) (reads : (h : ℕ) → m.reads h ≡ leb h 172800) (late : (a h : ℕ) → 86400 < h → m.carry a h ≡ None) (segments : ℕ) (first end : ℕ → ℕ) (segment_at : ℕ → Option ℕ) (cuts : Cuts segments first end segment_at) (f : ℕ → ℕ → ℕ) (low : (i a t q : ℕ) → i < segments → a < m.arcs → first i ≤ t → t < end i → m.carry a t ≡ Some q → t + f i a ≤ q) (C : ℕ) (sites times : List ℕ) → LeastIndex m segments C f sites times → Admissible m (guided_estimate m segment_at end C (row_in m.junctions C sites times))
index_admissible m ok law reads late segments first end segment_at cuts f low C sites times x =
    let few = ok.few_sites in
    guided_admissible m ok law reads late segments first end segment_at cuts f low C (row_in m.junctions C sites times)
    (rows_defined m (omega arith) ok.head_within segments C f sites times x)
