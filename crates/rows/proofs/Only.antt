-- One list of rows alone is that of the least sums, and one index.
use Rattle.std.proofs.Common.{ℕ, List}
use Rattle.network.specs.Model.{Roads}
use Rattle.rows.specs.Index.{LeastIndex, IsOnlyIndex}
use Rattle.rows.specs.Rows.{Defined, IsOnlyDefined}
use Rattle.rows.specs.declared.entry.Entry.{Entry}
use Rattle.rows.proofs.Existence.{defined_once}
use Rattle.rows.proofs.Places.{index_same, one_index}

pub only_defined : (m : Roads) (f : ℕ → ℕ) (C : ℕ) (rows : ℕ → List Entry) → Defined m f C rows → IsOnlyDefined m f C rows
only_defined m f C rows d others e = defined_once m f C others rows e d

pub only_index : (m : Roads) (segments C : ℕ) (f : ℕ → ℕ → ℕ) (sites times : List ℕ) → LeastIndex m segments C f sites times → IsOnlyIndex m segments C f sites times
only_index m segments C f sites times x others since y =
    one_index segments m.junctions C x.0 others since sites times
    (index_same segments m.junctions C y.0 x.0 others since (λ i v l k. defined_once m (f i) C (y.0 i) (x.0 i) (y.1 i l) (x.1 i l) v k) y.2)
    x.2
