-- What every kind of roads keeps. Assumes nothing.
use Rattle.std.specs.Prelude.{◌≡◌, ℕ, ◌^◌, ◌<◌, ◌≤◌, true, Some, None}
use Rattle.network.specs.Model.{Roads}

-- The limits on every kind: what is numbered stands within its count, what is not there is answered nothing,
-- and every answer that is a reading has the height of one.
pub record WellFormed (m : Roads) : Type 0 where
  pub some_junction : 1 ≤ m.junctions
  pub few_junctions : m.junctions ≤ 4096
  pub few_arcs : m.arcs ≤ 16384
  pub few_sites : m.sites ≤ 64
  pub tail_within : (a : ℕ) → a < m.arcs → m.tail a < m.junctions
  pub head_within : (a : ℕ) → a < m.arcs → m.head a < m.junctions
  pub place_within : (s : ℕ) → s < m.sites → m.place s < m.junctions
  pub no_such_arc : (a h : ℕ) → m.arcs ≤ a → m.carry a h ≡ None
  pub low : (h : ℕ) → m.reads h ≡ true → h < 2 ^ 48
  pub start_reads : (n h : ℕ) → m.start n ≡ Some h → m.reads h ≡ true
  pub carry_reads : (a h q : ℕ) → m.reads h ≡ true → m.carry a h ≡ Some q → m.reads q ≡ true
  pub lengthen_reads : (u h q : ℕ) → m.reads h ≡ true → m.lengthen u h ≡ Some q → m.reads q ≡ true

-- The laws of carrying and of lengthening, asked at the heights of readings and at arcs that are there.
pub record Lawful (m : Roads) : Type 0 where
  -- a carried reading is greater than the one that entered
  pub rises : (a h q : ℕ) → a < m.arcs → m.reads h ≡ true → m.carry a h ≡ Some q → h < q
  -- who enters no later is carried too and arrives no later
  pub keeps_order : (a g h q : ℕ) → a < m.arcs → m.reads g ≡ true → m.reads h ≡ true → g ≤ h → m.carry a h ≡ Some q → (p : ℕ) × (m.carry a g ≡ Some p) × (p ≤ q)
  -- lengthening never lessens a reading, and keeps the order likewise
  pub lengthens : (u h q : ℕ) → m.reads h ≡ true → m.lengthen u h ≡ Some q → h ≤ q
  pub lengthens_in_order : (u g h q : ℕ) → m.reads g ≡ true → m.reads h ≡ true → g ≤ h → m.lengthen u h ≡ Some q → (p : ℕ) × (m.lengthen u g ≡ Some p) × (p ≤ q)
