-- Closures and detours keep the rules of what they stand over. Assumes nothing.
use Rattle.std.proofs.Common.{◌≡◌, ℕ, ◌<◌, ◌≤◌, Bool, true, false, cond, List, [], ◌∷◌, Some, None, Option, sym, refl, ap, ◌∙◌, arith}
use Rattle.network.specs.Estimates.{Estimate, Admissible, Keeps}
use Rattle.network.specs.First.{onward}
use Rattle.network.specs.Laws.{WellFormed, Lawful}
use Rattle.network.specs.Layers.{carrying, closed, detoured, stands, units_of, lengthened, Layer, closures, detours, layered, pile}
use Rattle.network.specs.Model.{Roads}
use Rattle.network.specs.Piles.{PilesKeepTheRules}
use Rattle.network.specs.Paths.{Chain, along}
use Rattle.network.proofs.First.{clash}
use Rattle.network.proofs.Following.{onward_from, onward_at, some_same}

-- another carrying, which carries no earlier than m does
module _ (m : Roads) (ok : WellFormed m) (law : Lawful m) (carry : ℕ → ℕ → Option ℕ) (later : (a h q : ℕ) → m.reads h ≡ true → carry a h ≡ Some q → (p : ℕ) × (m.carry a h ≡ Some p) × (p ≤ q)) (reads : (a h q : ℕ) → m.reads h ≡ true → carry a h ≡ Some q → m.reads q ≡ true) (nowhere : (a h : ℕ) → m.arcs ≤ a → carry a h ≡ None) where
  along_later : (arcs : List ℕ) (v w g h q : ℕ) → Chain (carrying carry m) v arcs w → m.reads g ≡ true → m.reads h ≡ true → g ≤ h → along (carrying carry m) h arcs ≡ Some q → Chain m v arcs w × ((p : ℕ) × (along m g arcs ≡ Some p) × (p ≤ q))
  along_later [] v w g h q c rg rh l e = (c, (g, refl, (let z = some_same (Some h) h q refl e in omega arith)))
  along_later (a ∷ arcs) v w g h q c rg rh l e =
      let s = onward_from (carry a h) (λ x. along (carrying carry m) x arcs) q e in
      let b = later a h s.0 rh s.1 in
      let k = law.keeps_order a g h b.0 c.0 rg rh l b.1 in
      let r = along_later arcs (m.head a) w k.0 s.0 q c.2 (ok.carry_reads a g k.0 rg k.1) (reads a h s.0 rh s.1) (let x = k.2 in let y = b.2 in omega arith) s.2 in
      ((c.0, c.1, r.0), (r.1.0, onward_at (m.carry a g) (λ x. along m x arcs) k.0 k.1 ∙ r.1.1, r.1.2))

  pub later_wellformed : WellFormed (carrying carry m)
  later_wellformed = record {
    some_junction = ok.some_junction;
    few_junctions = ok.few_junctions;
    few_arcs = ok.few_arcs;
    few_sites = ok.few_sites;
    tail_within = ok.tail_within;
    head_within = ok.head_within;
    place_within = ok.place_within;
    no_such_arc = nowhere;
    low = ok.low;
    start_reads = ok.start_reads;
    carry_reads = reads;
    lengthen_reads = ok.lengthen_reads;
  }

  pub later_lawful : ((a g h q : ℕ) → a < m.arcs → m.reads g ≡ true → m.reads h ≡ true → g ≤ h → carry a h ≡ Some q → (p : ℕ) × (carry a g ≡ Some p) × (p ≤ q)) → Lawful (carrying carry m)
  later_lawful order = record {
    rises = λ a h q l r e. let b = later a h q r e in let k = law.rises a h b.0 l r b.1 in let n = b.2 in omega arith;
    keeps_order = order;
    lengthens = law.lengthens;
    lengthens_in_order = law.lengthens_in_order;
  }

  pub later_admissible : (estimate : Estimate) → Admissible m estimate → Admissible (carrying carry m) estimate
  later_admissible estimate adm = record {
    no_such_junction = adm.no_such_junction;
    estimate_reads = adm.estimate_reads;
    not_less = adm.not_less;
    not_greater = λ v h s q wanted arcs l r k t path.
        let p = along_later arcs v (m.place s) h h q path.0 r r (omega arith) path.1 in
        let e = adm.not_greater v h s p.1.0 wanted arcs l r k t (p.0, p.1.1) in
        (e.0, e.1, let x = e.2 in let y = p.1.2 in omega arith);
  }

open_arc : (b : Bool) (o : Option ℕ) (q : ℕ) → cond b None o ≡ Some q → (b ≡ false) × (o ≡ Some q)
open_arc true o q e = clash (Some q) q refl (sym e)
open_arc false o q e = (refl, e)

closed_none : (b : Bool) (o : Option ℕ) → o ≡ None → cond b None o ≡ None
closed_none true o e = refl
closed_none false o e = e

module _ (m : Roads) (ok : WellFormed m) (law : Lawful m) (arcs : List ℕ) where
  abbrev closed_carry : ℕ → ℕ → Option ℕ
  closed_carry a h = cond (stands (λ b. b) arcs a) None (m.carry a h)

  closed_later : (a h q : ℕ) → m.reads h ≡ true → closed_carry a h ≡ Some q → (p : ℕ) × (m.carry a h ≡ Some p) × (p ≤ q)
  closed_later a h q r e = (q, (open_arc (stands (λ b. b) arcs a) (m.carry a h) q e).1, omega arith)

  closed_reads : (a h q : ℕ) → m.reads h ≡ true → closed_carry a h ≡ Some q → m.reads q ≡ true
  closed_reads a h q r e = ok.carry_reads a h q r (open_arc (stands (λ b. b) arcs a) (m.carry a h) q e).1

  closed_nowhere : (a h : ℕ) → m.arcs ≤ a → closed_carry a h ≡ None
  closed_nowhere a h l = closed_none (stands (λ b. b) arcs a) (m.carry a h) (ok.no_such_arc a h l)

  closed_order : (a g h q : ℕ) → a < m.arcs → m.reads g ≡ true → m.reads h ≡ true → g ≤ h → closed_carry a h ≡ Some q → (p : ℕ) × (closed_carry a g ≡ Some p) × (p ≤ q)
  closed_order a g h q l rg rh n e =
      let o = open_arc (stands (λ b. b) arcs a) (m.carry a h) q e in
      let k = law.keeps_order a g h q l rg rh n o.1 in
      (k.0, ap (λ b. cond b None (m.carry a g)) o.0 ∙ k.1, k.2)

  pub closed_wellformed : WellFormed (closed arcs m)
  closed_wellformed = later_wellformed m ok law closed_carry closed_later closed_reads closed_nowhere

  pub closed_lawful : Lawful (closed arcs m)
  closed_lawful = later_lawful m ok law closed_carry closed_later closed_reads closed_nowhere closed_order

  pub closed_admissible : (estimate : Estimate) → Admissible m estimate → Admissible (closed arcs m) estimate
  closed_admissible = later_admissible m ok law closed_carry closed_later closed_reads closed_nowhere

module _ (m : Roads) (ok : WellFormed m) (law : Lawful m) where
  -- on a detour: what arrived below, and what it was lengthened to
  detour_later : (u : Option ℕ) (o : Option ℕ) (q : ℕ) → ((x : ℕ) → o ≡ Some x → m.reads x ≡ true) → lengthened m.lengthen u o ≡ Some q → (p : ℕ) × (o ≡ Some p) × (p ≤ q) × (m.reads q ≡ true)
  detour_later None o q r e = (q, e, omega arith, r q e)
  detour_later (Some u) o q r e =
      let s = onward_from o (m.lengthen u) q e in
      (s.0, s.1, law.lengthens u s.0 q (r s.0 s.1) s.2, ok.lengthen_reads u s.0 q (r s.0 s.1) s.2)

  detour_order : (u : Option ℕ) (a g h q : ℕ) → a < m.arcs → m.reads g ≡ true → m.reads h ≡ true → g ≤ h → lengthened m.lengthen u (m.carry a h) ≡ Some q → (p : ℕ) × (lengthened m.lengthen u (m.carry a g) ≡ Some p) × (p ≤ q)
  detour_order None a g h q l rg rh n e = law.keeps_order a g h q l rg rh n e
  detour_order (Some u) a g h q l rg rh n e =
      let s = onward_from (m.carry a h) (m.lengthen u) q e in
      let k = law.keeps_order a g h s.0 l rg rh n s.1 in
      let t = law.lengthens_in_order u k.0 s.0 q (ok.carry_reads a g k.0 rg k.1) (ok.carry_reads a h s.0 rh s.1) k.2 s.2 in
      (t.0, onward_at (m.carry a g) (m.lengthen u) k.0 k.1 ∙ t.1, t.2)

  detour_none : (u : Option ℕ) (o : Option ℕ) → o ≡ None → lengthened m.lengthen u o ≡ None
  detour_none None o e = e
  detour_none (Some u) o e = ap (λ p. onward p (m.lengthen u)) e

  module _ (ds : List (ℕ × ℕ)) where
    abbrev detoured_carry : ℕ → ℕ → Option ℕ
    detoured_carry a h = lengthened m.lengthen (units_of ds a) (m.carry a h)

    detoured_later : (a h q : ℕ) → m.reads h ≡ true → detoured_carry a h ≡ Some q → (p : ℕ) × (m.carry a h ≡ Some p) × (p ≤ q)
    detoured_later a h q r e = let d = detour_later (units_of ds a) (m.carry a h) q (λ x. ok.carry_reads a h x r) e in (d.0, d.1, d.2)

    detoured_reads : (a h q : ℕ) → m.reads h ≡ true → detoured_carry a h ≡ Some q → m.reads q ≡ true
    detoured_reads a h q r e = (detour_later (units_of ds a) (m.carry a h) q (λ x. ok.carry_reads a h x r) e).3

    detoured_nowhere : (a h : ℕ) → m.arcs ≤ a → detoured_carry a h ≡ None
    detoured_nowhere a h l = detour_none (units_of ds a) (m.carry a h) (ok.no_such_arc a h l)

    pub detoured_wellformed : WellFormed (detoured ds m)
    detoured_wellformed = later_wellformed m ok law detoured_carry detoured_later detoured_reads detoured_nowhere

    pub detoured_lawful : Lawful (detoured ds m)
    detoured_lawful = later_lawful m ok law detoured_carry detoured_later detoured_reads detoured_nowhere (λ a. detour_order (units_of ds a) a)

    pub detoured_admissible : (estimate : Estimate) → Admissible m estimate → Admissible (detoured ds m) estimate
    detoured_admissible = later_admissible m ok law detoured_carry detoured_later detoured_reads detoured_nowhere

-- and so does any pile of layers
pub layered_keeps : (l : Layer) (m : Roads) (estimate : Estimate) → Keeps m estimate → Keeps (layered l m) estimate
layered_keeps (closures arcs) m estimate k = record {
  wellformed = closed_wellformed m k.wellformed k.lawful arcs;
  lawful = closed_lawful m k.wellformed k.lawful arcs;
  admissible = closed_admissible m k.wellformed k.lawful arcs estimate k.admissible;
}
layered_keeps (detours ds) m estimate k = record {
  wellformed = detoured_wellformed m k.wellformed k.lawful ds;
  lawful = detoured_lawful m k.wellformed k.lawful ds;
  admissible = detoured_admissible m k.wellformed k.lawful ds estimate k.admissible;
}

pub pile_keeps : PilesKeepTheRules
pile_keeps [] m estimate k = k
pile_keeps (l ∷ ls) m estimate k = layered_keeps l (pile ls m) estimate (pile_keeps ls m estimate k)
