-- Readings along a list of arcs. Assumes nothing.
use Rattle.std.proofs.Common.{◌≡◌, ℕ, ◌≤◌, Bool, true, false, ltb, List, [], ◌∷◌, Some, None, Option, sym, refl, ap, ◌∙◌, arith}
use Rattle.std.proofs.lemmas.Bool.{lt-ltb, le-ltb}
use Rattle.network.specs.Estimates.{Admissible, reading_itself}
use Rattle.network.specs.First.{onward, provided}
use Rattle.network.specs.Laws.{WellFormed, Lawful}
use Rattle.network.specs.Model.{Roads}
use Rattle.network.specs.Paths.{Chain, along}
use Rattle.network.proofs.First.{clash, provided_true, provided_false}

-- the answer that `onward` started from
pub onward_from : {X Y : Type 0} (o : Option X) (g : X → Option Y) (y : Y) → onward o g ≡ Some y → (x : X) × (o ≡ Some x) × (g x ≡ Some y)
onward_from None g y e = clash (Some y) y refl (sym e)
onward_from (Some x) g y e = (x, refl, e)

pub onward_at : {X Y : Type 0} (o : Option X) (g : X → Option Y) (x : X) → o ≡ Some x → onward o g ≡ g x
onward_at o g x e = ap (λ p. onward p g) e

pub some_same : {X : Type 0} (o : Option X) (x y : X) → o ≡ Some x → o ≡ Some y → x ≡ y
some_same o x y p q = cc

-- the value of a provided answer, and that its test passed
pub provided_says : {X : Type 0} (b : Bool) (x y : X) → provided b x ≡ Some y → (b ≡ true) × (x ≡ y)
provided_says true x y e = (refl, some_same (Some x) x y refl e)
provided_says false x y e = clash (Some y) y refl (sym e)

module _ (m : Roads) (ok : WellFormed m) (law : Lawful m) where
  -- a reading is never lessened along a chain
  pub along_rises : (arcs : List ℕ) (v w h q : ℕ) → Chain m v arcs w → m.reads h ≡ true → along m h arcs ≡ Some q → h ≤ q
  along_rises [] v w h q c r e = let z = some_same (Some h) h q refl e in omega arith
  along_rises (a ∷ arcs) v w h q c r e =
      let s = onward_from (m.carry a h) (λ x. along m x arcs) q e in
      let k = law.rises a h s.0 c.0 r s.1 in
      let n = along_rises arcs (m.head a) w s.0 q c.2 (ok.carry_reads a h s.0 r s.1) s.2 in
      omega arith

  pub reading_admissible : Admissible m (reading_itself m)
  reading_admissible = record {
    no_such_junction = λ v h wanted l. provided_false (ltb v m.junctions) h (le-ltb v m.junctions l);
    estimate_reads = λ v h e wanted r p. let q = provided_says (ltb v m.junctions) h e p in ap m.reads (sym q.1) ∙ r;
    not_less = λ v h e wanted r p. let q = (provided_says (ltb v m.junctions) h e p).1 in omega arith;
    not_greater = λ v h s q wanted arcs l r k t path. (h, provided_true (ltb v m.junctions) h (lt-ltb v m.junctions l), along_rises arcs v (m.place s) h q path.0 r path.1);
  }
