use Rattle.std.proofs.Common.{◌≡◌, ◌+◌, ◌-◌, ◌<◌, ◌≤◌, ltb, length, Some, vec_items, sym, ap, ◌∙◌, subst, arith}
use Rattle.std.proofs.lemmas.Bool.{lt-ltb}
use Rattle.network.specs.Lists.{LowerBound, tail_of}
use Rattle.network.proofs.First.{provided_true}
use Rattle.network.proofs.Refusing.{streets_arcs}
use Rattle.network.proofs.Tails.{tail_bound}
use Rattle.network.proofs.lists.Streets.tail.Goals as goal

pub overflow_add-arc : goal.overflow_add-arc
overflow_add-arc c = let ok = streets_arcs c.args.self.now in let e = c.args.self.now.heads.ok.0 in omega arith

bound : (c : goal.After-lower_bound-after) → (1 ≤ c.lower_bound-after.result) × (c.lower_bound-after.result < length (vec_items c.args.self.now.starts)) × (tail_of (vec_items c.args.self.now.starts) c.args.arc ≡ c.lower_bound-after.result - 1)
bound c =
    let s = c.args.self.now in
    let e = s.heads.ok.0 in
    tail_bound (vec_items s.starts) (vec_items s.heads) (streets_arcs s) c.args.arc c.lower_bound-after.result (omega arith)
    (subst (λ l. LowerBound l (c.args.arc + 1) c.lower_bound-after.result) c.as_slice.ensures.value c.lower_bound-after.ensures)

pub overflow_sub-result : goal.overflow_sub-result
overflow_sub-result c = (bound c).0

pub overflow_cast-result : goal.overflow_cast-result
overflow_cast-result c = let ok = streets_arcs c.args.self.now in let b = bound c in omega arith

pub returns : goal.returns
returns c =
    let s = c.args.self.now in
    let e = s.heads.ok.0 in
    ap Some (sym (bound c).2) ∙ sym (provided_true (ltb c.args.arc (length (vec_items s.heads))) (tail_of (vec_items s.starts) c.args.arc) (lt-ltb c.args.arc (length (vec_items s.heads)) (omega arith)))
