use Rattle.std.proofs.Common.{◌≡◌, ◌+◌, ◌<◌, ◌≤◌, get_or, vec_items, sym, ap, ◌∙◌, subst, ⊎_elim, arith}
use Rattle.std.specs.Bool.{then_some}
use Rattle.std.proofs.lemmas.Bool.{lt-ltb, le-ltb, cases_lt}
use Rattle.std.proofs.lemmas.List.{get_or_read}
use Rattle.network.proofs.Refusing.{streets_arcs}
use Rattle.network.proofs.Tails.{leaves, leaves_none, tail_says}
use Rattle.network.proofs.lists.Streets.next_arc.Goals as goal

pub overflow_sub-len : goal.overflow_sub-len
overflow_sub-len c = let ok = streets_arcs c.args.self.now in let e = c.args.self.now.starts.ok.0 in omega arith

pub returns-then-v-len : goal.returns-then-v-len
returns-then-v-len c =
    let s = c.args.self.now in
    let e = s.starts.ok.0 in
    sym
    (leaves_none (vec_items s.starts) (vec_items s.heads) (streets_arcs s) c.args.junction c.args.from
    (λ a l k p. let t = tail_says (vec_items s.starts) (vec_items s.heads) (streets_arcs s) a l in omega arith))

pub returns : goal.returns
returns c =
    let s = c.args.self.now in
    let e = s.starts.ok.0 in
    let starts = vec_items s.starts in
    let low : c.index.result.now ≡ get_or starts c.args.junction 0 = get_or_read starts c.args.junction c.index.result.now (omega arith) c.index.ensures 0 in
    let high : c.index-2.result.now ≡ get_or starts (c.args.junction + 1) 0 = get_or_read starts (c.args.junction + 1) c.index-2.result.now (omega arith) c.index-2.ensures 0 in
    let m = c.max-arc.ensures in
    c.then_some.ensures ∙ ⊎_elim
    (λ l. ap (λ b. then_some b c.max-arc.result) (lt-ltb c.max-arc.result c.index-2.result.now l)
    ∙ sym (leaves starts (vec_items s.heads) (streets_arcs s) c.args.junction c.args.from c.max-arc.result (omega arith) (omega arith) (omega arith) (λ b h k. omega arith) (omega arith)))
    (λ g. ap (λ b. then_some b c.max-arc.result) (le-ltb c.max-arc.result c.index-2.result.now g)
    ∙ sym (leaves_none starts (vec_items s.heads) (streets_arcs s) c.args.junction c.args.from
    (λ a l k p.
    let t = tail_says starts (vec_items s.heads) (streets_arcs s) a l in
    let below : get_or starts c.args.junction 0 ≤ a = subst (λ v. get_or starts v 0 ≤ a) p t.1 in
    let above : a < get_or starts (c.args.junction + 1) 0 = subst (λ v. a < get_or starts (v + 1) 0) p t.2 in
    omega arith)))
    (cases_lt c.max-arc.result c.index-2.result.now)
