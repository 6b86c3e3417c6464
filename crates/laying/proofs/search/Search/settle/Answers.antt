-- The entry is settled, and then relaxed along one arc after the other.
use Rattle.std.proofs.Common.{◌≡◌, ◌+◌, ◌<◌, ◌≤◌, length, get_or, Some, refl, sym, ap, ◌∙◌, subst, arith}
use Rattle.std.specs.List.{slice_get}
use Rattle.std.proofs.lemmas.List.{length-set}
use Rattle.rows.specs.Index.{entry_at}
use Rattle.rows.specs.Nearest.{entry}
use Rattle.laying.specs.Costs.{cost_by}
use Rattle.laying.specs.Incoming.{last_into, no_arc}
use Rattle.laying.specs.Search.{IsSized, key_of, keys_of, rows_of, settled_of}
use Rattle.laying.proofs.Linking.{last_says}
use Rattle.laying.proofs.Settlings.{IsRelaxing, rest, relaxed_one, relaxed_same}
use Rattle.laying.proofs.Stepping.{items, numbers, read_entry, one_counted, settled_more, queued_after, started, as_relaxed, fits_32, fewer_left}
use Rattle.laying.proofs.search.Search.settle.Goals as goal

pub loop-next-init : goal.loop-next-init
loop-next-init g c =
    let m = g.N.Network.roads c.args.roads.now in
    let f = cost_by c.args.costs.now in
    let s = c.args.self.now in
    let t = c.enqueue.new.self in
    let v = c.args.junction in
    let k = settled_of s v in
    let sized = c.requires.sized in
    let rows = c.enqueue.ensures.rows in
    let counts = c.enqueue.ensures.settled in
    let in_rows : v < length s.rows.items = let a = sized.rows in let b = c.requires.there in omega arith in
    let in_counts : v < length s.settled = let a = sized.settled in let b = c.ranges.junction.fits in let d = sized.few in let e = c.requires.there in omega arith in
    let one = one_counted s.settled t.settled v in_counts counts in
    let next = ap (λ l. slice_get (items l v) (numbers t.settled v)) rows ∙ ap (λ l. slice_get (items s.rows.items v) (numbers l v)) counts in (
      record {
        rows = ap length rows ∙ sized.rows;
        few = sized.few;
        short = subst (λ k. k ≤ 8) (sym c.enqueue.ensures.most) sized.short;
        settled = ap length counts ∙ length-set _ _ _ ∙ sized.settled;
        queue = c.enqueue.ensures.capacity ∙ sized.queue;
        most = λ u r e. sized.most u r (subst (λ l. slice_get l u ≡ Some r) rows e) ∙ sym c.enqueue.ensures.most;
      },
      refl,
      refl,
      ap (λ l. entry_at (items l v) k) rows ∙ read_entry s.rows.items c.deref.result.now c.entries.result.now v k c.index-deref-at.result c.deref.ensures.0 (sym c.index-deref-at.is) in_rows c.entries.ensures c.requires.next.there,
      queued_after (keys_of s) (rows_of s) (rows_of t) (settled_of s) (settled_of t) v (λ u d. ap (λ l. items l u) rows) one.1 (keys_of t)
          (c.enqueue.ensures.queued.0 ∙ ap (λ o. key_of o v) (sym next), c.enqueue.ensures.queued.1) c.requires.queued,
      (m.arcs, omega arith, c.requires.links.last v c.requires.there, started m f 172800 s.most t.most s.rows.items t.rows.items s.settled t.settled v (entry_at (rows_of s v) k) rows c.enqueue.ensures.most counts in_counts c.requires.there c.requires.rest c.requires.next),
    )

pub bounds-incoming-arc : goal.bounds-incoming-arc
bounds-incoming-arc g c =
    let m = g.N.Network.roads c.args.roads.now in
    let i = c.loop-next.invariant in
    let l = (last_says m.head c.args.junction i.5.0 c.in-Some.arc (sym i.5.2 ∙ c.in-Some.is)).0 in
    let b = i.5.1 in
    let few = (g.met.N.Network.wellformed c.args.roads.now).few_arcs in
    omega arith

pub bounds-costs-arc : goal.bounds-costs-arc
bounds-costs-arc g c =
    let m = g.N.Network.roads c.args.roads.now in
    let i = c.loop-next.invariant in
    let l = (last_says m.head c.args.junction i.5.0 c.in-Some.arc (sym i.5.2 ∙ c.in-Some.is)).0 in
    let b = i.5.1 in
    let long = c.requires.costs.long in
    omega arith

pub overflow_add-time : goal.overflow_add-time
overflow_add-time g c =
    let m = g.N.Network.roads c.args.roads.now in
    let f = cost_by c.args.costs.now in
    let s = c.args.self.now in
    let i = c.loop-next.invariant in
    let a = c.in-Some.arc in
    let v = c.args.junction in
    let k = settled_of s v in
    let sized = c.requires.sized in
    let next : last_into m.head v i.5.0 ≡ Some a = sym i.5.2 ∙ c.in-Some.is in
    let l = (last_says m.head v i.5.0 a next).0 in
    let b = i.5.1 in
    let there : a < m.arcs = omega arith in
    let high = (c.requires.costs.within a there).1 in
    let in_counts : v < length s.settled = let d = sized.settled in let n = sized.few in let o = c.requires.there in omega arith in
    let x = get_or c.entries.result.now k (entry 0 0) in
    let few = (g.met.N.Network.wellformed c.args.roads.now).few_junctions in
    let count = settled_more s.settled c.loop-next.self.settled v (i.2 ∙ c.enqueue.ensures.settled) in_counts in
    let short : x.time + f a < 4294967296 = fits_32 m f 172800 c.loop-next.self.most v i.5.0 a k (rows_of c.loop-next.self) (settled_of c.loop-next.self) x few (omega arith) i.5.3 next b count i.3 high in
    omega arith

pub offer-requires-clause-there : goal.offer-requires-clause-there
offer-requires-clause-there g c =
    let m = g.N.Network.roads c.args.roads.now in
    let i = c.loop-next.invariant in
    let a = c.in-Some.arc in
    let l = (last_says m.head c.args.junction i.5.0 a (sym i.5.2 ∙ c.in-Some.is)).0 in
    let b = i.5.1 in
    let there : a < m.arcs = omega arith in
    let tail = c.requires.links.tail a there in
    let within = (g.met.N.Network.wellformed c.args.roads.now).tail_within a there in
    let long = i.0.rows in
    omega arith

pub loop-next-smaller : goal.loop-next-smaller
loop-next-smaller g c =
    let m = g.N.Network.roads c.args.roads.now in
    let i = c.loop-next.invariant in
    let a = c.in-Some.arc in
    let v = c.args.junction in
    let says = last_says m.head v i.5.0 a (sym i.5.2 ∙ c.in-Some.is) in
    let l = says.0 in
    let b = i.5.1 in
    let there : a < m.arcs = omega arith in
    fewer_left m.head v a (get_or c.args.incoming.now.arcs a no_arc).before c.loop-next.next c.in-Some.is (c.requires.links.before a there ∙ ap (λ u. last_into m.head u a) says.1)

pub loop-next-preserved : goal.loop-next-preserved
loop-next-preserved g c =
    let m = g.N.Network.roads c.args.roads.now in
    let f = cost_by c.args.costs.now in
    let i = c.loop-next.invariant in
    let first = c.args.self.now in
    let s = c.loop-next.self in
    let t = c.offer.new.self in
    let a = c.in-Some.arc in
    let v = c.args.junction in
    let k = settled_of first v in
    let sized = c.requires.sized in
    let x = get_or c.entries.result.now k (entry 0 0) in
    let next : last_into m.head v i.5.0 ≡ Some a = sym i.5.2 ∙ c.in-Some.is in
    let says = last_says m.head v i.5.0 a next in
    let l = says.0 in
    let b = i.5.1 in
    let there : a < m.arcs = omega arith in
    let within = c.requires.costs.within a there in
    let tail = (get_or c.args.incoming.now.arcs a no_arc).tail in
    let here : m.tail a ≡ tail = sym (c.requires.links.tail a there) in
    let in_counts : v < length first.settled = let d = sized.settled in let n = sized.few in let o = c.requires.there in omega arith in
    let count = settled_more first.settled s.settled v (i.2 ∙ c.enqueue.ensures.settled) in_counts in
    let change = as_relaxed m f 172800 s.most v a k tail (rows_of s) (rows_of t) x here i.3 c.offer.ensures.rows in
    let p = relaxed_one m f s.most 172800 (rows_of s) (settled_of s) v i.5.0 a k i.5.3 next b count (rows_of t) within.0 within.1 change in (
      subst (λ n. IsSized n t) i.0.rows c.offer.ensures.sized,
      c.offer.ensures.most ∙ i.1,
      c.offer.ensures.settled ∙ i.2,
      relaxed_same m f s.most 172800 (rows_of s) (settled_of s) v i.5.0 a k i.5.3 next b count (rows_of t) within.0 within.1 change ∙ i.3,
      c.offer.ensures.queued,
      (
        a,
        omega arith,
        c.requires.links.before a there ∙ ap (λ u. last_into m.head u a) says.1,
        subst (λ n. IsRelaxing m f t.most 172800 (rows_of t) (numbers n) v a) (sym c.offer.ensures.settled) (subst (λ n. IsRelaxing m f n 172800 (rows_of t) (settled_of s) v a) (sym c.offer.ensures.most) p),
      ),
    )

pub returns-clause-rest : goal.returns-clause-rest
returns-clause-rest g c =
    let i = c.loop-next.invariant in
    rest (g.N.Network.roads c.args.roads.now) (cost_by c.args.costs.now) c.loop-next.self.most 172800 (rows_of c.loop-next.self) (settled_of c.loop-next.self) c.args.junction i.5.0 i.5.3 (sym i.5.2 ∙ c.in_default.is)
