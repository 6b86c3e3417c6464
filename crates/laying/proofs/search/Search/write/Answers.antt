-- One more row is written, past the others.
use Rattle.std.proofs.Common.{◌≡◌, ◌+◌, ◌*◌, sym, subst, arith}
use Rattle.std.proofs.lemmas.Nat.{mul-le}
use Rattle.rows.specs.Index.{place_at}
use Rattle.laying.specs.Search.{rows_of}
use Rattle.laying.specs.Places.{Stands, SameOutside}
use Rattle.laying.proofs.Layouts.{outside_next, stands_next}
use Rattle.laying.proofs.Stepping.{read_items}
use Rattle.laying.proofs.search.Search.write.Goals as goal

pub loop-junction-preserved : goal.loop-junction-preserved
loop-junction-preserved c =
    let s = c.args.self.now in
    let n = c.len-junctions.result in
    let C = s.most in
    let i = c.args.segment in
    let v = c.loop-junction.junction in
    let p = c.place_of-place.result in
    let sites = c.loop-junction.sites in
    let times = c.loop-junction.times in
    let others = c.write_row.new.sites in
    let since = c.write_row.new.times in
    let at : p ≡ place_at n C i v 0 = c.place_of-place.ensures in
    let row = read_items s.rows.items c.deref.result.now c.entries-row.result.now v c.index-deref-junction.result c.deref.ensures.0 (sym c.index-deref-junction.is) (let a = c.len-junctions.ensures.value in omega arith) c.entries-row.ensures in
    let here = subst (λ l. Stands l C p others since) (sym row) c.write_row.ensures.row in
    let from = mul-le (i * n) C (i * n + v) C (omega arith) (omega arith) in
    let end : p + C ≡ place_at n C i (v + 1) 0 = omega arith in
    let same = subst (λ q. SameOutside p q sites times others since) end c.write_row.ensures.rest in
    let before = subst (λ q. SameOutside (place_at n C i 0 0) q c.args.sites.now c.args.times.now sites times) (sym at) c.loop-junction.invariant.1 in (
      stands_next n C i v p (rows_of s) sites times others since at here c.write_row.ensures.rest c.loop-junction.invariant.0,
      outside_next sites times c.args.sites.now c.args.times.now others since (place_at n C i 0 0) p (place_at n C i (v + 1) 0) (omega arith) (omega arith) before same,
    )
