use Rattle.std.proofs.Common.{sym, ◌∙◌, arith}
use Rattle.std.proofs.lemmas.Bool.{not-true, not-false}
use Rattle.rows.specs.Index.{listed_at}
use Rattle.guided.specs.Indexed.{lists_of}
use Rattle.guided.proofs.Differences.{row_same, row_differs, entry_differs, entry_difference, entry_same, one_more_none}
use Rattle.guided.proofs.Parts.{row_says, row_there}
use Rattle.guided.proofs.indexed.IndexedRoads.row_difference.Goals as goal

pub returns-in_err-sites : goal.returns-in_err-sites
returns-in_err-sites c = absurd (row_there c.args.self.now c.args.segment c.args.junction c.in_err-sites.ensures c.requires.segment c.requires.junction)

pub returns-then-ne : goal.returns-then-ne
returns-then-ne c =
    let r = c.args.self.now in
    let o = row_says r c.args.segment c.args.junction c.in_ok-sites.sites.now c.in_ok-sites.times.now c.in_ok-sites.ensures in
    row_differs (lists_of r) c.args.segment c.args.junction c.args.right.now c.loop-entry.entry (omega arith) c.loop-entry.invariant
    (entry_differs (lists_of r) c.args.segment c.args.junction c.args.right.now c.loop-entry.entry (listed_at c.in_ok-sites.sites.now c.in_ok-sites.times.now c.loop-entry.entry) c.entry_at.result (o.entries c.loop-entry.entry (omega arith)) c.entry_at.ensures (not-true _ (sym c.ne.ensures ∙ c.if-ne.true)))

pub loop-entry-preserved : goal.loop-entry-preserved
loop-entry-preserved c =
    let r = c.args.self.now in
    let o = row_says r c.args.segment c.args.junction c.in_ok-sites.sites.now c.in_ok-sites.times.now c.in_ok-sites.ensures in
    one_more_none (entry_difference (lists_of r) c.args.segment c.args.junction c.args.right.now) c.loop-entry.entry c.loop-entry.invariant
    (entry_same (lists_of r) c.args.segment c.args.junction c.args.right.now c.loop-entry.entry (listed_at c.in_ok-sites.sites.now c.in_ok-sites.times.now c.loop-entry.entry) c.entry_at.result (o.entries c.loop-entry.entry (omega arith)) c.entry_at.ensures (not-false _ (sym c.ne.ensures ∙ c.if-ne.false)))

pub returns : goal.returns
returns c = row_same (lists_of c.args.self.now) c.args.segment c.args.junction c.args.right.now (λ r l. c.loop-entry.invariant r (omega arith))
