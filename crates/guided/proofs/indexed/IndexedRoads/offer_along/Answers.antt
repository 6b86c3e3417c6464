use Rattle.std.proofs.Common.{length, min, ◌∙◌}
use Rattle.std.specs.List.{list_all}
use Rattle.rows.specs.Index.{read_row}
use Rattle.rows.specs.Offering.{fits}
use Rattle.guided.proofs.Along.{some_if, none_if, head_says, offered_along, fits_along}
use Rattle.guided.proofs.Parts.{row_there}
use Rattle.guided.proofs.indexed.IndexedRoads.offer_along.Goals as goal

pub returns-in_err-sites-clause-no_room : goal.returns-in_err-sites-clause-no_room
returns-in_err-sites-clause-no_room c =
    let r = c.args.self.now in
    let head = head_says r c.args.segment c.args.arc c.requires.segment c.requires.arc c.in_ok-head.head c.in_ok-head.ensures in
    absurd (row_there r c.args.segment c.in_ok-head.head c.in_err-sites.ensures c.requires.segment head.1)

pub returns-clause-entries : goal.returns-clause-entries
returns-clause-entries c =
    let r = c.args.self.now in
    let head = head_says r c.args.segment c.args.arc c.requires.segment c.requires.arc c.in_ok-head.head c.in_ok-head.ensures in
    some_if c.offer_later.result (list_all (fits c.in_ok-by.by) (read_row c.in_ok-sites.sites.now c.in_ok-sites.times.now (min (length c.in_ok-sites.sites.now) (length c.in_ok-sites.times.now)) 0)) c.offer_later.ensures.variant
    (λ e. c.offer_later.ensures.entries ∙ offered_along r c.args.segment c.args.arc c.requires.segment c.requires.arc c.in_ok-head.head head.0 c.in_ok-by.by c.in_ok-by.ensures c.in_ok-sites.sites.now c.in_ok-sites.times.now c.in_ok-sites.ensures c.args.row.now.most c.args.row.now.entries.items e)

pub returns-clause-no_room : goal.returns-clause-no_room
returns-clause-no_room c =
    let r = c.args.self.now in
    let head = head_says r c.args.segment c.args.arc c.requires.segment c.requires.arc c.in_ok-head.head c.in_ok-head.ensures in
    none_if c.offer_later.result (list_all (fits c.in_ok-by.by) (read_row c.in_ok-sites.sites.now c.in_ok-sites.times.now (min (length c.in_ok-sites.sites.now) (length c.in_ok-sites.times.now)) 0)) c.offer_later.ensures.variant
    (fits_along r c.args.segment c.args.arc c.requires.segment c.requires.arc c.in_ok-head.head head.0 c.in_ok-by.by c.in_ok-by.ensures c.in_ok-sites.sites.now c.in_ok-sites.times.now c.in_ok-sites.ensures)
