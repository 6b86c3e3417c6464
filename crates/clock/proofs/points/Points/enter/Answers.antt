use Rattle.std.proofs.Common.{Some, sym, ap, ◌∙◌, arith}
use Rattle.clock.specs.Entering.{around_bound}
use Rattle.clock.proofs.points.Points.enter.Goals as goal

pub bounds-self-after-3 : goal.bounds-self-after-3
bounds-self-after-3 c =
    let p = around_bound _ _ _ _ _ _ _ c.requires.open_arc c.requires.early c.lower_bound.ensures c.max.ensures in
    let w = p.within in
    let o = c.requires.open_arc.within in
    omega arith

pub bounds-self-after-4 : goal.bounds-self-after-4
bounds-self-after-4 c =
    let p = around_bound _ _ _ _ _ _ _ c.requires.open_arc c.requires.early c.lower_bound.ensures c.max.ensures in
    let w = p.within in
    let o = c.requires.open_arc.within in
    let a = c.requires.open_arc.alike in
    omega arith

pub interpolate-requires : goal.interpolate-requires
interpolate-requires c =
    let p = around_bound _ _ _ _ _ _ _ c.requires.open_arc c.requires.early c.lower_bound.ensures c.max.ensures in
    record { after = p.low; before = p.high; apart = p.apart; rising = p.in_order }

pub returns : goal.returns
returns c =
    let p = around_bound _ _ _ _ _ _ _ c.requires.open_arc c.requires.early c.lower_bound.ensures c.max.ensures in
    p.gives ∙ ap Some (sym c.interpolate.ensures)
