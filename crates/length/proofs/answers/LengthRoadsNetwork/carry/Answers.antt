use Rattle.std.proofs.Common.{vec_items, sym, ap, ◌∙◌, ap₂}
use Rattle.std.specs.Option.{option_map}
use Rattle.length.specs.Readings.{height_of, longer, carried}
use Rattle.length.specs.Travel.{told}
use Rattle.length.specs.Heights.{by_heights_at, mapped_told, carried_there, carried_nowhere}
use Rattle.length.proofs.answers.LengthRoadsNetwork.carry.Goals as goal

pub returns-in_err-metres : goal.returns-in_err-metres
returns-in_err-metres c =
    let past = rw c.deref.ensures.value at c.in_err-metres.ensures.lookup in
    rw c.from_residual.ensures (sym (carried_nowhere (vec_items c.args.self.now.metres) c.args.arc (height_of (told c.args.reading)) past.3))

pub returns : goal.returns
returns c =
    let metres = vec_items c.args.self.now.metres in
    let there = rw c.deref.ensures.value at c.in_ok-metres.ensures.lookup in
    mapped_told c.longer.result ∙ ap (option_map height_of) (c.longer.ensures ∙ ap₂ longer (there.3.1 0) c.one_more.ensures ∙ sym (carried_there metres c.args.arc (told c.args.reading) there.3.0)) ∙ sym (by_heights_at (carried metres c.args.arc) (told c.args.reading) c.args.reading.few)
