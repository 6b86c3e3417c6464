use Rattle.std.proofs.Common.{sym, ap, ◌∙◌}
use Rattle.std.specs.Option.{option_map}
use Rattle.length.specs.Readings.{height_of, longer}
use Rattle.length.specs.Travel.{told}
use Rattle.length.specs.Heights.{by_heights_at, mapped_told}
use Rattle.length.proofs.answers.LengthRoadsNetwork.lengthen.Goals as goal

pub returns : goal.returns
returns c = mapped_told c.longer.result ∙ ap (option_map height_of) c.longer.ensures ∙ sym (by_heights_at (longer c.args.units) (told c.args.reading) c.args.reading.few)
