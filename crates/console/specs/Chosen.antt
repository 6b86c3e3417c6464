-- What the words after the program's name ask for, by their bytes.
use Rattle.std.specs.Option.{option_map}
use Rattle.std.specs.Prelude.{string_bytes}
use Rattle.console.specs.declared.start.Options.{Options}
use Rattle.console.specs.Options.{Asked}

abbrev pub asked : Options → Asked
asked o = record { help = o.help; times = o.times; depot = option_map string_bytes o.depot; kind = o.kind }
