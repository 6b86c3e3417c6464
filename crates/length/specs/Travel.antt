-- What a reading of the code says. Assumes nothing.
use Rattle.length.specs.Readings.{Reading}
use Rattle.length.specs.declared.travelled.Travelled.{Travelled}

abbrev pub told : Travelled → Reading
told t = (t.metres, t.passed)
