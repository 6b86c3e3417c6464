-- What a clock shows. Assumes nothing.
use Rattle.std.specs.Prelude.{ℕ, ◌+◌, ◌*◌}
use Rattle.console.specs.declared.times.ClockTime.{ClockTime}

-- the seconds of a clock time; its minutes and its seconds are below 60, so no other clock time has as many
abbrev pub seconds_of : ClockTime → ℕ
seconds_of t = t.hours * 3600 + t.minutes * 60 + t.seconds
