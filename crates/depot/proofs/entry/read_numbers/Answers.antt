use Rattle.std.proofs.Common.{◌≡◌, Ok, rules}
use Rattle.depot.specs.Numbers.{number_of}
use Rattle.depot.proofs.Lists.{one_more}
use Rattle.depot.proofs.entry.read_numbers.Goals as goal

pub loop-word-preserved : goal.loop-word-preserved
loop-word-preserved c =
    let read : Ok c.in_ok-map_err.field-0 ≡ number_of c.in-Some.word.now = search rules in
    one_more c.loop-word.invariant _ _ c.in-Some.ensures.value _ _ read c.in_ok-push.ensures.items
