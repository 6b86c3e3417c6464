use Rattle.std.proofs.Common.{◌≡◌, ◌<◌, false, length, sym, ap, ◌∙◌, arith}
use Rattle.network.proofs.First.{unless_false}
use Rattle.least.specs.Segments.{cuts_day}
use Rattle.least.proofs.Cuts.{miscounted}
use Rattle.least.proofs.day.Day.new.Goals.{in_default-via-in-Ok+else-cut_a_day, in_default-via-in_default}
use Rattle.least.proofs.day.Day.new.Goals as goal

pub returns-in_default-clause-refusal : goal.returns-in_default-clause-refusal
returns-in_default-clause-refusal c =
    let none : cuts_day c.args.firsts.now ≡ false =
    elim c.in_default.branch [
      | in_default-via-in-Ok+else-cut_a_day w ↦ ap cuts_day (sym (w.deref.ensures.0 ∙ w.in-Ok.ensures.0)) ∙ sym w.if-cut_a_day.ensures
      | in_default-via-in_default w ↦ (let many : 8 < length c.args.firsts.now = w.in_default.ensures in miscounted c.args.firsts.now (λ l m. absurd (omega arith)))
    ] in
    sym (unless_false _ _ none)
