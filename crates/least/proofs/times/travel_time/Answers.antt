use Rattle.std.proofs.Common.{◌≡◌, ◌-◌, ◌<◌, sym, ap, ◌∙◌, ⊎_elim, arith}
use Rattle.std.specs.Option.{option_map}
use Rattle.std.proofs.lemmas.Bool.{cases_lt, le-leb}
use Rattle.std.proofs.lemmas.Bool.Decides.{nat_tests}
use Rattle.network.proofs.First.{clash, provided_true}
use Rattle.clock.specs.ClockLaws.{carry_too_late}
use Rattle.clock.specs.Held.{road_lists}
use Rattle.least.proofs.LeastTimes.{carries_later}
use Rattle.least.proofs.times.travel_time.Goals as goal

pub returns-in_err-new : goal.returns-in_err-new
returns-in_err-new c =
    let late : 172800 < c.args.second = ⊎_elim (λ l. l) (λ l. clash _ c.args.second (provided_true _ c.args.second (le-leb c.args.second 172800 l)) (sym c.in_err-new.ensures)) (cases_lt 172800 c.args.second) in
    c.from_residual.ensures ∙ sym (ap (λ o. option_map (λ q. q - c.args.second) o) (carry_too_late (road_lists c.args.roads.now) c.args.arc c.args.second (omega arith)))

pub overflow_sub-result : goal.overflow_sub-result
overflow_sub-result c =
    let given = c.in_ok-new.ensures in
    let e : c.in_ok-new.field-0.value ≡ c.args.second = grind (arith, nat_tests) in
    let l = (carries_later c.args.roads.now c.args.arc c.in_ok-new.field-0.value c.in_ok-arrival.arrival.value (sym c.in_ok-arrival.ensures)).2 in
    let v = c.value.ensures in
    omega arith
