use Rattle.std.proofs.Common.{◌≡◌, ℕ, [], ◌∷◌, ◌++◌, None, Err, Result, vec_items, sym, ap, ◌∙◌, subst, arith}
use Rattle.std.proofs.lemmas.Grind.{common_steps}
use Rattle.board.specs.Held.{board_table}
use Rattle.board.specs.Promise.{Stands}
use Rattle.board.specs.Tables.{hold_refusal, one_more_out}
use Rattle.desk.specs.Throughout.{after_holding, RightlyHeld}
use Rattle.desk.specs.declared.faults.DeskFault.{DeskFault}
use Rattle.desk.specs.declared.faults.DeskFault.TheVariants.{Refused}
use Rattle.desk.specs.declared.kept.Kept.{Kept}
use Rattle.desk.proofs.Holdings.{Tallies, tallies_more, granted_says}
use Rattle.desk.proofs.desk.Desk.hold.Goals as goal

pub returns-in_err-hold-clause-throughout : goal.returns-in_err-hold-clause-throughout
returns-in_err-hold-clause-throughout c first past stands =
    let result = c.from_residual-in_err-hold.result in
    let Promised : Result ℕ DeskFault → Type 0 = λ r. RightlyHeld first past c.args.site r × Stands first (after_holding r c.args.site past) (board_table c.hold.new.self) in
    let is : result ≡ Err (Refused c.in_err-hold.field-0.0) = grind (arith, common_steps, c.from_residual-in_err-hold.ensures) in
    subst Promised (sym is) (c.in_err-hold.ensures.throughout first past stands)

pub invariant_of-self-2 : goal.invariant_of-self-2
invariant_of-self-2 c =
    let d = c.args.self.now in
    let t = board_table d.board in
    let x : Kept = record { name = d.next; hold = c.in_ok-hold.hold } in
    let says = granted_says (hold_refusal t c.args.site) _ _ t.number c.args.site c.in_ok-hold.ensures.answer in
    let table = c.in_ok-hold.ensures.table ∙ ap (λ o. one_more_out o t c.args.site) says.0 in
    let items = c.push_reserved.ensures.items ∙ ap (λ ys. ys ++ x ∷ []) c.reserve.ensures.items in
    let tallies = subst (λ u. Tallies u (vec_items c.push_reserved.new.self)) (sym table) (subst (Tallies (one_more_out None t c.args.site)) (sym items) (tallies_more t (vec_items d.holds) x c.args.site says.1 says.2 (d.numbered, d.counted))) in
    record { numbered = tallies.0; counted = tallies.1 }
