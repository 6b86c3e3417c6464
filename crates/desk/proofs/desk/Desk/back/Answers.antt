use Rattle.std.proofs.Common.{◌≡◌, ℕ, ◌<◌, List, ◌∷◌, length, get_or, Some, None, vec_items, sym, ap, ◌∙◌, subst, subst₂}
use Rattle.board.specs.Calls.{handing_back}
use Rattle.board.specs.Held.{board_table}
use Rattle.board.specs.Promise.{Right, Stands, hold_ended}
use Rattle.board.specs.Tables.{one_less_out}
use Rattle.desk.specs.Named.{FirstUnder, named_sites}
use Rattle.desk.specs.declared.kept.Kept.{Kept}
use Rattle.desk.proofs.Holdings.{none_under, first_under, removed_accepted, removed_bears, removed_tallies}
use Rattle.desk.proofs.desk.Desk.back.Goals as goal

pub returns-in_err-at-clause-site : goal.returns-in_err-at-clause-site
returns-in_err-at-clause-site c =
    let n = c.args.name in
    let NoneUnder : List Kept → Type 0 = λ ys. (i : ℕ) (d : Kept) → i < length ys → (get_or ys i d).name ≡ n → ⊥ in
    c.from_residual.ensures ∙ sym (none_under n (vec_items c.args.self.now.holds) (subst NoneUnder c.as_slice.ensures.value c.in_err-at.ensures))

pub take_back-requires : goal.take_back-requires
take_back-requires c =
    let d = c.args.self.now in
    let found = subst (λ ys. FirstUnder ys c.args.name c.in_ok-at.at) c.as_slice.ensures.value c.in_ok-at.ensures in
    removed_accepted d.board (vec_items d.holds) c.in_ok-at.at c.remove.result found.within c.remove.ensures.value (d.numbered, d.counted)

pub invariant_of-self : goal.invariant_of-self
invariant_of-self c =
    let d = c.args.self.now in
    let found = subst (λ ys. FirstUnder ys c.args.name c.in_ok-at.at) c.as_slice.ensures.value c.in_ok-at.ensures in
    let t = removed_tallies d.board (vec_items d.holds) c.in_ok-at.at c.remove.result found.within c.remove.ensures.value (d.numbered, d.counted) (board_table c.take_back.new.board) (vec_items c.remove.new.self) c.take_back.ensures.table c.remove.ensures.items in
    record { numbered = t.0; counted = t.1 }

pub returns : goal.returns
returns c =
    let d = c.args.self.now in
    let found = subst (λ ys. FirstUnder ys c.args.name c.in_ok-at.at) c.as_slice.ensures.value c.in_ok-at.ensures in
    let under = first_under c.args.name (vec_items d.holds) c.in_ok-at.at c.remove.result c.remove.ensures.value found in
    let bears = removed_bears d.board (vec_items d.holds) c.in_ok-at.at c.remove.result found.within c.remove.ensures.value (d.numbered, d.counted) in
    let table = c.take_back.ensures.table ∙ ap (one_less_out None (board_table d.board)) (sym c.site-site.ensures) in
    let kept = ap named_sites c.remove.ensures.items ∙ sym under.1 in
    record {
      site = ap Some c.site-site.ensures ∙ sym under.0;
      desk = λ i. record { table = table i; kept = kept i; next = d.next };
      throughout = λ first past stands.
          let After : ℕ → ℕ → Type 0 = λ n s. Right first past (handing_back n s) hold_ended × Stands first (handing_back n s ∷ past) (board_table c.take_back.new.board) in
          subst₂ After (bears ∙ stands.number) (sym c.site-site.ensures) (c.take_back.ensures.throughout first past stands);
    }
