-- Handing back all that is kept, the last first. Assumes nothing.
use Rattle.std.proofs.Common.{◌≡◌, ℕ, List, [], ◌∷◌, ◌++◌, sym, ap, ◌∙◌, subst}
use Rattle.std.proofs.lemmas.List.{append-nil, append_assoc, map-append}
use Rattle.board.specs.Calls.{handing_back}
use Rattle.board.specs.Promise.{OverEveryPast, Throughout, Right, Stands, hold_ended}
use Rattle.board.specs.Tables.{Table}
use Rattle.desk.specs.Named.{named, named_sites}
use Rattle.desk.specs.Throughout.{after_closing, RightlyClosed}
use Rattle.desk.specs.declared.kept.Kept.{Kept}

-- of what was kept before, what is gone was rightly handed back
pub record Closing (before : Table) (kept : List (ℕ × ℕ)) (now : Table) (left : List (ℕ × ℕ)) : Type 0 where
  pub gone : List (ℕ × ℕ)
  pub split : kept ≡ left ++ gone
  pub rightly : OverEveryPast before (λ first past. RightlyClosed first past gone) (λ first past. after_closing gone first.number past) now

pub closing_none : (t : Table) (kept : List (ℕ × ℕ)) → Closing t kept t kept
closing_none t kept = record { gone = []; split = sym (append-nil kept); rightly = λ first past stands. (tt, stands) }

-- the last that is kept, which bears the board's number, is handed back
pub closing_one : (before now after : Table) (kept left rest : List (ℕ × ℕ)) (k : ℕ × ℕ) (n : ℕ) → left ≡ rest ++ k ∷ [] → n ≡ now.number → Throughout now (handing_back n k.1) hold_ended after → Closing before kept now left → Closing before kept after rest
closing_one before now after kept left rest k n last bears throughout c = record {
  gone = k ∷ c.gone;
  split = c.split ∙ ap (λ ks. ks ++ c.gone) last ∙ append_assoc rest (k ∷ []) c.gone;
  rightly = λ first past stands.
      let was = c.rightly first past stands in
      let earlier = after_closing c.gone first.number past in
      let After : ℕ → Type 0 = λ number. Right first earlier (handing_back number k.1) hold_ended × Stands first (handing_back number k.1 ∷ earlier) after in
      let one = subst After (bears ∙ was.1.number) (throughout first earlier was.1) in
      ((one.0, was.0), one.1);
}

-- nothing is left
pub closing_all : (before now : Table) (kept : List (ℕ × ℕ)) → Closing before kept now [] → OverEveryPast before (λ first past. RightlyClosed first past kept) (λ first past. after_closing kept first.number past) now
closing_all before now kept c = subst (λ ks. OverEveryPast before (λ first past. RightlyClosed first past ks) (λ first past. after_closing ks first.number past) now) (sym c.split) c.rightly

pub named_last : (xs : List Kept) (x : Kept) → named_sites (xs ++ x ∷ []) ≡ named_sites xs ++ named x ∷ []
named_last xs x = map-append named xs (x ∷ [])
