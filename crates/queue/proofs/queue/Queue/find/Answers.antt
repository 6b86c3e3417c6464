use Rattle.std.proofs.Common.{◌≡◌, ℕ, Bool, true, false, Option, MatchOption, refl, sym, ap, subst, ◌∙◌, arith}
use Rattle.std.specs.Bool.{then_some}
use Rattle.std.proofs.lemmas.Bool.{eqb-true, eq-eqb, ltb-true, both_ways}
use Rattle.queue.specs.declared.slot.Slot.{Slot}
use Rattle.queue.specs.Room.{held}
use Rattle.queue.specs.Queues.{waiting}
use Rattle.queue.proofs.Holding.{waiting_past, waiting_out, waiting_some, waiting_other}
use Rattle.queue.proofs.queue.Queue.find.Goals as goal
use Rattle.queue.proofs.queue.Queue.find.Goals.{then-place-self, else-place-self}

pub returns-in_err-place-clause-what : goal.returns-in_err-place-clause-what
unfolding waiting
returns-in_err-place-clause-what g c =
    let room = c.args.self.now.room in
    rw c.from_residual.ensures (waiting_past g.T.Keyed.handled (held room) room.len c.args.handle c.in_err-place.ensures.lookup.3)

-- a test that answers a place, or nothing
matched : (N : Type 0) (P : ℕ → Type 0) (b : Bool) (o : Option ℕ) (p : ℕ) → o ≡ then_some b p → (b ≡ true → P p) → (b ≡ false → N) → MatchOption o N P
matched N P true o p e t f = subst (λ k. MatchOption k N P) (sym e) (t refl)
matched N P false o p e t f = subst (λ k. MatchOption k N P) (sym e) (f refl)

pub returns-clause-what : goal.returns-clause-what
unfolding waiting
returns-clause-what g c =
    let room = c.args.self.now.room in
    let slot = c.in_ok-place in
    let fits = c.args.self.now.whole.placed.fits in
    let keeps = ap (λ (s : Slot g.row.T.Denot). s.place) slot.ensures.lookup.1 in
    elim c.if-place-self.branch [
      | then-place-self w ↦
          matched _ _ c.if-place-self.then_some c.then_some.result slot.field-0.now.place c.then_some.ensures
          (λ t d. waiting_some g.T.Keyed.handled (held room) room.len c.args.handle slot.field-0.now.place slot.field-0.now fits slot.ensures.lookup.3.0 keeps
          w.index-slots-place.result d w.if-place-self.true (sym w.handle.ensures ∙ eqb-true _ _ (sym w.then_some-is ∙ t)))
          (λ f. waiting_other g.T.Keyed.handled (held room) room.len c.args.handle slot.field-0.now.place slot.field-0.now fits slot.ensures.lookup.3.0 keeps
          w.index-slots-place.result w.if-place-self.true (λ e. both_ways _ (sym w.then_some-is ∙ f) (eq-eqb _ _ (w.handle.ensures ∙ e))))
      | else-place-self w ↦
          matched _ _ c.if-place-self.then_some c.then_some.result slot.field-0.now.place c.then_some.ensures
          (λ t. let l = ltb-true _ _ (sym w.then_some-is ∙ t) in absurd (let h = w.if-place-self.false in omega arith))
          (λ f. waiting_out g.T.Keyed.handled (held room) room.len c.args.handle slot.field-0.now.place slot.field-0.now fits slot.ensures.lookup.3.0 keeps w.if-place-self.false)
    ]
