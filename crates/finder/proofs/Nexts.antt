-- The least key that waits is what an asking takes next. Assumes nothing.
use Rattle.std.proofs.Common.{◌≡◌, ℕ, zero, suc, ◌<◌, Bool, true, false, cond, ltb, Some, None, Option, MatchOption, subst, sym, refl, ap, ◌∙◌, ap₂, arith}
use Rattle.std.specs.Option.{option_map}
use Rattle.std.proofs.lemmas.Bool.Decides.{nat_tests}
use Rattle.queue.specs.declared.key.Key.{Key}
use Rattle.queue.specs.Keys.{key_before}
use Rattle.queue.specs.Waiting.{lesser, least_of}
use Rattle.queue.proofs.Least.{least_suc, least_waits}
use Rattle.soonest.specs.Stages.{better, least}
use Rattle.queue.specs.Queues.{capacity, waiting}
use Rattle.finder.specs.Labels.{key_in}
use Rattle.finder.specs.Takings.{TakenFrom}
use Rattle.finder.specs.declared.labels.Labels.{Labels}
use Rattle.finder.specs.declared.taking.Taken.{Taken}

-- a key as its junction and its height
abbrev pub as_pair : Key → ℕ × ℕ
as_pair k = (k.junction, k.height)

module _ (w : ℕ → Option Key) (own : (h : ℕ) (x : Key) → w h ≡ Some x → x.junction ≡ h) where
  key_at : (n : ℕ) → key_in w n ≡ option_map (λ k. k.height) (w n)
  unfolding key_in
  key_at n = refl

  least_nothing : least (key_in w) 0 ≡ option_map as_pair (least_of key_before w 0)
  unfolding least least_of
  least_nothing = refl

  least_more : (n : ℕ) → least (key_in w) (suc n) ≡ better n (key_in w n) (least (key_in w) n)
  unfolding least
  least_more n = refl

  -- of the best so far and what waits under n
  one_more : (n : ℕ) (o p : Option Key) → least_of key_before w n ≡ o → w n ≡ p → better n (option_map (λ k. k.height) p) (option_map as_pair o) ≡ option_map as_pair (lesser key_before o p)
  one_more n None None e f = refl
  one_more n (Some x) None e f = refl
  one_more n None (Some y) e f = ap (λ j. Some (j, y.height)) (sym (own n y f))
  one_more n (Some x) (Some y) e f =
      let a = own n y f in
      let b = least_waits key_before w n x e in
      let c = own b.0 x b.2 in
      let d = b.1 in
      go (ltb y.height x.height) refl (let far : ltb y.junction x.junction ≡ false = grind (arith, nat_tests) in grind (arith, nat_tests))
    where
      go : (t : Bool) → ltb y.height x.height ≡ t → key_before y x ≡ ltb y.height x.height → elim t [ true ↦ Some (n, y.height) | false ↦ Some (as_pair x) ] ≡ option_map as_pair (cond (key_before y x) (Some y) (Some x))
      go true s r = ap (λ j. Some (j, y.height)) (sym (own n y f)) ∙ sym (ap (λ b. option_map as_pair (cond b (Some y) (Some x))) (r ∙ s))
      go false s r = sym (ap (λ b. option_map as_pair (cond b (Some y) (Some x))) (r ∙ s))

  pub least_said : (n : ℕ) → least (key_in w) n ≡ option_map as_pair (least_of key_before w n)
  least_said zero = least_nothing
  least_said (suc n) =
      least_more n
      ∙ ap₂ (λ o b. better n o b) (key_at n) (least_said n)
      ∙ one_more n (least_of key_before w n) (w n) refl refl
      ∙ ap (option_map as_pair) (sym (least_suc key_before w n))

  -- the least waits under its own junction
  pub least_own : (n : ℕ) (x : Key) → least_of key_before w n ≡ Some x → (w x.junction ≡ Some x) × (x.junction < n)
  least_own n x e =
      let b = least_waits key_before w n x e in
      let c = own b.0 x b.2 in
      let l = b.1 in
      (ap w c ∙ b.2, omega arith)

module _ {R : Type 0} (before after : Labels R) where
  pub nothing_taken : (o : Option (Taken R)) → o ≡ None → least (key_in (waiting before.queue)) (capacity before.queue) ≡ None → MatchOption o (least (key_in (waiting before.queue)) (capacity before.queue) ≡ None) (λ t. TakenFrom before after t)
  nothing_taken o e l = subst (λ o. MatchOption o (least (key_in (waiting before.queue)) (capacity before.queue) ≡ None) (λ t. TakenFrom before after t)) (sym e) l
