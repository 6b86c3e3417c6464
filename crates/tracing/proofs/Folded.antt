-- A `try_fold` that carries a reading along arcs. Assumes nothing.
use Rattle.std.proofs.Common.{◌≡◌, ℕ, List, [], ◌∷◌, ◌++◌, map, length, get_or, drop, Some, None, Option, MatchOption, Continue, Break, sym, refl, ap, ◌∙◌, subst}
use Rattle.std.proofs.lemmas.List.{append-nil, take-append-drop, get_or_default}
use denote.Param.Members.{Mut}
use denote.Ref.{Bor}
use Rattle.std.specs.Fn.{Called}
use Rattle.std.specs.Iterator.{Yields, TryFoldTurn, TryFoldsItems}
use Rattle.std.specs.List.{FoldsTo}
use Rattle.std.specs.ControlFlow.{continue_value}
use Rattle.std.specs.Option.{option_map}
use Rattle.std.specs.declared.ops.ControlFlow.{ControlFlow}
use Rattle.std.proofs.lemmas.Iterator.{YieldsList}
use Rattle.std.proofs.lemmas.Iterator.Consumers.{YieldsList-so_far, YieldsList-turn, YieldsList-end}
use Rattle.network.specs.First.{onward}
use Rattle.network.specs.Model.{Roads}
use Rattle.network.specs.Paths.{along}
use Rattle.tracing.proofs.Driven.{along_more}

-- `f` carries the reading along the arc and stays as it is, and `?` goes on at what arrives
module _ {F R : Type 0} (E : Type 0) (g : Mut F (R × (Bor ℕ × Unit {0})) (Option R)) (f : F) (height : R → ℕ) (m : Roads) (carries : (b : R) (x : Bor ℕ) (v : Option R) (f' : F) → Called g f (b, (x, tt)) v f' → (f' ≡ f) × (option_map height v ≡ m.carry x.now (height b))) where
  abbrev branches : Option R → ControlFlow E R → Type 0
  branches v c = v ≡ continue_value c

  carried : (xs : List (Bor ℕ)) (rest : List ℕ) (p q : F × R) → p.0 ≡ f → FoldsTo (TryFoldTurn g branches) p xs q → (q.0 ≡ f) × (along m (height p.1) (map (λ x. x.now) xs ++ rest) ≡ along m (height q.1) rest)
  carried [] rest p q k e = (sym (ap (λ p. p.0) e) ∙ k, ap (λ p. along m (height p.1) rest) e)
  carried (x ∷ xs) rest p q k h =
      let called = carries p.1 x h.1.0 h.0.0 (subst (λ k. Called g k (p.1, (x, tt)) h.1.0 h.0.0) k h.1.1) in
      let arrives = sym called.1 ∙ ap (option_map height) h.1.2 in
      let after = carried xs rest h.0 q called.0 h.2 in
      (after.0, ap (λ o. onward o (λ q. along m q (map (λ x. x.now) xs ++ rest))) arrives ∙ after.1)

  module _ {S : Type 0} (steps : S → Option (Bor ℕ) → S → Type 0) (s u : S) (start : R) (r : Option R) (arcs : List ℕ) (road : YieldsList steps (λ x. x.now) s arcs) where
    settled : (xs : List (Bor ℕ)) (o : Option (Bor ℕ)) (f' : F) (a : R) (t : S) → Yields steps s xs t → steps t o u → FoldsTo {P = F × R} (TryFoldTurn g branches) (f, start) xs (f', a) → MatchOption o (branches r (Continue a)) (λ x. (v : Option R) × (h : F) × (e : E) × Called g f' (a, (x, tt)) v h × branches v (Break e) × (r ≡ None)) → option_map height r ≡ along m (height start) arcs
    settled xs None f' a t y last turns h =
        let all = (YieldsList-end road xs t y None u refl last).0 in
        ap (option_map height) h ∙ sym (carried xs [] (f, start) (f', a) refl turns).1 ∙ ap (along m (height start)) (append-nil (map (λ x. x.now) xs) ∙ all)
    settled xs (Some x) f' a t y last turns h =
        let n = length xs in
        let here = YieldsList-turn road xs t y (Some x) u x refl last in
        let before = carried xs (drop n arcs) (f, start) (f', a) refl turns in
        let called = carries a x h.0 h.1 (subst (λ k. Called g k (a, (x, tt)) h.0 h.1) before.0 h.3) in
        let stops : m.carry (get_or arcs n 0) (height a) ≡ None = ap (λ b. m.carry b (height a)) (get_or_default arcs n 0 x.now here.0 ∙ sym here.1) ∙ sym called.1 ∙ ap (option_map height) h.4 in
        ap (option_map height) h.5
        ∙ sym (along_more m arcs n (height a) None here.0 stops)
        ∙ sym before.1
        ∙ ap (λ ys. along m (height start) (ys ++ drop n arcs)) (YieldsList-so_far road xs t y)
        ∙ ap (along m (height start)) (take-append-drop n arcs)

    pub folded : TryFoldsItems steps g branches (λ e v. v ≡ None) s f start r u → option_map height r ≡ along m (height start) arcs
    folded h = settled h.0 h.1 h.2 h.3 h.4.0 h.4.1 h.4.2 h.5 h.6
