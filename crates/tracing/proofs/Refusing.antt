-- Which refusal a tracing gets, and what it answers where it gets none. Assumes nothing.
use Rattle.std.proofs.Common.{◌≡◌, ℕ, ◌-◌, ◌<◌, ◌≤◌, Bool, true, false, ◌&&◌, ltb, leb, ◌⊎◌, List, [], is_some, Some, None, Err, Option, Result, unwrap_or, refl, ap, ◌∙◌, ⊎_elim}
use Rattle.std.specs.Option.{option_or}
use Rattle.std.proofs.lemmas.Bool.{and_from, and_left, and_right, lt-ltb, le-ltb, lt-leb, le-leb}
use Rattle.network.specs.First.{unless, onward}
use Rattle.network.specs.Model.{Roads}
use Rattle.network.specs.Paths.{along}
use Rattle.network.specs.Refused.{refusal}
use Rattle.network.specs.declared.refusals.Places.TheVariants.{Call}
use Rattle.network.specs.declared.refusals.Refusal.{Refusal}
use Rattle.soonest.specs.Asking.{unless_refused}
use Rattle.soonest.specs.Tracing.{Tracing, trail, trail_reading, trace_refusal, traced}
use Rattle.tracing.specs.Admitted.{Admitted}

-- what is answered after the first checks, by the arcs and what arrives by them
abbrev pub followed : Option (List ℕ) → Option ℕ → Result (List ℕ × ℕ) Refusal
followed arcs arrives = unless_refused (option_or (unless (is_some arcs) (refusal 38 Call)) (unless (is_some arrives) (refusal 39 Call))) (unwrap_or arcs [], unwrap_or arrives 0)

module _ (m : Roads) (way : ℕ → ℕ) (t : Tracing) where
  -- what is answered, by the first checks
  abbrev checked : (junctions start room : Bool) → Result (List ℕ × ℕ) Refusal
  checked junctions start room =
      unless_refused (option_or (unless junctions (refusal 14 Call)) (option_or (unless start (refusal 15 Call)) (option_or (unless room (refusal 17 Call)) (option_or (unless (is_some (trail m way t)) (refusal 38 Call)) (unless (is_some (trail_reading m way t)) (refusal 39 Call)))))) (unwrap_or (trail m way t) [], unwrap_or (trail_reading m way t) 0)

  abbrev junctions_there : Bool
  junctions_there = ltb t.from m.junctions && ltb t.to m.junctions

  abbrev lists_long : Bool
  lists_long = leb m.junctions t.ways && leb (m.junctions - 1) t.arcs

  by_checks : (junctions start room : Bool) → junctions_there ≡ junctions → is_some (m.start t.number) ≡ start → lists_long ≡ room → traced m way t ≡ checked junctions start room
  unfolding traced trace_refusal
  by_checks junctions start room e f h = ap (λ b. checked b (is_some (m.start t.number)) lists_long) e ∙ ap (λ b. checked junctions b lists_long) f ∙ ap (checked junctions start) h

  there : t.from < m.junctions → t.to < m.junctions → junctions_there ≡ true
  there j k = and_from (ltb t.from m.junctions) (ltb t.to m.junctions) (lt-ltb t.from m.junctions j) (lt-ltb t.to m.junctions k)

  pub no_junction : (m.junctions ≤ t.from) ⊎ (m.junctions ≤ t.to) → traced m way t ≡ Err (refusal 14 Call)
  no_junction l =
      by_checks false (is_some (m.start t.number)) lists_long
      (⊎_elim
      (λ k. and_left (ltb t.from m.junctions) (ltb t.to m.junctions) (le-ltb t.from m.junctions k))
      (λ k. and_right (ltb t.from m.junctions) (ltb t.to m.junctions) (le-ltb t.to m.junctions k))
      l)
      refl refl

  pub no_start : t.from < m.junctions → t.to < m.junctions → m.start t.number ≡ None → traced m way t ≡ Err (refusal 15 Call)
  no_start j k e = by_checks true false lists_long (there j k) (ap is_some e) refl

  pub no_room : (h : ℕ) → t.from < m.junctions → t.to < m.junctions → m.start t.number ≡ Some h → (t.ways < m.junctions) ⊎ (t.arcs < m.junctions - 1) → traced m way t ≡ Err (refusal 17 Call)
  no_room h j k s l =
      by_checks true true false (there j k) (ap is_some s)
      (⊎_elim
      (λ n. and_left (leb m.junctions t.ways) (leb (m.junctions - 1) t.arcs) (lt-leb m.junctions t.ways n))
      (λ n. and_right (leb m.junctions t.ways) (leb (m.junctions - 1) t.arcs) (lt-leb (m.junctions - 1) t.arcs n))
      l)

  module _ (h : ℕ) (a : Admitted m t h) where
    admitted : traced m way t ≡ followed (trail m way t) (onward (trail m way t) (along m h))
    admitted =
        by_checks true true true (there a.from_there a.to_there) (ap is_some a.starts) (and_from (leb m.junctions t.ways) (leb (m.junctions - 1) t.arcs) (le-leb m.junctions t.ways a.ways_long) (le-leb (m.junctions - 1) t.arcs a.arcs_long))
        ∙ ap (λ s. followed (trail m way t) (onward s (λ q. onward (trail m way t) (along m q)))) a.starts

    pub no_way : trail m way t ≡ None → traced m way t ≡ Err (refusal 38 Call)
    no_way e = admitted ∙ ap (λ o. followed o (onward o (along m h))) e

    pub by_arcs : (arcs : List ℕ) (arrives : Option ℕ) → trail m way t ≡ Some arcs → along m h arcs ≡ arrives → traced m way t ≡ followed (Some arcs) arrives
    by_arcs arcs arrives e f = admitted ∙ ap (λ o. followed o (onward o (along m h))) e ∙ ap (followed (Some arcs)) f
