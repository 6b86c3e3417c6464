-- What a tracing answers: a refusal, or the arcs from the start and what arrives. Assumes nothing.
use Rattle.std.specs.Prelude.{ℕ, ◌-◌, ◌&&◌, List, [], is_some, Option, Result, nat_le, nat_lt}
use Rattle.std.specs.Option.{option_or, unwrap_or}
use Rattle.network.specs.First.{unless, onward}
use Rattle.network.specs.Model.{Roads}
use Rattle.network.specs.Paths.{along}
use Rattle.network.specs.Refused.{refusal}
use Rattle.network.specs.declared.refusals.Places.TheVariants.{Call}
use Rattle.network.specs.declared.refusals.Refusal.{Refusal}
use Rattle.soonest.specs.Asking.{unless_refused}
use Rattle.soonest.specs.Ways.{back}

-- from which junction and start number, to which junction; and how long the lists of ways and of arcs are
pub record Tracing : Type 0 where
  pub from : ℕ
  pub number : ℕ
  pub to : ℕ
  pub ways : ℕ
  pub arcs : ℕ

module _ (m : Roads) (way : ℕ → ℕ) (t : Tracing) where
  -- the arcs that the ways give from the start to the junction
  abbrev pub trail : Option (List ℕ)
  trail = back m way t.from (m.junctions - 1) t.to

  -- what arrives by them
  abbrev pub trail_reading : Option ℕ
  trail_reading = onward (m.start t.number) (λ h. onward trail (along m h))

  -- the first that applies: no such junction, no start reading, a list too short, the ways do not lead back, an arc carries
  -- nothing
  unfoldable pub trace_refusal : Option Refusal
  trace_refusal =
      option_or (unless (nat_lt t.from m.junctions && nat_lt t.to m.junctions) (refusal 14 Call))
      (option_or (unless (is_some (m.start t.number)) (refusal 15 Call))
      (option_or (unless (nat_le m.junctions t.ways && nat_le (m.junctions - 1) t.arcs) (refusal 17 Call))
      (option_or (unless (is_some trail) (refusal 38 Call))
      (unless (is_some trail_reading) (refusal 39 Call)))))

  -- the arcs in driving order, and the reading; where there is none the tracing is refused
  unfoldable pub traced : Result (List ℕ × ℕ) Refusal
  traced = unless_refused trace_refusal (unwrap_or trail [], unwrap_or trail_reading 0)
