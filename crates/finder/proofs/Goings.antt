-- An asking on its way: its stage is sane, its end is that of its beginning, and its steps are bounded. Assumes nothing.
use Rattle.std.proofs.Common.{◌≡◌, ℕ, ◌+◌, ◌^◌, ◌<◌, Bool, true, Some, refl, ◌∙◌, arith}
use Rattle.soonest.specs.Guidance.{Guidance, Sound}
use Rattle.soonest.specs.Stages.{Stage, begin, step, next, potential, finish}
use Rattle.soonest.proofs.Ending.{Sane, sane_begin, sane_step, potential_step, potential_begin, finish_step, step_steps}

pub record Going (g : Guidance) (k : ℕ) (first s : Stage) : Type 0 where
  pub sane : Sane g s
  pub ends : finish g k s ≡ finish g k first
  pub bounded : s.steps + potential g k s < 2 ^ 61

module _ (g : Guidance) (k : ℕ) (sound : Sound g) where
  pub going_first : (free : ℕ → Bool) (v h : ℕ) → v < g.roads.junctions → g.roads.reads h ≡ true → Going g k (begin g k free v h) (begin g k free v h)
  going_first free v h l r = record { sane = sane_begin g k sound free v h l r; ends = refl; bounded = (let low = potential_begin g k sound free v h l r in omega arith) }

  pub going_on : (first s : Stage) (b : ℕ × ℕ) → Going g k first s → next g k s ≡ Some b → Going g k first (step g k b.0 s)
  going_on first s b p e = record {
    sane = sane_step g k sound b.0 s p.sane;
    ends = finish_step g k sound s p.sane b e ∙ p.ends;
    bounded = (let fall = potential_step g k sound s p.sane b e in let one = step_steps g k b.0 s in let low = p.bounded in omega arith);
  }
