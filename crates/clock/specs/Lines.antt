-- The straight line between two points, the fraction dropped. Assumes nothing.
use Rattle.std.specs.Prelude.{◌≡◌, ℕ, ◌+◌, ◌-◌, ◌*◌, ◌/◌, ◌<◌, ◌≤◌}
use Rattle.std.proofs.Common.{⊎_elim, le-div_iff_mul-le, mul-le-mul_left, mul-le-mul_right, div-mul-le_self, le_trans, arith}
use Rattle.std.proofs.Math.Nat.{div-le_of_le-mul}
use Rattle.std.proofs.lemmas.Bool.{cases_lt}
use Rattle.clock.specs.Arrivals.{between}

-- a share of a difference is no greater than it
pub share_le : (x w c : ℕ) → x ≤ w → x * c / w ≤ c
share_le x w c l = div-le_of_le-mul w (mul-le-mul_right c l)

pub share_rises : (x y w c : ℕ) → 0 < w → x ≤ y → x * c / w ≤ y * c / w
share_rises x y w c p l = (le-div_iff_mul-le p).1 (le_trans (div-mul-le_self (x * c) w) (mul-le-mul_right c l))

-- the line stays between its ends, and does not fall
pub line_within : (d a e b t : ℕ) → d ≤ t → t ≤ e → a ≤ b → (a ≤ between d a e b t) × (between d a e b t ≤ b)
line_within d a e b t l m n = (omega arith, let s = share_le (t - d) (e - d) (b - a) (omega arith) in omega arith)

pub line_rises : (d a e b t u : ℕ) → d < e → t ≤ u → between d a e b t ≤ between d a e b u
line_rises d a e b t u l m = let s = share_rises (t - d) (u - d) (e - d) (b - a) (omega arith) (omega arith) in omega arith

-- at a share x of w, a climb of c ends no lower than the share's own climb less α, where c falls short of w by no more
steep : (α y z w x c : ℕ) → w ≡ α + y + z → x ≡ α + y → y + z ≤ c → y * w ≤ x * c
steep α y z w x c e f h =
    let r : y * (α + y + z) ≤ (α + y) * (y + z) = omega arith in
    rw (e, f) (le_trans r (mul-le-mul_left (α + y) h))

-- where both ends arrive after they depart, so does all between
pub line_later : (d a e b t : ℕ) → d ≤ t → t ≤ e → d < e → a ≤ b → d + 1 ≤ a → e + 1 ≤ b → t < between d a e b t
line_later d a e b t l m n o p q = ⊎_elim early late (cases_lt t a)
  where
    early : t < a → t < between d a e b t
    early h = omega arith

    late : a ≤ t → t < between d a e b t
    late h =
        let step = steep (a - d - 1) (t + 1 - a) (e - t) (e - d) (t - d) (b - a) (omega arith) (omega arith) (omega arith) in
        let k : 0 < e - d = omega arith in
        let s = (le-div_iff_mul-le k).1 step in
        omega arith
