-- On the line between two points travel time only falls or only rises. Assumes nothing.
use Rattle.std.proofs.Common.{◌≡◌, ℕ, ◌+◌, ◌-◌, ◌*◌, ◌/◌, ◌<◌, ◌≤◌, ◌⊎◌, inl, inr, sym, subst, ⊎_elim, le-div_iff_mul-le, mul-le-mul_left, div-mul-le_self, le_trans, arith}
use Rattle.std.proofs.Math.Nat.{add-mul-div_right, mul-div_cancel_left, zero-div}
use Rattle.std.proofs.lemmas.Bool.{cases_lt}
use Rattle.clock.specs.Arrivals.{between}

-- of a climb of c over w, what k more of w gives: k more at least where c is not below w
steep_share : (x k w c : ℕ) → 0 < w → w ≤ c → x * c / w + k ≤ (x + k) * c / w
steep_share x k w c p l =
    let s = div-mul-le_self (x * c) w in
    let m : k * w ≤ k * c = mul-le-mul_left k l in
    let step : (x * c / w + k) * w ≤ (x + k) * c = omega arith in
    (le-div_iff_mul-le p).1 step

-- and k more at most where c is not above w
gentle_share : (x k w c : ℕ) → 0 < w → c ≤ w → (x + k) * c / w ≤ x * c / w + k
gentle_share x k w c p l =
    let m : k * c ≤ k * w = mul-le-mul_left k l in
    let s = div-mul-le_self ((x + k) * c) w in
    let step : (x + k) * c ≤ x * c + k * w = omega arith in
    let e = add-mul-div_right (x * c) k p in
    let r : (x + k) * c / w ≤ (x * c + k * w) / w = (le-div_iff_mul-le p).1 (le_trans s step) in
    omega arith

-- so of three seconds on a line, one of the outer two takes no longer than the one between
pub outer_least : (d a e b lo t hi : ℕ) → d < e → d ≤ lo → lo ≤ t → t ≤ hi → (between d a e b lo - lo ≤ between d a e b t - t) ⊎ (between d a e b hi - hi ≤ between d a e b t - t)
outer_least d a e b lo t hi l m n o =
    let p : 0 < e - d = omega arith in
    ⊎_elim
    (λ c.
    let s = gentle_share (t - d) (hi - t) (e - d) (b - a) p (omega arith) in
    let k : hi - d ≡ (t - d) + (hi - t) = omega arith in
    let r = subst (λ x. x * (b - a) / (e - d) ≤ (t - d) * (b - a) / (e - d) + (hi - t)) (sym k) s in
    inr (omega arith))
    (λ c.
    let s = steep_share (lo - d) (t - lo) (e - d) (b - a) p c in
    let k : t - d ≡ (lo - d) + (t - lo) = omega arith in
    let r = subst (λ x. (lo - d) * (b - a) / (e - d) + (t - lo) ≤ x * (b - a) / (e - d)) (sym k) s in
    inl (omega arith))
    (cases_lt (b - a) (e - d))

-- at its two points the line gives their arrivals
pub at_one : (d a e b : ℕ) → between d a e b d ≡ a
at_one d a e b =
    let z : (d - d) * (b - a) ≡ 0 = grind arith in
    let q = zero-div (e - d) in
    let r : (d - d) * (b - a) / (e - d) ≡ 0 = rw z q in
    omega arith

pub at_other : (d a e b : ℕ) → d < e → a ≤ b → between d a e b e ≡ b
at_other d a e b l m =
    let p : 0 < e - d = omega arith in
    let r = mul-div_cancel_left (b - a) p in
    omega arith
