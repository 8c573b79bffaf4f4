-- Which events are rotations, one event further.
use Rattle.std.proofs.Common.{◌≡◌, ℕ, zero, suc, ◌+◌, ◌^◌, ◌<◌, ◌≤◌, true, false, nat_lt, if◌then◌else◌, refl, ap, ◌∙◌, arith, add-one}
use Rattle.controller_core.specs.LogMaker.Draws.{draw_at, drawn_behind, is_rotation, rotations_before, key_number}

-- the first event is none
pub no_first : (seed log sn : ℕ) → sn ≤ 0 → is_rotation seed log sn ≡ false
unfolding is_rotation
no_first seed log zero none = refl
no_first seed log (suc sn) none = absurd (omega arith)

-- a further one by its number
pub by_number : (seed log sn : ℕ) → 0 < sn → is_rotation seed log sn ≡ nat_lt (draw_at seed log sn) (2 ^ 62)
unfolding is_rotation
by_number seed log zero some = absurd (omega arith)
by_number seed log (suc sn) some = refl

-- a rotation isn't the first event
pub rotation-later : (seed log sn : ℕ) → is_rotation seed log sn ≡ true → 0 < sn
unfolding is_rotation
rotation-later seed log zero is = cc
rotation-later seed log (suc sn) is = omega arith

pub draw_at-more : (seed log sn : ℕ) → draw_at seed log (sn + 1) ≡ drawn_behind (draw_at seed log sn)
unfolding draw_at
draw_at-more seed log sn = rw add-one refl

rotations_before-suc : (seed log sn : ℕ) → rotations_before seed log (suc sn) ≡ rotations_before seed log sn + (if is_rotation seed log sn then 1 else 0)
unfolding rotations_before
rotations_before-suc seed log sn = refl

-- the number of the key that signs an event, where it is a rotation and where it isn't
pub key_number-rotation : (seed log sn : ℕ) → is_rotation seed log sn ≡ true → key_number seed log sn ≡ rotations_before seed log sn + 1
key_number-rotation seed log sn is = rotations_before-suc seed log sn ∙ ap (λ b. rotations_before seed log sn + (if b then 1 else 0)) is

pub key_number-other : (seed log sn : ℕ) → is_rotation seed log sn ≡ false → key_number seed log sn ≡ rotations_before seed log sn
key_number-other seed log sn is = rotations_before-suc seed log sn ∙ ap (λ b. rotations_before seed log sn + (if b then 1 else 0)) is ∙ omega arith

pub rotations_before-more : (seed log sn : ℕ) → rotations_before seed log (sn + 1) ≡ key_number seed log sn
rotations_before-more seed log sn = ap (rotations_before seed log) (add-one sn)
