-- The numbers of a log's events, which say which of them are rotations (own).
use Rattle.std.specs.Prelude.{ℕ, zero, suc, ◌+◌, ◌*◌, ◌%◌, ◌^◌, Bool, false, nat_lt, if◌then◌else◌}

-- the number that is drawn behind another one
unfoldable pub drawn_behind : ℕ → ℕ
drawn_behind drawn = (drawn * 6364136223846793005 + 1442695040888963407) % 2 ^ 64

-- the first event's number is the sum of the seed and the log's number, and each further one is drawn behind the one
-- before it
unfoldable pub draw_at : ℕ → ℕ → ℕ → ℕ
draw_at seed log zero = (seed + log) % 2 ^ 64
draw_at seed log (suc sn) = drawn_behind (draw_at seed log sn)

-- a further event is a rotation where its number is in the first quarter
unfoldable pub is_rotation : ℕ → ℕ → ℕ → Bool
is_rotation seed log zero = false
is_rotation seed log (suc sn) = nat_lt (draw_at seed log (suc sn)) (2 ^ 62)

-- how many of the events before the one of this sequence number are rotations
unfoldable pub rotations_before : ℕ → ℕ → ℕ → ℕ
rotations_before seed log zero = 0
rotations_before seed log (suc sn) = rotations_before seed log sn + (if is_rotation seed log sn then 1 else 0)

-- The number of the key that signs the event: as many rotations as there are up to it, and it is one of them itself
-- where it is a rotation.
abbrev pub key_number : ℕ → ℕ → ℕ → ℕ
key_number seed log sn = rotations_before seed log (suc sn)
