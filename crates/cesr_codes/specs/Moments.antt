-- How date-times are spelled (CESR: code `1AAG`).
use Rattle.std.specs.Prelude.{◌≡◌, true, List, ℕ, ◌++◌, map, codes}
use Rattle.cesr_codes.specs.declared.moment.Moment.{Moment}
use Rattle.cesr_codes.specs.Dates.{written, is_date_time}

-- the code, and the 32 characters with three of them replaced
abbrev pub moment_text : Moment → List ℕ
moment_text moment = codes "1AAG" ++ map written moment.text

-- a date-time is of the shape
abbrev pub IsMoment : Moment → Type 0
IsMoment moment = is_date_time moment.text ≡ true
