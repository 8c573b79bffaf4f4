-- Date-times (CESR: code `1AAG`; ISO 8601 with microseconds and an offset), and how they are judged.
use Rattle.std.specs.Prelude.{◌≡◌, ℕ, ◌+◌, ◌==◌, ◌&&◌, not, nat_lt, if◌then◌else◌, Bool, List, [], ◌∷◌, length, take, drop, map, position, codes, bytes_eq}
use Rattle.std.specs.List.{list_any, zip}
use Rattle.std.specs.Option.{is_none}
use Rattle.std.specs.declared.option.Option.{Option}
use Rattle.std.specs.declared.option.Option.TheVariants.{None, Some}
use Rattle.std.specs.declared.result.Result.{Result}
use Rattle.std.specs.declared.result.Result.TheVariants.{Ok, Err}
use Rattle.cesr_codes.specs.declared.code_fault.CodeFault.{CodeFault}
use Rattle.cesr_codes.specs.declared.code_fault.CodeFault.TheVariants.{CodeNotHeld, BadCharacter}
use Rattle.cesr_codes.specs.Reading.{refusal}
use Rattle.cesr_codes.specs.Table.{Verdict, good, short, bad}

-- a date-time, with `0` for any decimal digit and `+` for either sign; the calendar isn't tested
abbrev pub shape : List ℕ
shape = codes "0000-00-00T00:00:00.000000+00:00"

-- the characters that may stand at a place of the shape
abbrev pub allowed : ℕ → List ℕ
allowed place = if place == 48 then codes "0123456789" else if place == 43 then codes "+-" else place ∷ []

-- in a primitive `:` is written `c`, `.` is written `d`, and `+` is written `p`
abbrev pub written : ℕ → ℕ
written c = if c == 58 then 99 else if c == 46 then 100 else if c == 43 then 112 else c

-- the character that a written one stands for
abbrev pub plain : ℕ → ℕ
plain c = if c == 99 then 58 else if c == 100 then 46 else if c == 112 then 43 else c

-- the first place of a text whose character may not stand there
abbrev pub first_misfit : (ℕ → List ℕ) → List ℕ → Option ℕ
first_misfit may text = position (λ p. not (list_any (λ c. c == p.1) (may p.0))) (zip shape text)

-- 32 characters of the shape
abbrev pub is_date_time : List ℕ → Bool
is_date_time text = (length text == 32) && is_none (first_misfit allowed text)

-- a date-time behind its code, by the first place that breaks the shape, counted from the code
abbrev pub shape_verdict : Option ℕ → Verdict
shape_verdict None = good 36
shape_verdict (Some place) = bad (BadCharacter (place + 4))

-- The first rule that applies: the text ends within the code; it doesn't begin with it; it ends within the primitive; a
-- character breaks the shape.
abbrev pub moment_verdict : List ℕ → Verdict
moment_verdict text =
    if nat_lt (length text) 4 && bytes_eq text (take (length text) (codes "1AAG")) then short
    else if not (bytes_eq (take 4 text) (codes "1AAG")) then bad CodeNotHeld
    else if nat_lt (length text) 36 then short
    else shape_verdict (first_misfit (λ place. map written (allowed place)) (take 32 (drop 4 text)))

-- the code at the front, or the first of the two rules on codes that the text fails
abbrev pub FindsMoment : List ℕ → Result (Unit {0}) CodeFault → Type 0
FindsMoment text (Ok _) = take 4 text ≡ codes "1AAG"
FindsMoment text (Err fault) = moment_verdict text ≡ refusal fault
