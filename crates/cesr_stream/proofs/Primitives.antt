-- Primitives, where so much of a wrap is left: what is judged of one stays the same, and it is no longer than what is
-- there, nor than what is left of the wrap.
use Rattle.std.proofs.Common.{◌≡◌, ◌≢◌, ℕ, ◌<◌, ◌≤◌, ◌==◌, ◌%◌, ◌||◌, ◌&&◌, not, nat_lt, if◌then◌else◌, Bool, true, false, List, ◌++◌, length, take, drop, map, refl, sym, ap, ◌∙◌, arith, inl, inr, codes, bytes_eq, Option, None, Some, lit≤}
use Rattle.std.proofs.lemmas.Bool.{cases_Bool, eqb-false, ltb-false, ltb-true}
use Rattle.cesr_codes.specs.Dates.{moment_verdict, shape_verdict, first_misfit, allowed, written}
use Rattle.cesr_codes.specs.Table.{Layout, Verdict, good, short, bad, verdict, is_within_code, has_code, layout}
use Rattle.cesr_codes.specs.declared.code_fault.CodeFault.TheVariants.{CodeNotHeld}
use Rattle.cesr_stream.specs.declared.bad.BadReason.TheVariants.{WrapLength}
use Rattle.cesr_stream.specs.Parts.{Part, whole, refused, unfinished}
use Rattle.cesr_stream.specs.Front.{shown, is_past, judged_part, primitive_part, moment_layouts}
use Rattle.cesr_stream.proofs.Stays.{Stays, Fits, longer, enough, part_same}
use Rattle.cesr_stream.proofs.Verdicts.{stays-verdict, fits-verdict, within_same, find_same, code_same, apart_more, shown-good, are_sized, sized-shown, IsShort, short-verdict}

-- what is left of a wrap, or so much where there is none
abbrev pub extent : ℕ → Option ℕ → ℕ
extent most None = most
extent most (Some room) = room

-- a wrap has characters in fours left
abbrev pub AreFours : Option ℕ → Type 0
AreFours None = Unit {0}
AreFours (Some room) = room % 4 ≡ 0

-- a whole part is no longer than what is left of the wrap, or than it may be
abbrev pub InRoom : ℕ → (Option ℕ → List ℕ → Part) → Type 0
InRoom most part = (room : Option ℕ) (x : List ℕ) (n : ℕ) → part room x ≡ whole n → n ≤ extent most room

-- of a part that isn't whole yet less is there
abbrev pub IsFew : ℕ → (Option ℕ → List ℕ → Part) → Type 0
IsFew most part = (room : Option ℕ) (x : List ℕ) → AreFours room → part room x ≡ unfinished → length x < extent most room

-- what the judging of a type of primitives has
pub record Judging (most : ℕ) (layouts : List Layout) (judge : List ℕ → Verdict) : Type 0 where
  pub within : (x : List ℕ) → is_within_code layouts x ≡ true → judge x ≡ short
  pub stays : (x y : List ℕ) → judge x ≢ short → judge (x ++ y) ≡ judge x
  pub fits : (x : List ℕ) (n : ℕ) → judge x ≡ good n → n ≤ length x
  pub shows : (x : List ℕ) (n : ℕ) → judge x ≡ good n → shown layouts x ≡ Some n
  pub sized : (x : List ℕ) (n : ℕ) → shown layouts x ≡ Some n → (n % 4 ≡ 0) × (n ≤ most)
  pub short_of : (x : List ℕ) → judge x ≡ short → IsShort (shown layouts x) x
  pub code : 4 ≤ most

module _ (most : ℕ) (layouts : List Layout) (judge : List ℕ → Verdict) (judging : Judging most layouts judge) where
  whole_judged : (past : Bool) (v : Verdict) (n : ℕ) → (if past then refused 0 WrapLength else judged_part v) ≡ whole n → (past ≡ false) × (v ≡ good n)
  whole_judged true v n e = cc e
  whole_judged false (good m) n e = let same : m ≡ n = cc e in (refl, ap good same)
  whole_judged false short n e = cc e
  whole_judged false (bad fault) n e = cc e

  shown_same : (x y : List ℕ) → is_within_code layouts x ≡ false → shown layouts (x ++ y) ≡ shown layouts x
  shown_same x y f = rw (f, within_same x y layouts f, find_same x y layouts f) refl

  stays_judged : (past : Bool) (x y : List ℕ) → (if past then refused 0 WrapLength else judged_part (judge x)) ≢ unfinished
      → (if past then refused 0 WrapLength else judged_part (judge (x ++ y))) ≡ (if past then refused 0 WrapLength else judged_part (judge x))
  stays_judged true x y ne = refl
  stays_judged false x y ne = ap judged_part (judging.stays x y (λ e. ne (ap judged_part e)))

  past_none : (room : Option ℕ) (count : Option ℕ) → is_past room None ≡ true → is_past room count ≡ true
  past_none None count e = cc e
  past_none (Some room) None e = e
  past_none (Some room) (Some count) e = rw e refl

  pub stays-primitive_part : (room : Option ℕ) → Stays (primitive_part layouts judge room)
  stays-primitive_part room x y ne = elim (cases_Bool (is_within_code layouts x)) [
    | inl t ↦ elim (cases_Bool (is_past room None)) [
      | inl p ↦ rw (t, p, past_none room (shown layouts (x ++ y)) p) refl
      | inr q ↦ absurd (ne (rw (t, q, judging.within x t) refl))
    ]
    | inr f ↦
        ap (λ count. if is_past room count then refused 0 WrapLength else judged_part (judge (x ++ y))) (shown_same x y f)
        ∙ stays_judged (is_past room (shown layouts x)) x y ne
  ]

  pub fits-primitive_part : (room : Option ℕ) → Fits (primitive_part layouts judge room)
  fits-primitive_part room x n e = judging.fits x n (whole_judged (is_past room (shown layouts x)) (judge x) n e).1

  pub fours-primitive_part : (room : Option ℕ) (x : List ℕ) (n : ℕ) → primitive_part layouts judge room x ≡ whole n → n % 4 ≡ 0
  fours-primitive_part room x n e = (judging.sized x n (judging.shows x n (whole_judged (is_past room (shown layouts x)) (judge x) n e).1)).0

  pub in_room-primitive_part : InRoom most (primitive_part layouts judge)
  in_room-primitive_part room x n e =
      let whole = whole_judged (is_past room (shown layouts x)) (judge x) n e in
      at room (ap (is_past room) (sym (judging.shows x n whole.1)) ∙ whole.0) (judging.sized x n (judging.shows x n whole.1)).1
    where
      within : (room : ℕ) (none : Bool) → (none || nat_lt room n) ≡ false → n ≤ room
      within room true e = cc e
      within room false e = ltb-false room n e

      at : (room : Option ℕ) → is_past room (Some n) ≡ false → n ≤ most → n ≤ extent most room
      at None e le = le
      at (Some room) e le = within room (room == 0) e

  pub few-primitive_part : IsFew most (primitive_part layouts judge)
  few-primitive_part room x fours e = open_judged (is_past room (shown layouts x)) (judge x) refl refl e
    where
      some : (room : ℕ) → (room == 0) ≡ false → room % 4 ≡ 0 → 4 ≤ room
      some room e fours = let ne : room ≢ 0 = eqb-false room 0 e in omega (arith, ne, fours)

      both : (a b : Bool) → (a || b) ≡ false → (a ≡ false) × (b ≡ false)
      both true b e = cc e
      both false b e = (refl, e)

      few : (room : Option ℕ) (count : Option ℕ) → shown layouts x ≡ count → AreFours room → is_past room count ≡ false → IsShort count x → length x < extent most room
      few None None is fours past lt = let code = judging.code in omega (arith, code, lt)
      few None (Some n) is fours past lt = let le = (judging.sized x n is).1 in omega (arith, le, lt)
      few (Some room) None is fours past lt = let enough = some room past fours in omega (arith, enough, lt)
      few (Some room) (Some n) is fours past lt = let le = ltb-false room n (both (room == 0) (nat_lt room n) past).1 in omega (arith, le, lt)

      open_judged : (past : Bool) (v : Verdict) → is_past room (shown layouts x) ≡ past → judge x ≡ v → (if past then refused 0 WrapLength else judged_part v) ≡ unfinished → length x < extent most room
      open_judged true v past is e = cc e
      open_judged false (good n) past is e = cc e
      open_judged false short past is e = few room (shown layouts x) refl fours past (judging.short_of x is)
      open_judged false (bad fault) past is e = cc e

pub judging-verdict : (most : ℕ) (layouts : List Layout) → are_sized most layouts ≡ true → 4 ≤ most → Judging most layouts (verdict layouts)
judging-verdict most layouts all code = record {
  within = λ x t. rw t refl;
  stays = stays-verdict layouts;
  fits = fits-verdict layouts;
  shows = shown-good layouts;
  sized = λ x n e. sized-shown most x layouts n all e;
  short_of = λ x e. short-verdict most layouts x all e;
  code = code;
}

-- the rules of a date-time
moment_good : (within other few : Bool) (place : Option ℕ) (n : ℕ)
    → (if within then short else if other then bad CodeNotHeld else if few then short else shape_verdict place) ≡ good n
    → (within ≡ false) × (other ≡ false) × (few ≡ false) × (36 ≡ n)
moment_good true other few place n e = cc e
moment_good false true few place n e = cc e
moment_good false false true place n e = cc e
moment_good false false false (Some p) n e = cc e
moment_good false false false None n e = (refl, refl, refl, cc e)

abbrev moment_code : Layout
moment_code = layout (codes "1AAG") 0 32 24

-- the text ends within the code
abbrev ends_within : List ℕ → Bool
ends_within x = nat_lt (length x) 4 && bytes_eq x (take (length x) (codes "1AAG"))

abbrev misfit : List ℕ → Option ℕ
misfit x = first_misfit (λ place. map written (allowed place)) (take 32 (drop 4 x))

moment_whole : (x : List ℕ) (n : ℕ) → moment_verdict x ≡ good n
    → (ends_within x ≡ false) × (not (has_code x moment_code) ≡ false) × (nat_lt (length x) 36 ≡ false) × (36 ≡ n)
moment_whole x n e = moment_good (ends_within x) (not (has_code x moment_code)) (nat_lt (length x) 36) (misfit x) n e

stays-moment_verdict : (x y : List ℕ) → moment_verdict x ≢ short → moment_verdict (x ++ y) ≡ moment_verdict x
stays-moment_verdict x y ne = elim (cases_Bool (ends_within x)) [
  | inl t ↦ absurd (ne (rw t refl))
  | inr f ↦
      rw (f, apart_more x y moment_code f, code_same x y moment_code f) (elim (cases_Bool (has_code x moment_code)) [
        | inl t ↦ elim (cases_Bool (nat_lt (length x) 36)) [
          | inl s ↦ absurd (ne (rw (f, t, s) refl))
          | inr g ↦ rw (t, g, longer x y 36 g, part_same x y 32 4 (omega (arith, enough x 36 g))) refl
        ]
        | inr u ↦ rw u refl
      ])
]

short-moment_verdict : (x : List ℕ) → moment_verdict x ≡ short → IsShort (shown moment_layouts x) x
short-moment_verdict x e = elim (cases_Bool (ends_within x)) [
  | inl t ↦ rw t (elim (cases_Bool (nat_lt (length x) 4)) [ inl u ↦ ltb-true (length x) 4 u | inr f ↦ cc (rw f at t) ])
  | inr f ↦ elim (cases_Bool (has_code x moment_code)) [
    | inr u ↦ cc (rw (f, u) at e)
    | inl t ↦ elim (cases_Bool (nat_lt (length x) 36)) [
      | inl s ↦ rw (f, t) (ltb-true (length x) 36 s)
      | inr g ↦ absurd (shaped (misfit x) (rw (f, t, g) at e))
    ]
  ]
]
  where
    shaped : (place : Option ℕ) → shape_verdict place ≢ short
    shaped None e = cc e
    shaped (Some place) e = cc e

pub judging-moment_verdict : Judging 36 moment_layouts moment_verdict
judging-moment_verdict = record {
  within = λ x t. elim (cases_Bool (ends_within x)) [ inl a ↦ rw a refl | inr f ↦ cc (rw f at t) ];
  stays = stays-moment_verdict;
  fits = λ x n e. let is = moment_whole x n e in omega (arith, is.3, enough x 36 is.2);
  shows = λ x n e. let is = moment_whole x n e in rw (is.0, held (has_code x moment_code) is.1) (ap Some is.3);
  sized = λ x n e. sized-shown 36 x moment_layouts n refl e;
  short_of = short-moment_verdict;
  code = lit≤ tt;
}
  where
    held : (has : Bool) → not has ≡ false → has ≡ true
    held true e = refl
    held false e = cc e
