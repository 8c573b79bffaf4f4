-- Date-times: what stands at the front, that it is good, and that it is the only one.
use Rattle.std.proofs.Common.{◌≡◌, ℕ, zero, suc, ◌+◌, ◌<◌, ◌≤◌, ◌==◌, nat_lt, Bool, true, List, [], ◌∷◌, ◌++◌, length, map, take, drop, get_or, set, codes, refl, sym, ap, ◌∙◌, arith, length-append, length-drop, inl, inr, None, Some, Option, subst}
use Rattle.std.proofs.lemmas.Bool.{cases_Bool, le-ltb, eqb-true, eq-eqb, ltb-true}
use Rattle.std.proofs.lemmas.List.{take_at, drop_at, take-append-drop, length-map, length-take-le}
use Rattle.std.proofs.lemmas.Slice.Eq.{bytes_eq-Decides}
use Rattle.std.proofs.Math.Seq.{take-add}
use Rattle.std.proofs.lemmas.Str.{IsAscii-append}
use Rattle.std.proofs.lemmas.Str.Ascii.{IsAscii-cons, IsAscii-nil}
use Rattle.std.specs.Str.{IsAscii}
use Rattle.std.proofs.Props.{props}
use Rattle.std.specs.List.{list_all, list_any, zip}
use Rattle.std.specs.Option.{is_none}
use Rattle.cesr_codes.specs.declared.moment.Moment.{Moment}
use Rattle.cesr_codes.specs.Dates.{shape, allowed, written, plain, first_misfit, is_date_time, moment_verdict, shape_verdict}
use Rattle.cesr_codes.specs.Moments.{moment_text, IsMoment}
use Rattle.cesr_codes.specs.Reading.{IsAtFront}
use Rattle.cesr_codes.specs.Table.{good}
use Rattle.cesr_codes.proofs.Numbers.{no_failure, none_fails}
use Rattle.cesr_codes.proofs.Texts.{low_at}

-- a turn of a loop that writes f of each element
pub mapped_more : (f : ℕ → ℕ) (xs text : List ℕ) (i y : ℕ) → i < length xs → text ≡ map f (take i xs) ++ drop i xs → y ≡ f (get_or text i 0) → set text i y ≡ map f (take (i + 1) xs) ++ drop (i + 1) xs
mapped_more f xs text i y lt is e =
    let next : suc i ≡ i + 1 = omega arith in
    ap (set text i) e ∙ ap (λ t. set t i (f (get_or t i 0))) is ∙ turn xs i lt ∙ ap (λ k. map f (take k xs) ++ drop k xs) next
  where
    turn : (xs : List ℕ) (i : ℕ) → i < length xs → set (map f (take i xs) ++ drop i xs) i (f (get_or (map f (take i xs) ++ drop i xs) i 0)) ≡ map f (take (suc i) xs) ++ drop (suc i) xs
    turn [] i lt = absurd (omega arith)
    turn (x ∷ xs) zero lt = refl
    turn (x ∷ xs) (suc i) lt = ap (λ ys. f x ∷ ys) (turn xs i (omega arith))

-- a character may stand at a place, as it is, and as it is written
fits : ℕ × ℕ → Bool
fits p = list_any (λ c. c == p.1) (allowed p.0)

fits_written : ℕ × ℕ → Bool
fits_written p = list_any (λ c. c == p.1) (map written (allowed p.0))

-- at each place of the shape what is written gives the character back
comes_back : ℕ → Bool
comes_back place = list_all (λ c. plain (written c) == c) (allowed place)

shape_comes_back : list_all comes_back shape ≡ true
unfolding comes_back
shape_comes_back = refl

back_in : (xs : List ℕ) (c : ℕ) → list_all (λ x. plain (written x) == x) xs ≡ true → list_any (λ x. x == c) xs ≡ true → plain (written c) ≡ c
back_in [] c all any = cc any
back_in (x ∷ xs) c all any = elim (cases_Bool (plain (written x) == x)) [
  | inl t ↦ elim (cases_Bool (x == c)) [
    | inl same ↦ let e : x ≡ c = eqb-true x c same in subst (λ z. plain (written z) ≡ z) e (eqb-true (plain (written x)) x t)
    | inr other ↦ back_in xs c (rw t at all) (rw other at any)
  ]
  | inr f ↦ cc (rw f at all)
]

-- what is written is of a character that may stand there
written_of : (xs : List ℕ) (c : ℕ) → list_any (λ x. x == c) (map written xs) ≡ true → (x : ℕ) × (list_any (λ y. y == x) xs ≡ true) × (written x ≡ c)
written_of [] c any = cc any
written_of (x ∷ xs) c any = elim (cases_Bool (written x == c)) [
  | inl t ↦ (x, rw (eq-eqb x x refl) refl, eqb-true (written x) c t)
  | inr f ↦
      let found = written_of xs c (rw f at any) in
      (found.0, elim (cases_Bool (x == found.0)) [ inl t ↦ rw t refl | inr g ↦ rw g found.1 ], found.2)
]

of_written : (xs : List ℕ) (c : ℕ) → list_any (λ x. x == c) xs ≡ true → list_any (λ x. x == written c) (map written xs) ≡ true
of_written [] c any = cc any
of_written (x ∷ xs) c any = elim (cases_Bool (x == c)) [
  | inl t ↦ let same : written x ≡ written c = ap written (eqb-true x c t) in rw (eq-eqb (written x) (written c) same) refl
  | inr f ↦ elim (cases_Bool (written x == written c)) [ inl t ↦ rw t refl | inr g ↦ rw g (of_written xs c (rw f at any)) ]
]

-- the same over a whole text
read_back : (places text : List ℕ) → length text ≡ length places → list_all comes_back places ≡ true → list_all fits_written (zip places text) ≡ true
    → (map written (map plain text) ≡ text) × (list_all fits (zip places (map plain text)) ≡ true)
unfolding comes_back fits fits_written
read_back [] [] len back all = (refl, refl)
read_back [] (c ∷ text) len back all = absurd (omega arith)
read_back (p ∷ places) [] len back all = absurd (omega arith)
read_back (p ∷ places) (c ∷ text) len back all = elim (cases_Bool (comes_back p)) [
  | inl t ↦ elim (cases_Bool (fits_written (p, c))) [
    | inl u ↦
        let found = written_of (allowed p) c u in
        let same : plain c ≡ found.0 = ap plain (sym found.2) ∙ back_in (allowed p) found.0 t found.1 in
        let rest = read_back places text (omega arith) (rw t at back) (rw u at all) in
        let here : list_any (λ y. y == plain c) (allowed p) ≡ true = ap (λ x. list_any (λ y. y == x) (allowed p)) same ∙ found.1 in
        (ap (λ x. x ∷ map written (map plain text)) (ap written same ∙ found.2) ∙ ap (λ xs. c ∷ xs) rest.0, rw here rest.1)
    | inr v ↦ cc (rw v at all)
  ]
  | inr f ↦ cc (rw f at back)
]

write_back : (places text : List ℕ) → length text ≡ length places → list_all comes_back places ≡ true → list_all fits (zip places text) ≡ true
    → (map plain (map written text) ≡ text) × (list_all fits_written (zip places (map written text)) ≡ true)
unfolding comes_back fits fits_written
write_back [] [] len back all = (refl, refl)
write_back [] (c ∷ text) len back all = absurd (omega arith)
write_back (p ∷ places) [] len back all = absurd (omega arith)
write_back (p ∷ places) (c ∷ text) len back all = elim (cases_Bool (comes_back p)) [
  | inl t ↦ elim (cases_Bool (fits (p, c))) [
    | inl u ↦
        let rest = write_back places text (omega arith) (rw t at back) (rw u at all) in
        let here : list_any (λ y. y == written c) (map written (allowed p)) ≡ true = of_written (allowed p) c u in
        (ap (λ x. x ∷ map plain (map written text)) (back_in (allowed p) c t u) ∙ ap (λ xs. c ∷ xs) rest.0, rw here rest.1)
    | inr v ↦ cc (rw v at all)
  ]
  | inr f ↦ cc (rw f at back)
]

-- a date-time has 32 characters, each of which may stand where it does
date_fits : (text : List ℕ) → is_date_time text ≡ true → (length text ≡ 32) × (list_all fits (zip shape text) ≡ true)
unfolding fits
date_fits text form = elim (cases_Bool (length text == 32)) [
  | inl t ↦ (eqb-true (length text) 32 t, none_fails (λ p. list_any (λ c. c == p.1) (allowed p.0)) (zip shape text) (none (first_misfit allowed text) (rw t at form)))
  | inr f ↦ cc (rw f at form)
]
  where
    none : (place : Option ℕ) → is_none place ≡ true → place ≡ None
    none None h = refl
    none (Some place) h = cc h

fits_date : (text : List ℕ) → length text ≡ 32 → list_all fits (zip shape text) ≡ true → is_date_time text ≡ true
unfolding fits
fits_date text len all = rw (eq-eqb (length text) 32 len, no_failure (λ p. list_any (λ c. c == p.1) (allowed p.0)) (zip shape text) all) refl

pub length-moment_text : (moment : Moment) → length (moment_text moment) ≡ 36
length-moment_text moment = omega (arith, length-map moment.text written, (date_fits moment.text moment.form).0)

-- the 32 characters behind the code
module _ (bytes text : List ℕ) (long : 36 ≤ length bytes) (is : text ≡ take 32 (drop 4 bytes)) (none : first_misfit (λ place. map written (allowed place)) text ≡ None) where
  count : length text ≡ 32
  count = ap length is ∙ length-take-le 32 (drop 4 bytes) (omega (arith, length-drop 4 bytes))

  found : (map written (map plain text) ≡ text) × (list_all fits (zip shape (map plain text)) ≡ true)
  unfolding fits_written
  found = read_back shape text (omega (arith, count)) shape_comes_back (none_fails (λ p. list_any (λ c. c == p.1) (map written (allowed p.0))) (zip shape text) none)

  pub plain_form : is_date_time (map plain text) ≡ true
  plain_form = fits_date (map plain text) (length-map text plain ∙ count) found.1

  pub moment_front : take 4 bytes ≡ codes "1AAG" → bytes ≡ (codes "1AAG" ++ map written (map plain text)) ++ drop 36 bytes
  moment_front code =
      sym (take-append-drop 36 bytes)
      ∙ ap (λ front. front ++ drop 36 bytes) (take-add 4 32 bytes ∙ ap (λ xs. xs ++ take 32 (drop 4 bytes)) code ∙ ap (λ xs. codes "1AAG" ++ xs) (sym is ∙ sym found.0))

-- the judgement of a text with the code and all its characters
pub moment_judged : (bytes text : List ℕ) (place : Option ℕ) → take 4 bytes ≡ codes "1AAG" → 36 ≤ length bytes → text ≡ take 32 (drop 4 bytes) → place ≡ first_misfit (λ p. map written (allowed p)) text
    → moment_verdict bytes ≡ shape_verdict place
moment_judged bytes text place code long is at_place =
    rw (le-ltb (length bytes) 4 (omega arith), (bytes_eq-Decides (take 4 bytes) (codes "1AAG")).1 code, le-ltb (length bytes) 36 long)
    (ap (λ t. shape_verdict (first_misfit (λ p. map written (allowed p)) t)) (sym is) ∙ ap shape_verdict (sym at_place))

pub good_moment : (moment : Moment) (rest : List ℕ) → IsMoment moment → moment_verdict (moment_text moment ++ rest) ≡ good (length (moment_text moment))
unfolding fits fits_written
good_moment moment rest valid =
    let form = date_fits moment.text moment.form in
    let back = write_back shape moment.text (omega (arith, form.0)) shape_comes_back form.1 in
    let text : List ℕ = map written moment.text in
    let behind : take 32 (text ++ rest) ≡ text = take_at text rest 32 (length-map moment.text written ∙ form.0) in
    moment_judged (moment_text moment ++ rest) text None refl (omega (arith, length-append (moment_text moment) rest, length-moment_text moment)) (sym behind)
    (sym (no_failure (λ p. list_any (λ c. c == p.1) (map written (allowed p.0))) (zip shape text) back.1))
    ∙ ap good (sym (length-moment_text moment))

made : (text : List ℕ) → is_date_time text ≡ true → Moment
made text form = record { text = text; form = form }

one_proof : (b : Bool) → IsProp (b ≡ true)
one_proof b = hlevel props

same_made : (a b : List ℕ) (f : is_date_time a ≡ true) (g : is_date_time b ≡ true) → a ≡ b → made a f ≡ made b g
same_made a b f g e = subst (λ (x : List ℕ). (h : is_date_time x ≡ true) → made a f ≡ made x h) e (λ h. ap (made a) (one_proof (is_date_time a) f h)) g

pub same_moment : (a b : Moment) (r s : List ℕ) → IsMoment a → IsMoment b → moment_text a ++ r ≡ moment_text b ++ s → (a ≡ b) × (r ≡ s)
unfolding made
same_moment a b r s ia ib e =
    let text : moment_text a ≡ moment_text b = sym (take_at (moment_text a) r 36 (length-moment_text a)) ∙ ap (take 36) e ∙ take_at (moment_text b) s 36 (length-moment_text b) in
    let rest : r ≡ s = sym (drop_at (moment_text a) r 36 (length-moment_text a)) ∙ ap (drop 36) e ∙ drop_at (moment_text b) s 36 (length-moment_text b) in
    let fa = date_fits a.text a.form in
    let fb = date_fits b.text b.form in
    let same : a.text ≡ b.text
    = sym (write_back shape a.text (omega (arith, fa.0)) shape_comes_back fa.1).0 ∙ ap (map plain) (ap (drop 4) text) ∙ (write_back shape b.text (omega (arith, fb.0)) shape_comes_back fb.1).0 in
    (same_made a.text b.text a.form b.form same, rest)

pub stands_moment : (bytes : List ℕ) (moment : Moment) → 36 ≤ length bytes → bytes ≡ moment_text moment ++ drop 36 bytes → IsAtFront moment_text IsMoment bytes moment 36
stands_moment bytes moment long front = record { valid = moment.form; counted = sym (length-moment_text moment); enough = long; front = front }

-- what is written is ASCII
low : ℕ → Bool
low place = list_all (λ c. nat_lt (written c) 128) (allowed place)

shape_low : list_all low shape ≡ true
unfolding low
shape_low = refl

low_in : (xs : List ℕ) (c : ℕ) → list_all (λ x. nat_lt (written x) 128) xs ≡ true → list_any (λ x. x == c) xs ≡ true → written c < 128
low_in [] c all any = cc any
low_in (x ∷ xs) c all any = elim (cases_Bool (nat_lt (written x) 128)) [
  | inl t ↦ elim (cases_Bool (x == c)) [
    | inl same ↦ let e : x ≡ c = eqb-true x c same in subst (λ z. written z < 128) e (ltb-true (written x) 128 t)
    | inr other ↦ low_in xs c (rw t at all) (rw other at any)
  ]
  | inr f ↦ cc (rw f at all)
]

low_text : (places text : List ℕ) → length text ≡ length places → list_all low places ≡ true → list_all fits (zip places text) ≡ true → IsAscii (map written text)
unfolding low fits
low_text places [] len lows all = IsAscii-nil
low_text [] (c ∷ text) len lows all = absurd (omega arith)
low_text (p ∷ places) (c ∷ text) len lows all = elim (cases_Bool (low p)) [
  | inl t ↦ elim (cases_Bool (fits (p, c))) [
    | inl u ↦ IsAscii-cons (written c) (map written text) (low_in (allowed p) c t u) (low_text places text (omega arith) (rw t at lows) (rw u at all))
    | inr v ↦ cc (rw v at all)
  ]
  | inr f ↦ cc (rw f at lows)
]

pub moment_ascii : (moment : Moment) → IsAscii (moment_text moment)
moment_ascii moment =
    let form = date_fits moment.text moment.form in
    IsAscii-append (codes "1AAG") (map written moment.text) (low_at (codes "1AAG") refl) (low_text shape moment.text (omega (arith, form.0)) shape_low form.1)
