-- The texts of groups are characters, in fours, behind a dash.
use Rattle.std.proofs.Common.{◌≡◌, ℕ, ◌/◌, ◌≤◌, ◌==◌, Bool, true, false, List, [], ◌∷◌, ◌++◌, length, map, flat_map, codes, refl, arith, inl, inr}
use Rattle.std.proofs.Common.{Some, None, length-append, slice_index, subst}
use Rattle.std.specs.List.{list_all, list_any, zip}
use Rattle.std.specs.declared.option.Option.{Option}
use Rattle.std.proofs.lemmas.Bool.{cases_Bool, eqb-true}
use Rattle.lists.specs.KeriSpecs.Base64.{base64_text, is_character, whole_number}
use Rattle.std.specs.Option.{is_none}
use Rattle.cesr_codes.specs.Dates.{shape, allowed, written, first_misfit, is_date_time}
use Rattle.cesr_codes.specs.Indexed.{indexed_text}
use Rattle.cesr_codes.specs.Indices.{indexed_code, index_text}
use Rattle.cesr_codes.specs.Moments.{moment_text}
use Rattle.cesr_codes.specs.Spelling.{key_code, digest_code, key_text, sig_text, number_text, digest_text}
use Rattle.cesr_codes.specs.declared.digest.Digest.{Digest}
use Rattle.cesr_codes.specs.declared.digest.DigestCode.{DigestCode}
use Rattle.cesr_codes.specs.declared.digest.DigestCode.TheVariants.{Blake3, Sha256}
use Rattle.cesr_codes.specs.declared.indexed_sig.IndexedSig.{IndexedSig}
use Rattle.cesr_codes.specs.declared.key.Key.{Key}
use Rattle.cesr_codes.specs.declared.key.KeyCode.{KeyCode}
use Rattle.cesr_codes.specs.declared.key.KeyCode.TheVariants.{Fixed, Rotating}
use Rattle.cesr_codes.specs.declared.moment.Moment.{Moment}
use Rattle.cesr_codes.specs.declared.number.Number.{Number}
use Rattle.cesr_codes.specs.declared.sig.Sig.{Sig}
use Rattle.cesr_codes.proofs.Numbers.{none_fails, characters-append, characters-text, length-base64_text}
use Rattle.cesr_codes.proofs.Same.{length-key_text, length-sig_text, length-number_text, length-digest_text, length-moment_text}
use Rattle.cesr_stream.specs.declared.anchor_couple.AnchorCouple.{AnchorCouple}
use Rattle.cesr_stream.specs.declared.couple.Couple.{Couple}
use Rattle.cesr_stream.specs.declared.group.Group.{Group}
use Rattle.cesr_stream.specs.declared.group.Group.TheVariants.{Controller, Witness, Couples, FirstSeen, Anchor}
use Rattle.cesr_stream.specs.declared.seen.Seen.{Seen}
use Rattle.cesr_stream.specs.Texts.{couple_text, seen_text, anchor_text, group_text, wrap_text}
use Rattle.cesr_stream.specs.Domains.{IsTurnable}
use Rattle.cesr_stream.proofs.Sizes.{size_big, size_small, length-couple_text, length-seen_text, length-anchor_text, length-counted}

key_characters : (key : Key) → list_all is_character (key_text key) ≡ true
key_characters key = at key.code
  where
    at : (code : KeyCode) → list_all is_character (key_code code ∷ base64_text 43 (whole_number key.raw)) ≡ true
    at Fixed = characters-text 43 (whole_number key.raw)
    at Rotating = characters-text 43 (whole_number key.raw)

digest_characters : (digest : Digest) → list_all is_character (digest_text digest) ≡ true
digest_characters digest = at digest.code
  where
    at : (code : DigestCode) → list_all is_character (digest_code code ∷ base64_text 43 (whole_number digest.raw)) ≡ true
    at Blake3 = characters-text 43 (whole_number digest.raw)
    at Sha256 = characters-text 43 (whole_number digest.raw)

sig_characters : (sig : Sig) → list_all is_character (sig_text sig) ≡ true
sig_characters sig = characters-append (codes "0B") (base64_text 86 (whole_number sig.raw)) refl (characters-text 86 (whole_number sig.raw))

number_characters : (number : Number) → list_all is_character (number_text number) ≡ true
number_characters number = characters-append (codes "0A") (base64_text 22 number.value) refl (characters-text 22 number.value)

code_characters : (big : Bool) (ondex : Option ℕ) → list_all is_character (indexed_code big ondex) ≡ true
code_characters false (Some ondex) = refl
code_characters false None = refl
code_characters true (Some ondex) = refl
code_characters true None = refl

index_characters : (big : Bool) (index : ℕ) (ondex : Option ℕ) → list_all is_character (index_text big index ondex) ≡ true
index_characters false index ondex = characters-text 1 index
index_characters true index (Some ondex) = characters-append (base64_text 2 index) (base64_text 2 ondex) (characters-text 2 index) (characters-text 2 ondex)
index_characters true index None = characters-append (base64_text 2 index) (codes "AA") (characters-text 2 index) refl

indexed_characters : (s : IndexedSig) → list_all is_character (indexed_text s) ≡ true
indexed_characters s =
    characters-append (indexed_code s.big s.ondex ++ index_text s.big s.index s.ondex) (base64_text 86 (whole_number s.sig.raw))
    (characters-append (indexed_code s.big s.ondex) (index_text s.big s.index s.ondex) (code_characters s.big s.ondex)
    (index_characters s.big s.index s.ondex)) (characters-text 86 (whole_number s.sig.raw))

-- each character that may stand in a date-time is written as one of the 64
fits : ℕ × ℕ → Bool
fits p = list_any (λ x. x == p.1) (allowed p.0)

turned : ℕ → Bool
turned place = list_all (λ c. is_character (written c)) (allowed place)

shape_turned : list_all turned shape ≡ true
unfolding turned
shape_turned = refl

turned_in : (xs : List ℕ) (c : ℕ) → list_all (λ x. is_character (written x)) xs ≡ true → list_any (λ x. x == c) xs ≡ true → is_character (written c) ≡ true
turned_in [] c all any = cc any
turned_in (x ∷ xs) c all any = elim (cases_Bool (is_character (written x))) [
  | inl t ↦ elim (cases_Bool (x == c)) [
    | inl same ↦ let e : x ≡ c = eqb-true x c same in subst (λ z. is_character (written z) ≡ true) e t
    | inr other ↦ turned_in xs c (rw t at all) (rw other at any)
  ]
  | inr f ↦ cc (rw f at all)
]

turned_text : (places text : List ℕ) → length text ≡ length places → list_all turned places ≡ true → list_all fits (zip places text) ≡ true
    → list_all is_character (map written text) ≡ true
unfolding turned fits
turned_text places [] len turns all = refl
turned_text [] (c ∷ text) len turns all = absurd (omega arith)
turned_text (p ∷ places) (c ∷ text) len turns all = elim (cases_Bool (turned p)) [
  | inl t ↦ elim (cases_Bool (fits (p, c))) [
    | inl u ↦ rw (turned_in (allowed p) c t u) (turned_text places text (omega arith) (rw t at turns) (rw u at all))
    | inr v ↦ cc (rw v at all)
  ]
  | inr f ↦ cc (rw f at turns)
]

date_fits : (text : List ℕ) → is_date_time text ≡ true → (length text ≡ 32) × (list_all fits (zip shape text) ≡ true)
unfolding fits
date_fits text form = elim (cases_Bool (length text == 32)) [
  | inl t ↦ (
    eqb-true (length text) 32 t,
    none_fails (λ p. list_any (λ c. c == p.1) (allowed p.0)) (zip shape text)
        (none (first_misfit allowed text) (rw t at form)),
  )
  | inr f ↦ cc (rw f at form)
]
  where
    none : (place : Option ℕ) → is_none place ≡ true → place ≡ None
    none None h = refl
    none (Some place) h = cc h

moment_characters : (moment : Moment) → list_all is_character (moment_text moment) ≡ true
unfolding fits
moment_characters moment =
    let form = date_fits moment.text moment.form in
    characters-append (codes "1AAG") (map written moment.text) refl (turned_text shape moment.text (omega (arith, form.0)) shape_turned form.1)

pub turnable_indexed : (s : IndexedSig) → IsTurnable (indexed_text s)
turnable_indexed s = record {
  characters = indexed_characters s;
  fours = elim (cases_Bool s.big) [ inl t ↦ omega (arith, size_big s t) | inr f ↦ omega (arith, size_small s f) ];
}

pub turnable_key : (key : Key) → IsTurnable (key_text key)
turnable_key key = record { characters = key_characters key; fours = omega (arith, length-key_text key) }

pub turnable_sig : (sig : Sig) → IsTurnable (sig_text sig)
turnable_sig sig = record { characters = sig_characters sig; fours = omega (arith, length-sig_text sig) }

pub turnable_number : (number : Number) → IsTurnable (number_text number)
turnable_number number = record { characters = number_characters number; fours = omega (arith, length-number_text number) }

pub turnable_moment : (moment : Moment) → IsTurnable (moment_text moment)
turnable_moment moment = record { characters = moment_characters moment; fours = omega (arith, length-moment_text moment) }

pub turnable_digest : (digest : Digest) → IsTurnable (digest_text digest)
turnable_digest digest = record { characters = digest_characters digest; fours = omega (arith, length-digest_text digest) }

pub turnable_couple : (couple : Couple) → IsTurnable (couple_text couple)
turnable_couple couple = record {
  characters = characters-append (key_text couple.key) (sig_text couple.sig) (key_characters couple.key) (sig_characters couple.sig);
  fours = omega (arith, length-couple_text couple);
}

pub turnable_seen : (seen : Seen) → IsTurnable (seen_text seen)
turnable_seen seen = record {
  characters = characters-append (number_text seen.number) (moment_text seen.moment) (number_characters seen.number) (moment_characters seen.moment);
  fours = omega (arith, length-seen_text seen);
}

pub turnable_anchor : (anchor : AnchorCouple) → IsTurnable (anchor_text anchor)
turnable_anchor anchor = record {
  characters = characters-append (number_text anchor.number) (digest_text anchor.digest) (number_characters anchor.number) (digest_characters anchor.digest);
  fours = omega (arith, length-anchor_text anchor);
}

turnable-all : {E : Type 0} (text : E → List ℕ) → ((e : E) → IsTurnable (text e)) → (es : List E) → IsTurnable (flat_map text es)
turnable-all text each [] = record { characters = refl; fours = refl }
turnable-all text each (e ∷ es) =
    let first = each e in
    let rest = turnable-all text each es in
    record {
      characters = characters-append (text e) (flat_map text es) first.characters rest.characters;
      fours = let f = first.fours in let r = rest.fours in omega (arith, f, r, length-append (text e) (flat_map text es));
    }

turnable-counted : (letter count : ℕ) (text : List ℕ) → is_character letter ≡ true → IsTurnable text → IsTurnable (45 ∷ letter ∷ (base64_text 2 count ++ text))
turnable-counted letter count text good rest = record {
  characters = rw good (characters-append (base64_text 2 count) text (characters-text 2 count) rest.characters);
  fours = let r = rest.fours in omega (arith, r, length-counted letter count text);
}

pub turnable_group : (g : Group) → IsTurnable (group_text g)
turnable_group (Controller sigs) = turnable-counted 65 (length sigs) (flat_map indexed_text sigs) refl (turnable-all indexed_text turnable_indexed sigs)
turnable_group (Witness sigs) = turnable-counted 66 (length sigs) (flat_map indexed_text sigs) refl (turnable-all indexed_text turnable_indexed sigs)
turnable_group (Couples couples) = turnable-counted 67 (length couples) (flat_map couple_text couples) refl (turnable-all couple_text turnable_couple couples)
turnable_group (FirstSeen seen) = turnable-counted 69 (length seen) (flat_map seen_text seen) refl (turnable-all seen_text turnable_seen seen)
turnable_group (Anchor anchors) = turnable-counted 71 (length anchors) (flat_map anchor_text anchors) refl (turnable-all anchor_text turnable_anchor anchors)

pub turnable_wrap : (gs : List Group) → IsTurnable (wrap_text gs)
turnable_wrap gs = turnable-counted 86 (length (flat_map group_text gs) / 4) (flat_map group_text gs) refl (turnable-all group_text turnable_group gs)

pub group_dash : (g : Group) → (slice_index (group_text g) 0 ≡ 45) × (4 ≤ length (group_text g))
group_dash (Controller es) = (refl, omega (arith, length-counted 65 (length es) (flat_map indexed_text es)))
group_dash (Witness es) = (refl, omega (arith, length-counted 66 (length es) (flat_map indexed_text es)))
group_dash (Couples es) = (refl, omega (arith, length-counted 67 (length es) (flat_map couple_text es)))
group_dash (FirstSeen es) = (refl, omega (arith, length-counted 69 (length es) (flat_map seen_text es)))
group_dash (Anchor es) = (refl, omega (arith, length-counted 71 (length es) (flat_map anchor_text es)))

pub wrap_dash : (gs : List Group) → (slice_index (wrap_text gs) 0 ≡ 45) × (4 ≤ length (wrap_text gs))
wrap_dash gs = (refl, omega (arith, length-counted 86 (length (flat_map group_text gs) / 4) (flat_map group_text gs)))

pub turnable_counter : (letter count : ℕ) → is_character letter ≡ true → IsTurnable (45 ∷ letter ∷ base64_text 2 count)
turnable_counter letter count good = record {
  characters = rw good (characters-text 2 count);
  fours = omega (arith, length-base64_text 2 count);
}
