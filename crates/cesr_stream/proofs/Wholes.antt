-- The texts of elements and groups are whole parts at the front of any bytes, where a wrap has room for them.
use Rattle.std.proofs.Common.{◌≡◌, ℕ, ◌+◌, ◌≤◌, ◌==◌, Bool, true, false, List, [], ◌∷◌, ◌++◌, length, drop, flat_map, refl, sym, ap, ◌∙◌, arith, inl, inr, append_assoc, length-append, Option, None, Some, All, lit≤}
use Rattle.std.specs.List.{list_all}
use Rattle.std.proofs.lemmas.Bool.{cases_Bool, eqb-true, false_from_ne_true, le-ltb}
use Rattle.std.proofs.lemmas.List.{drop_at}
use Rattle.std.proofs.lemmas.List.Elements.{All-head, All-tail}
use Rattle.lists.specs.KeriSpecs.Base64.{base64_text, is_character, number_of_text}
use Rattle.cesr_codes.specs.declared.key.KeyCode.TheVariants.{Fixed}
use Rattle.cesr_codes.specs.declared.indexed_sig.IndexedSig.{IndexedSig}
use Rattle.cesr_codes.specs.Dates.{moment_verdict}
use Rattle.cesr_codes.specs.Indexed.{indexed_text, IsIndexed}
use Rattle.cesr_codes.specs.Moments.{moment_text, IsMoment}
use Rattle.cesr_codes.specs.declared.key.Key.{Key}
use Rattle.cesr_codes.specs.Spelling.{primitive_text, key_code, key_text, sig_text, number_text, digest_text, IsKey, IsSig, IsNumber, IsDigest}
use Rattle.cesr_codes.specs.Table.{Layout, Verdict, good, verdict, fixed_layouts, sig_layouts, number_layouts, digest_layouts, indexed_layouts}
use Rattle.cesr_codes.proofs.Basic.{primitive_good, good_digest}
use Rattle.cesr_codes.proofs.Dates.{good_moment}
use Rattle.cesr_codes.proofs.Figures.{good_number}
use Rattle.cesr_codes.proofs.Indexed.{good_indexed}
use Rattle.cesr_codes.proofs.Numbers.{number-text, characters-text, length-base64_text}
use Rattle.cesr_codes.proofs.Same.{length-key_text, length-sig_text, length-number_text, length-digest_text, length-moment_text}
use Rattle.cesr_codes.proofs.Sigs.{good_sig}
use Rattle.cesr_stream.specs.declared.group.Group.{Group}
use Rattle.cesr_stream.specs.declared.group.Group.TheVariants.{Controller, Witness, Couples, FirstSeen, Anchor}
use Rattle.cesr_stream.specs.Parts.{Part, whole, shifted, less, followed_by}
use Rattle.cesr_stream.specs.Front.{is_past, primitive_part, moment_layouts, pair_part, key_part, sig_part, number_part, digest_part, moment_part, signature_part, couple_part, seen_part, anchor_part, is_group, element_part, elements_part, counter_part, count_of, counted_part, group_part}
use Rattle.cesr_stream.specs.Texts.{couple_text, seen_text, anchor_text, group_text}
use Rattle.cesr_stream.specs.Written.{IsCouple, IsSeen, IsAnchor, IsGroup, IsCounted}
use Rattle.cesr_stream.proofs.Primitives.{Judging, judging-verdict, judging-moment_verdict}
use Rattle.cesr_stream.proofs.Sizes.{length-counted, size_big, size_small}

-- a wrap, where there is one, has room for so many characters
abbrev pub HasRoom : Option ℕ → ℕ → Type 0
HasRoom None n = Unit {0}
HasRoom (Some room) n = n ≤ room

room-less : (room : Option ℕ) (m n k : ℕ) → m + n ≡ k → HasRoom room k → HasRoom room m × HasRoom (less m room) n
room-less None m n k e has = (tt, tt)
room-less (Some room) m n k e has = (omega (arith, e, has), omega (arith, e, has))

-- a text is a whole part, where there is room, whatever follows
abbrev pub IsWhole : {E : Type 0} → (Option ℕ → List ℕ → Part) → (E → List ℕ) → (E → Type 0) → Type 0
IsWhole {E} part text IsValue = (e : E) (room : Option ℕ) (rest : List ℕ) → IsValue e → HasRoom room (length (text e)) → part room (text e ++ rest) ≡ whole (length (text e))

-- one part behind another
pub whole-followed_by : (first : List ℕ → Part) (next : ℕ → List ℕ → Part) (x y rest : List ℕ) → first (x ++ (y ++ rest)) ≡ whole (length x)
    → next (length x) (y ++ rest) ≡ whole (length y)
    → followed_by (first ((x ++ y) ++ rest)) next ((x ++ y) ++ rest) ≡ whole (length (x ++ y))
whole-followed_by first next x y rest is is' =
    ap (λ bytes. followed_by (first bytes) next bytes) (append_assoc x y rest)
    ∙ ap (λ part. followed_by part next (x ++ (y ++ rest))) is
    ∙ ap (λ behind. shifted (length x) (next (length x) behind)) (drop_at x (y ++ rest) (length x) refl)
    ∙ ap (shifted (length x)) is' ∙ ap whole (sym (length-append x y))

not_past : (room : Option ℕ) (n : ℕ) → 1 ≤ n → HasRoom room n → is_past room (Some n) ≡ false
not_past None n some has = refl
not_past (Some room) n some has =
    rw (false_from_ne_true (room == 0) (λ e. omega (arith, some, has, eqb-true room 0 e)), le-ltb room n has) refl

-- a primitive of so many characters
whole-primitive : {E : Type 0} (layouts : List Layout) (judge : List ℕ → Verdict) (text : E → List ℕ) (IsValue : E → Type 0) (most : ℕ) → Judging most layouts judge
    → ((e : E) → 1 ≤ length (text e)) → ((e : E) (rest : List ℕ) → IsValue e → judge (text e ++ rest) ≡ good (length (text e))) → IsWhole (primitive_part layouts judge) text IsValue
whole-primitive layouts judge text IsValue most judging some judged e room rest valid has =
    let is = judged e rest valid in
    rw (judging.shows (text e ++ rest) (length (text e)) is, not_past room (length (text e)) (some e) has, is) refl

whole_signature : IsWhole signature_part indexed_text IsIndexed
whole_signature =
    whole-primitive indexed_layouts (verdict indexed_layouts) indexed_text IsIndexed 92 (judging-verdict 92 indexed_layouts refl (lit≤ tt))
    (λ (s : IndexedSig). some s s.big refl) good_indexed
  where
    some : (s : IndexedSig) (big : Bool) → s.big ≡ big → 1 ≤ length (indexed_text s)
    some s true e = omega (arith, size_big s e)
    some s false e = omega (arith, size_small s e)

-- a key that can't be rotated
good_fixed : (key : Key) (rest : List ℕ) → (key.code ≡ Fixed) × IsKey key → verdict fixed_layouts (key_text key ++ rest) ≡ good (length (key_text key))
good_fixed key rest valid =
    ap (λ code. verdict fixed_layouts (primitive_text (key_code code) key.raw ++ rest)) valid.0
    ∙ rw (le-ltb (length (primitive_text 66 key.raw ++ rest)) 1 (omega arith)) (primitive_good 66 key.raw rest refl valid.1 refl)
    ∙ ap good (sym (length-key_text key))

whole_key : IsWhole key_part key_text (λ key. (key.code ≡ Fixed) × IsKey key)
whole_key =
    whole-primitive fixed_layouts (verdict fixed_layouts) key_text (λ key. (key.code ≡ Fixed) × IsKey key) 44 (judging-verdict 44 fixed_layouts refl (lit≤ tt))
    (λ key. omega (arith, length-key_text key)) good_fixed

whole_sig : IsWhole sig_part sig_text IsSig
whole_sig =
    whole-primitive sig_layouts (verdict sig_layouts) sig_text IsSig 88 (judging-verdict 88 sig_layouts refl (lit≤ tt)) (λ sig. omega (arith, length-sig_text sig)) good_sig

whole_number : IsWhole number_part number_text IsNumber
whole_number =
    whole-primitive number_layouts (verdict number_layouts) number_text IsNumber 24 (judging-verdict 24 number_layouts refl (lit≤ tt))
    (λ n. omega (arith, length-number_text n)) good_number

whole_moment : IsWhole moment_part moment_text IsMoment
whole_moment = whole-primitive moment_layouts moment_verdict moment_text IsMoment 36 judging-moment_verdict (λ m. omega (arith, length-moment_text m)) good_moment

whole_digest : IsWhole digest_part digest_text IsDigest
whole_digest =
    whole-primitive digest_layouts (verdict digest_layouts) digest_text IsDigest 44 (judging-verdict 44 digest_layouts refl (lit≤ tt))
    (λ d. omega (arith, length-digest_text d)) good_digest

-- one primitive behind another
module _ {A B : Type 0} (first second : Option ℕ → List ℕ → Part) (text : A → List ℕ) (text' : B → List ℕ) (IsFirst : A → Type 0) (IsSecond : B → Type 0) where
  whole-pair : IsWhole first text IsFirst → IsWhole second text' IsSecond
      → IsWhole (pair_part first second) (λ (p : A × B). text p.0 ++ text' p.1) (λ (p : A × B). IsFirst p.0 × IsSecond p.1)
  whole-pair one two p room rest valid has =
      let a = text p.0 in
      let b = text' p.1 in
      let rooms = room-less room (length a) (length b) (length (a ++ b)) (sym (length-append a b)) has in
      whole-followed_by (first room) (λ n. second (less n room)) a b rest (one p.0 room (b ++ rest) valid.0 rooms.0)
      (two p.1 (less (length a) room) rest valid.1 rooms.1)

whole_couple : IsWhole couple_part couple_text IsCouple
whole_couple c room rest valid has =
    whole-pair key_part sig_part key_text sig_text (λ key. (key.code ≡ Fixed) × IsKey key) IsSig whole_key whole_sig (c.key, c.sig) room rest
    ((c.fixed, valid.0), valid.1) has

whole_seen : IsWhole seen_part seen_text IsSeen
whole_seen s = whole-pair number_part moment_part number_text moment_text IsNumber IsMoment whole_number whole_moment (s.number, s.moment)

whole_anchor : IsWhole anchor_part anchor_text IsAnchor
whole_anchor a = whole-pair number_part digest_part number_text digest_text IsNumber IsDigest whole_number whole_digest (a.number, a.digest)

-- elements one behind the other
whole-elements : {E : Type 0} (part : Option ℕ → List ℕ → Part) (text : E → List ℕ) (IsValue : E → Type 0) → IsWhole part text IsValue
    → (es : List E) (room : Option ℕ) (rest : List ℕ) → All IsValue es
    → HasRoom room (length (flat_map text es)) → elements_part part (length es) room (flat_map text es ++ rest) ≡ whole (length (flat_map text es))
unfolding elements_part
whole-elements part text IsValue one [] room rest all has = refl
whole-elements part text IsValue one (e ∷ es) room rest all has =
    let rooms = room-less room (length (text e)) (length (flat_map text es)) (length (text e ++ flat_map text es))
    (sym (length-append (text e) (flat_map text es))) has in
    whole-followed_by (part room) (λ n. elements_part part (length es) (less n room)) (text e) (flat_map text es) rest
    (one e room (flat_map text es ++ rest) (All-head IsValue e es all) rooms.0)
    (whole-elements part text IsValue one es (less (length (text e)) room) rest (All-tail IsValue e es all) rooms.1)

-- a counter with two digits, and its count
pub whole_counter : (letter count : ℕ) (rest : List ℕ) → count ≤ 4095 → let bytes : List ℕ = 45 ∷ letter ∷ (base64_text 2 count ++ rest) in
    (counter_part true bytes ≡ whole 4) × (count_of bytes ≡ count) × (drop 4 bytes ≡ rest)
unfolding counter_part
whole_counter letter count rest few =
    let found = at (base64_text 2 count) (length-base64_text 2 count) (characters-text 2 count) in
    (found.0, found.1 ∙ number-text 2 count (omega (arith, few)), found.2)
  where
    at : (digits : List ℕ) → length digits ≡ 2 → list_all is_character digits ≡ true
        → (counter_part true (45 ∷ letter ∷ (digits ++ rest)) ≡ whole 4) × (count_of (45 ∷ letter ∷ (digits ++ rest)) ≡ number_of_text digits) ×
        (drop 4 (45 ∷ letter ∷ (digits ++ rest)) ≡ rest)
    at [] len all = absurd (omega (arith, len))
    at (a ∷ []) len all = absurd (omega (arith, len))
    at (a ∷ b ∷ c ∷ digits) len all = absurd (omega (arith, len))
    at (a ∷ b ∷ []) len all = elim (cases_Bool (is_character a)) [
      | inr f ↦ cc (rw f at all)
      | inl t ↦ elim (cases_Bool (is_character b)) [
        | inr g ↦ cc (rw (t, g) at all)
        | inl u ↦
            let long : List ℕ = 45 ∷ letter ∷ a ∷ b ∷ rest in
            (rw (le-ltb (length long) 2 (omega arith), le-ltb (length long) 4 (omega arith), t, u) refl, refl, refl)
      ]
    ]

-- a counter and what it counts
whole-counted : {E : Type 0} (letter : ℕ) (text : E → List ℕ) (IsValue : E → Type 0) → is_group letter ≡ true → IsWhole (element_part letter) text IsValue
    → (es : List E) (room : Option ℕ) (rest : List ℕ) → All IsValue es
    → length es ≤ 4095 → let bytes : List ℕ = 45 ∷ letter ∷ (base64_text 2 (length es) ++ flat_map text es) in HasRoom room (length bytes)
    → group_part room (bytes ++ rest) ≡ whole (length bytes)
unfolding group_part counted_part
whole-counted letter text IsValue group one es room rest all few has =
    let counter = whole_counter letter (length es) (flat_map text es ++ rest) few in
    let rooms = room-less room 4 (length (flat_map text es)) (length (45 ∷ letter ∷ (base64_text 2 (length es) ++ flat_map text es)))
    (sym (length-counted letter (length es) (flat_map text es))) has in
    ap (λ text. group_part room (45 ∷ letter ∷ text)) (append_assoc (base64_text 2 (length es)) (flat_map text es) rest)
    ∙ rw (group, counter.0, counter.1, counter.2)
    (ap (shifted 4) (whole-elements (element_part letter) text IsValue one es (less 4 room) rest all rooms.1)
    ∙ ap whole (sym (length-counted letter (length es) (flat_map text es))))

pub whole_group : (g : Group) (room : Option ℕ) (rest : List ℕ) → IsGroup g → IsCounted g → HasRoom room (length (group_text g))
    → group_part room (group_text g ++ rest) ≡ whole (length (group_text g))
whole_group (Controller sigs) room rest valid few has = whole-counted 65 indexed_text IsIndexed refl whole_signature sigs room rest valid few has
whole_group (Witness sigs) room rest valid few has = whole-counted 66 indexed_text IsIndexed refl whole_signature sigs room rest valid few has
whole_group (Couples couples) room rest valid few has = whole-counted 67 couple_text IsCouple refl whole_couple couples room rest valid few has
whole_group (FirstSeen seen) room rest valid few has = whole-counted 69 seen_text IsSeen refl whole_seen seen room rest valid few has
whole_group (Anchor anchors) room rest valid few has = whole-counted 71 anchor_text IsAnchor refl whole_anchor anchors room rest valid few has
