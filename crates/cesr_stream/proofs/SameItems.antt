-- A text spells one item at most.
use Rattle.std.proofs.Common.{◌≡◌, ℕ, ◌≤◌, ◌==◌, ◌*◌, ◌/◌, Bool, true, false, ◌⊎◌, inl, inr, List, [], ◌∷◌, ◌++◌, length, drop, append-nil, slice_index, flat_map, refl, sym, ap, ◌∙◌, arith, append_assoc, length-append, All, subst}
use Rattle.std.proofs.lemmas.Bool.{eqb-false}
use Rattle.std.proofs.lemmas.List.Elements.{All-head, All-tail}
use Rattle.lists.specs.KeriSpecs.Base64.{base64_text}
use Rattle.cesr_codes.specs.declared.key.Key.{Key}
use Rattle.cesr_codes.specs.declared.key.KeyCode.TheVariants.{Fixed}
use Rattle.cesr_codes.specs.declared.sig.Sig.{Sig}
use Rattle.cesr_codes.specs.declared.indexed_sig.IndexedSig.{IndexedSig}
use Rattle.cesr_codes.specs.Indexed.{indexed_text, IsIndexed}
use Rattle.cesr_codes.specs.Moments.{moment_text, IsMoment}
use Rattle.cesr_codes.specs.Spelling.{key_text, sig_text, number_text, digest_text, IsKey, IsSig, IsNumber, IsDigest}
use Rattle.cesr_codes.proofs.FixedKeys.{one_proof}
use Rattle.cesr_codes.proofs.Numbers.{length-base64_text, same_digits}
use Rattle.cesr_codes.proofs.Same.{same_front, same_key, same_sig, same_number, same_digest, same_moment, same_indexed}
use Rattle.cesr_stream.specs.declared.anchor_couple.AnchorCouple.{AnchorCouple}
use Rattle.cesr_stream.specs.declared.couple.Couple.{Couple}
use Rattle.cesr_stream.specs.declared.group.Group.{Group}
use Rattle.cesr_stream.specs.declared.group.Group.TheVariants.{Controller, Witness, Couples, FirstSeen, Anchor}
use Rattle.cesr_stream.specs.declared.item.Item.{Item}
use Rattle.cesr_stream.specs.declared.item.Item.TheVariants.{Body, Group as GroupItem, Wrapped}
use Rattle.cesr_stream.specs.declared.seen.Seen.{Seen}
use Rattle.cesr_stream.specs.Texts.{couple_text, seen_text, anchor_text, group_text, wrap_text, SpellsItem}
use Rattle.cesr_stream.specs.Groups.{elements_of}
use Rattle.cesr_stream.specs.Written.{item_text, IsCouple, IsSeen, IsAnchor, IsGroup, IsCounted, IsItem, IsWritable}
use Rattle.cesr_stream.proofs.Sizes.{length-counted, length-couple_text, length-seen_text, length-anchor_text, size_big, size_small}
use Rattle.cesr_stream.proofs.WrittenItems.{four_of, spells_itself}

-- at the front of a text stands one value at most, and what is behind it is fixed
abbrev Same : {E : Type 0} → (E → List ℕ) → (E → Type 0) → Type 0
Same {E} text IsValue = (a b : E) (r s : List ℕ) → IsValue a → IsValue b → text a ++ r ≡ text b ++ s → (a ≡ b) × (r ≡ s)

-- two texts of each value
same-both : {A B : Type 0} (text : A → List ℕ) (text' : B → List ℕ) (IsFirst : A → Type 0) (IsSecond : B → Type 0) → Same text IsFirst → Same text' IsSecond
    → Same (λ (p : A × B). text p.0 ++ text' p.1) (λ (p : A × B). IsFirst p.0 × IsSecond p.1)
same-both text text' IsFirst IsSecond one two a b r s ia ib e =
    let first = one a.0 b.0 (text' a.1 ++ r) (text' b.1 ++ s) ia.0 ib.0
    (sym (append_assoc (text a.0) (text' a.1) r) ∙ e ∙ append_assoc (text b.0) (text' b.1) s) in
    let second = two a.1 b.1 r s ia.1 ib.1 first.1 in
    ((λ i. (first.0 i, second.0 i)), second.1)

made : (key : Key) (sig : Sig) → key.code ≡ Fixed → Couple
made key sig fixed = record { key = key; sig = sig; fixed = fixed }

same_made : (p q : Key × Sig) (f : p.0.code ≡ Fixed) (g : q.0.code ≡ Fixed) → p ≡ q → made p.0 p.1 f ≡ made q.0 q.1 g
same_made p q f g e = subst (λ (x : Key × Sig). (h : x.0.code ≡ Fixed) → made p.0 p.1 f ≡ made x.0 x.1 h) e (λ h. ap (made p.0 p.1) (one_proof p.0.code f h)) g

same_couple : Same couple_text IsCouple
unfolding made
same_couple a b r s ia ib e =
    let found = same-both key_text sig_text IsKey IsSig same_key same_sig (a.key, a.sig) (b.key, b.sig) r s ia ib e in
    (same_made (a.key, a.sig) (b.key, b.sig) a.fixed b.fixed found.0, found.1)

same_seen : Same seen_text IsSeen
same_seen a b r s ia ib e =
    let found = same-both number_text moment_text IsNumber IsMoment same_number same_moment (a.number, a.moment) (b.number, b.moment) r s ia ib e in
    (λ i. record { number = (found.0 i).0; moment = (found.0 i).1 }, found.1)

same_anchor : Same anchor_text IsAnchor
same_anchor a b r s ia ib e =
    let found = same-both number_text digest_text IsNumber IsDigest same_number same_digest (a.number, a.digest) (b.number, b.digest) r s ia ib e in
    (λ i. record { number = (found.0 i).0; digest = (found.0 i).1 }, found.1)

-- as many values one behind the other
same-all : {E : Type 0} (text : E → List ℕ) (IsValue : E → Type 0) → Same text IsValue → (xs ys : List E) (r s : List ℕ) → length xs ≡ length ys
    → All IsValue xs → All IsValue ys
    → flat_map text xs ++ r ≡ flat_map text ys ++ s → (xs ≡ ys) × (r ≡ s)
same-all text IsValue same [] [] r s len ia ib e = (refl, e)
same-all text IsValue same [] (y ∷ ys) r s len ia ib e = absurd (omega (arith, len))
same-all text IsValue same (x ∷ xs) [] r s len ia ib e = absurd (omega (arith, len))
same-all text IsValue same (x ∷ xs) (y ∷ ys) r s len ia ib e =
    let first = same x y (flat_map text xs ++ r) (flat_map text ys ++ s) (All-head IsValue x xs ia) (All-head IsValue y ys ib)
    (sym (append_assoc (text x) (flat_map text xs) r) ∙ e ∙ append_assoc (text y) (flat_map text ys) s) in
    let rest = same-all text IsValue same xs ys r s (omega (arith, len)) (All-tail IsValue x xs ia) (All-tail IsValue y ys ib) first.1 in
    ((λ i. first.0 i ∷ rest.0 i), rest.1)

-- values one behind the other, where nothing is behind them
same-only : {E : Type 0} (text : E → List ℕ) (IsValue : E → Type 0) → Same text IsValue → ((e : E) → 4 ≤ length (text e)) → (xs ys : List E) → All IsValue xs
    → All IsValue ys
    → flat_map text xs ≡ flat_map text ys → xs ≡ ys
same-only text IsValue same some [] [] ia ib e = refl
same-only text IsValue same some [] (y ∷ ys) ia ib e = absurd (omega (arith, ap length e, length-append (text y) (flat_map text ys), some y))
same-only text IsValue same some (x ∷ xs) [] ia ib e = absurd (omega (arith, ap length e, length-append (text x) (flat_map text xs), some x))
same-only text IsValue same some (x ∷ xs) (y ∷ ys) ia ib e =
    let first = same x y (flat_map text xs) (flat_map text ys) (All-head IsValue x xs ia) (All-head IsValue y ys ib) e in
    let rest = same-only text IsValue same some xs ys (All-tail IsValue x xs ia) (All-tail IsValue y ys ib) first.1 in
    λ i. first.0 i ∷ rest i

-- a counter counts all of them, or nothing is behind them
abbrev Ends : ℕ → List ℕ → List ℕ → Type 0
Ends count r s = (count ≤ 4095) ⊎ ((r ≡ []) × (s ≡ []))

-- a counter's letter, its count and what it counts
module _ {E : Type 0} (text : E → List ℕ) (IsValue : E → Type 0) (same : Same text IsValue) (some : (e : E) → 60 ≤ length (text e)) where
  abbrev counted : ℕ → List E → List ℕ → List ℕ
  counted letter es rest = 45 ∷ letter ∷ (base64_text 2 (length es) ++ flat_map text es) ++ rest

  same_counted : (letter : ℕ) (xs ys : List E) (r s : List ℕ) → length xs ≤ 4095 → Ends (length ys) r s → All IsValue xs → All IsValue ys
      → counted letter xs r ≡ counted letter ys s → (xs ≡ ys) × (r ≡ s)
  same_counted letter xs ys r s few ends ia ib e = at ends
    where
      digits : (base64_text 2 (length xs) ≡ base64_text 2 (length ys)) × (flat_map text xs ++ r ≡ flat_map text ys ++ s)
      digits =
          same_front 2 (base64_text 2 (length xs)) (base64_text 2 (length ys)) (flat_map text xs ++ r) (flat_map text ys ++ s)
          (length-base64_text 2 (length xs)) (length-base64_text 2 (length ys))
          (sym (append_assoc (base64_text 2 (length xs)) (flat_map text xs) r) ∙ ap (drop 2) e ∙ append_assoc (base64_text 2 (length ys)) (flat_map text ys) s)

      at : Ends (length ys) r s → (xs ≡ ys) × (r ≡ s)
      at (inl few') =
          same-all text IsValue same xs ys r s (same_digits 2 (length xs) (length ys) (omega (arith, few)) (omega (arith, few')) digits.0) ia ib digits.1
      at (inr none) =
          let alone : flat_map text xs ≡ flat_map text ys
          = sym (ap (λ t. flat_map text xs ++ t) none.0 ∙ append-nil (flat_map text xs)) ∙ digits.1 ∙ ap (λ t. flat_map text ys ++ t) none.1
          ∙ append-nil (flat_map text ys) in
          (same-only text IsValue same (λ e. omega (arith, some e)) xs ys ia ib alone, none.0 ∙ sym none.1)

  -- so short a text has so few elements
  few_in : (letter : ℕ) (es : List E) → length (45 ∷ letter ∷ (base64_text 2 (length es) ++ flat_map text es)) ≤ 16384 → length es ≤ 4095
  few_in letter es short = omega (arith, short, length-counted letter (length es) (flat_map text es), least es)
    where
      least : (es : List E) → 60 * length es ≤ length (flat_map text es)
      least [] = omega arith
      least (e ∷ es) = omega (arith, least es, some e, length-append (text e) (flat_map text es))

-- texts with different letters differ
apart : {A : Type 0} (letter letter' : ℕ) (x y : List ℕ) → (letter == letter') ≡ false → 45 ∷ letter ∷ x ≡ 45 ∷ letter' ∷ y → A
apart letter letter' x y other e = absurd (eqb-false letter letter' other (ap (λ text. slice_index text 1) e))

some_indexed : (s : IndexedSig) → 60 ≤ length (indexed_text s)
some_indexed s = at s.big refl
  where
    at : (big : Bool) → s.big ≡ big → 60 ≤ length (indexed_text s)
    at true e = omega (arith, size_big s e)
    at false e = omega (arith, size_small s e)

some_couple : (couple : Couple) → 60 ≤ length (couple_text couple)
some_couple couple = omega (arith, length-couple_text couple)

some_seen : (seen : Seen) → 60 ≤ length (seen_text seen)
some_seen seen = omega (arith, length-seen_text seen)

some_anchor : (anchor : AnchorCouple) → 60 ≤ length (anchor_text anchor)
some_anchor anchor = omega (arith, length-anchor_text anchor)

-- a group, whose letter is that of its kind
same_group : (a b : Group) (r s : List ℕ) → IsGroup a → IsGroup b → IsCounted a → Ends (elements_of b) r s → group_text a ++ r ≡ group_text b ++ s
    → (a ≡ b) × (r ≡ s)
same_group (Controller xs) (Controller ys) r s ia ib few ends e =
    let found = same_counted indexed_text IsIndexed same_indexed some_indexed 65 xs ys r s few ends ia ib e in (ap Controller found.0, found.1)
same_group (Controller xs) (Witness ys) r s ia ib few ends e = apart 65 66 _ _ refl e
same_group (Controller xs) (Couples ys) r s ia ib few ends e = apart 65 67 _ _ refl e
same_group (Controller xs) (FirstSeen ys) r s ia ib few ends e = apart 65 69 _ _ refl e
same_group (Controller xs) (Anchor ys) r s ia ib few ends e = apart 65 71 _ _ refl e
same_group (Witness xs) (Controller ys) r s ia ib few ends e = apart 66 65 _ _ refl e
same_group (Witness xs) (Witness ys) r s ia ib few ends e =
    let found = same_counted indexed_text IsIndexed same_indexed some_indexed 66 xs ys r s few ends ia ib e in (ap Witness found.0, found.1)
same_group (Witness xs) (Couples ys) r s ia ib few ends e = apart 66 67 _ _ refl e
same_group (Witness xs) (FirstSeen ys) r s ia ib few ends e = apart 66 69 _ _ refl e
same_group (Witness xs) (Anchor ys) r s ia ib few ends e = apart 66 71 _ _ refl e
same_group (Couples xs) (Controller ys) r s ia ib few ends e = apart 67 65 _ _ refl e
same_group (Couples xs) (Witness ys) r s ia ib few ends e = apart 67 66 _ _ refl e
same_group (Couples xs) (Couples ys) r s ia ib few ends e =
    let found = same_counted couple_text IsCouple same_couple some_couple 67 xs ys r s few ends ia ib e in (ap Couples found.0, found.1)
same_group (Couples xs) (FirstSeen ys) r s ia ib few ends e = apart 67 69 _ _ refl e
same_group (Couples xs) (Anchor ys) r s ia ib few ends e = apart 67 71 _ _ refl e
same_group (FirstSeen xs) (Controller ys) r s ia ib few ends e = apart 69 65 _ _ refl e
same_group (FirstSeen xs) (Witness ys) r s ia ib few ends e = apart 69 66 _ _ refl e
same_group (FirstSeen xs) (Couples ys) r s ia ib few ends e = apart 69 67 _ _ refl e
same_group (FirstSeen xs) (FirstSeen ys) r s ia ib few ends e =
    let found = same_counted seen_text IsSeen same_seen some_seen 69 xs ys r s few ends ia ib e in (ap FirstSeen found.0, found.1)
same_group (FirstSeen xs) (Anchor ys) r s ia ib few ends e = apart 69 71 _ _ refl e
same_group (Anchor xs) (Controller ys) r s ia ib few ends e = apart 71 65 _ _ refl e
same_group (Anchor xs) (Witness ys) r s ia ib few ends e = apart 71 66 _ _ refl e
same_group (Anchor xs) (Couples ys) r s ia ib few ends e = apart 71 67 _ _ refl e
same_group (Anchor xs) (FirstSeen ys) r s ia ib few ends e = apart 71 69 _ _ refl e
same_group (Anchor xs) (Anchor ys) r s ia ib few ends e =
    let found = same_counted anchor_text IsAnchor same_anchor some_anchor 71 xs ys r s few ends ia ib e in (ap Anchor found.0, found.1)

few_of : (g : Group) → length (group_text g) ≤ 16384 → IsCounted g
few_of (Controller es) short = few_in indexed_text IsIndexed same_indexed some_indexed 65 es short
few_of (Witness es) short = few_in indexed_text IsIndexed same_indexed some_indexed 66 es short
few_of (Couples es) short = few_in couple_text IsCouple same_couple some_couple 67 es short
few_of (FirstSeen es) short = few_in seen_text IsSeen same_seen some_seen 69 es short
few_of (Anchor es) short = few_in anchor_text IsAnchor same_anchor some_anchor 71 es short

-- the groups of a wrap
same_groups : (gs hs : List Group) → All IsGroup gs → All IsGroup hs → All IsCounted gs → length (flat_map group_text hs) ≤ 16380
    → flat_map group_text gs ≡ flat_map group_text hs → gs ≡ hs
same_groups [] [] ia ib few short e = refl
same_groups [] (h ∷ hs) ia ib few short e = absurd (omega (arith, ap length e, length-append (group_text h) (flat_map group_text hs), four_of h))
same_groups (g ∷ gs) [] ia ib few short e = absurd (omega (arith, ap length e, length-append (group_text g) (flat_map group_text gs), four_of g))
same_groups (g ∷ gs) (h ∷ hs) ia ib few short e =
    let sum = length-append (group_text h) (flat_map group_text hs) in
    let first = same_group g h (flat_map group_text gs) (flat_map group_text hs) (All-head IsGroup g gs ia) (All-head IsGroup h hs ib)
    (All-head IsCounted g gs few)
    (inl (few_of h (omega (arith, short, sum)))) e in
    let rest = same_groups gs hs (All-tail IsGroup g gs ia) (All-tail IsGroup h hs ib) (All-tail IsCounted g gs few) (omega (arith, short, sum)) first.1 in
    λ i. first.0 i ∷ rest i

-- a group has no wrap's letter, and begins with a dash
no_wrap : {A : Type 0} (g : Group) (hs : List Group) → group_text g ≡ wrap_text hs → A
no_wrap (Controller es) hs e = apart 65 86 _ _ refl e
no_wrap (Witness es) hs e = apart 66 86 _ _ refl e
no_wrap (Couples es) hs e = apart 67 86 _ _ refl e
no_wrap (FirstSeen es) hs e = apart 69 86 _ _ refl e
no_wrap (Anchor es) hs e = apart 71 86 _ _ refl e

dash : (g : Group) → slice_index (group_text g) 0 ≡ 45
dash (Controller es) = refl
dash (Witness es) = refl
dash (Couples es) = refl
dash (FirstSeen es) = refl
dash (Anchor es) = refl

no_brace : {A : Type 0} (first : ℕ) → first ≡ 45 → first ≡ 123 → A
no_brace first e f = absurd (omega (arith, e, f))

-- no other item is spelled by an item's text
pub same_item : (item other : Item) → IsItem item → IsItem other → IsWritable item → SpellsItem (item_text item) other → other ≡ item
same_item (Body x) (Body y) ia ib writable e = ap Body (sym e.0)
same_item (Body x) (GroupItem h) ia ib writable e = no_brace (slice_index x 0) (ap (λ t. slice_index t 0) e ∙ dash h) (spells_itself (Body x) writable).1
same_item (Body x) (Wrapped hs) ia ib writable e = no_brace (slice_index x 0) (ap (λ t. slice_index t 0) e) (spells_itself (Body x) writable).1
same_item (GroupItem g) (Body y) ia ib writable e = no_brace (slice_index (group_text g) 0) (dash g) e.1
same_item (GroupItem g) (GroupItem h) ia ib writable e =
    ap GroupItem (sym (same_group g h [] [] ia ib writable (inr (refl, refl)) (append-nil (group_text g) ∙ e ∙ sym (append-nil (group_text h)))).0)
same_item (GroupItem g) (Wrapped hs) ia ib writable e = no_wrap g hs e
same_item (Wrapped gs) (Body y) ia ib writable e = no_brace (slice_index (wrap_text gs) 0) refl e.1
same_item (Wrapped gs) (GroupItem h) ia ib writable e = no_wrap h gs (sym e)
same_item (Wrapped gs) (Wrapped hs) ia ib writable e =
    let ga = flat_map group_text gs in
    let gb = flat_map group_text hs in
    let texts : ga ≡ gb
    = (same_front 2 (base64_text 2 (length ga / 4)) (base64_text 2 (length gb / 4)) ga gb
    (length-base64_text 2 (length ga / 4)) (length-base64_text 2 (length gb / 4)) (ap (drop 2) e)).1 in
    ap Wrapped (sym (same_groups gs hs ia ib writable.0 (omega (arith, writable.1, ap length texts)) texts))
