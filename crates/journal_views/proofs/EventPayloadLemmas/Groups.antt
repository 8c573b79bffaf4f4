-- Groups of signatures at the front of bytes.
use Rattle.std.proofs.Common.{◌≡◌, ℕ, zero, suc, ◌≤◌, ◌<◌, ◌&&◌, Bool, true, false, List, [], ◌∷◌, ◌++◌, length, take, drop, codes, bytes_eq, slice_index, All, refl, sym, ap, ap₂, ◌∙◌, arith, length-append, take-append-drop}
use Rattle.std.proofs.lemmas.Bool.{and_right, false_from_ne_true}
use Rattle.std.proofs.lemmas.List.{drop_at}
use Rattle.std.proofs.lemmas.List.Elements.{All-head, All-tail}
use Rattle.std.proofs.lemmas.Slice.Eq.{bytes_eq-Decides}
use Rattle.cesr_codes.specs.Indexed.{IsIndexed}
use Rattle.cesr_codes.specs.declared.indexed_sig.IndexedSig.{IndexedSig}
use Rattle.cesr_stream.specs.Front.{front}
use Rattle.cesr_stream.specs.Parts.{whole, refused, unfinished}
use Rattle.cesr_stream.specs.Texts.{SpellsItem, group_text}
use Rattle.cesr_stream.specs.Written.{item_text}
use Rattle.cesr_stream.specs.declared.bad.BadReason.{BadReason}
use Rattle.cesr_stream.specs.declared.group.Group.TheVariants.{Controller, Witness, Couples, FirstSeen, Anchor}
use Rattle.cesr_stream.specs.declared.item.Item.{Item}
use Rattle.cesr_stream.specs.declared.item.Item.TheVariants.{Body as BodyItem, Group as GroupItem, Wrapped}
use Rattle.cesr_stream.proofs.WrittenItems.{four_of, written_front}
use Rattle.journal_views.specs.EventPayload.Payloads.{are_groups, followed, group_of, groups_text}
use Rattle.journal_views.specs.EventPayload.Steps.{is_held}

-- the bytes begin as a group of the controller's signatures does
abbrev pub begins : List ℕ → Bool
begins bytes = bytes_eq (take 2 bytes) (codes "-A")

first_two : (bytes : List ℕ) → begins bytes ≡ true → (slice_index bytes 0 ≡ 45) × (slice_index bytes 1 ≡ 65)
first_two bytes h = at bytes ((bytes_eq-Decides (take 2 bytes) (codes "-A")).0 h)
  where
    at : (bytes : List ℕ) → take 2 bytes ≡ codes "-A" → (slice_index bytes 0 ≡ 45) × (slice_index bytes 1 ≡ 65)
    at [] e = absurd (omega (arith, ap length e))
    at (a ∷ []) e = absurd (omega (arith, ap length e))
    at (a ∷ b ∷ bytes) e = (ap (λ t. slice_index t 0) e, ap (λ t. slice_index t 1) e)

-- what stands in front, and what is behind it
pub parted : (n : ℕ) (rest text : List ℕ) → take n rest ≡ text → rest ≡ text ++ drop n rest
parted n rest text e = sym (take-append-drop n rest) ∙ ap (λ t. t ++ drop n rest) e

pub held_begins : (n : ℕ) (rest : List ℕ) (sigs : List IndexedSig) → take n rest ≡ group_text (Controller sigs) → begins rest ≡ true
held_begins n rest sigs e = ap begins (parted n rest (group_text (Controller sigs)) e)

brace : (n : ℕ) (rest : List ℕ) → slice_index (take n rest) 0 ≡ 123 → slice_index rest 0 ≡ 123
brace zero rest e = absurd (omega (arith, e))
brace (suc n) [] e = e
brace (suc n) (b ∷ rest) e = e

-- another letter
other : (n : ℕ) (rest more : List ℕ) (letter : ℕ) → take n rest ≡ 45 ∷ letter ∷ more → (letter ≡ 65 → ⊥) → begins rest ≡ false
other n rest more letter e differs =
    let is : slice_index rest 1 ≡ letter = ap (λ t. slice_index t 1) (parted n rest (45 ∷ letter ∷ more) e) in
    false_from_ne_true (begins rest) (λ t. differs (sym is ∙ (first_two rest t).1))

-- other items begin otherwise
pub other_begins : (n : ℕ) (rest : List ℕ) (item : Item) → SpellsItem (take n rest) item → is_held item ≡ false → begins rest ≡ false
other_begins n rest (BodyItem bytes) e h = false_from_ne_true (begins rest) (λ t. omega (arith, brace n rest e.1, (first_two rest t).0))
other_begins n rest (GroupItem (Controller sigs)) e h = cc h
other_begins n rest (GroupItem (Witness sigs)) e h = other n rest _ 66 e (λ is. omega (arith, is))
other_begins n rest (GroupItem (Couples couples)) e h = other n rest _ 67 e (λ is. omega (arith, is))
other_begins n rest (GroupItem (FirstSeen seen)) e h = other n rest _ 69 e (λ is. omega (arith, is))
other_begins n rest (GroupItem (Anchor anchors)) e h = other n rest _ 71 e (λ is. omega (arith, is))
other_begins n rest (Wrapped groups) e h = other n rest _ 86 e (λ is. omega (arith, is))

-- no bytes are no groups
pub none_left : (most : ℕ) → are_groups most [] ≡ true
unfolding are_groups
none_left most = refl

-- a group in front, and those behind it
pub one_more : (most n : ℕ) (rest : List ℕ) → begins rest ≡ true → front 65535 true rest ≡ whole n → are_groups (suc most) rest ≡ are_groups most (drop n rest)
unfolding are_groups
one_more most n [] h is = cc h
one_more most n (b ∷ rest) h is = ap₂ (λ t part. t && followed (are_groups most) (b ∷ rest) part) h is

-- what begins otherwise, or has no whole item in front, isn't groups
pub otherwise : (most : ℕ) (rest : List ℕ) → 0 < length rest → begins rest ≡ false → are_groups most rest ≡ false
unfolding are_groups
otherwise most [] some h = absurd (omega (arith, some))
otherwise zero (b ∷ rest) some h = refl
otherwise (suc most) (b ∷ rest) some h = ap (λ t. t && followed (are_groups most) (b ∷ rest) (front 65535 true (b ∷ rest))) h

pub not_finished : (most : ℕ) (rest : List ℕ) → 0 < length rest → front 65535 true rest ≡ unfinished → are_groups most rest ≡ false
unfolding are_groups
not_finished most [] some is = absurd (omega (arith, some))
not_finished zero (b ∷ rest) some is = refl
not_finished (suc most) (b ∷ rest) some is = and_right (begins (b ∷ rest)) (followed (are_groups most) (b ∷ rest) (front 65535 true (b ∷ rest))) (ap (followed (are_groups most) (b ∷ rest)) is)

pub not_good : (most : ℕ) (rest : List ℕ) (place : ℕ) (reason : BadReason) → 0 < length rest → front 65535 true rest ≡ refused place reason → are_groups most rest ≡ false
unfolding are_groups
not_good most [] place reason some is = absurd (omega (arith, some))
not_good zero (b ∷ rest) place reason some is = refl
not_good (suc most) (b ∷ rest) place reason some is = and_right (begins (b ∷ rest)) (followed (are_groups most) (b ∷ rest) (front 65535 true (b ∷ rest))) (ap (followed (are_groups most) (b ∷ rest)) is)

-- ALL: written groups are groups
pub groups_read : (most : ℕ) (groups : List (List IndexedSig)) → All (λ sigs. length sigs ≤ 4095) groups → All (All IsIndexed) groups → length groups ≤ most
    → are_groups most (groups_text groups) ≡ true
groups_read most [] counted raw few = none_left most
groups_read zero (sigs ∷ groups) counted raw few = absurd (omega (arith, few))
groups_read (suc most) (sigs ∷ groups) counted raw few =
    let text : List ℕ = item_text (group_of sigs) in
    let more : List ℕ = groups_text groups in
    let is = (written_front 65535 true (group_of sigs) more (All-head (All IsIndexed) sigs groups raw) (All-head (λ sigs. length sigs ≤ 4095) sigs groups counted) refl).0 in
    one_more most (length text) (text ++ more) refl is
    ∙ ap (are_groups most) (drop_at text more (length text) refl)
    ∙ groups_read most groups (All-tail (λ sigs. length sigs ≤ 4095) sigs groups counted) (All-tail (All IsIndexed) sigs groups raw) (omega (arith, few))

-- each group has bytes
pub groups_enough : (groups : List (List IndexedSig)) → length groups ≤ length (groups_text groups)
groups_enough [] = omega arith
groups_enough (sigs ∷ groups) = omega (arith, length-append (item_text (group_of sigs)) (groups_text groups), four_of (Controller sigs), groups_enough groups)
