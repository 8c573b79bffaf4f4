-- Who reads a text that is written of items reads items that spell the same, one by one.
use Rattle.std.proofs.Common.{◌≡◌, ℕ, ◌+◌, ◌*◌, ◌≤◌, Bool, true, false, List, [], ◌∷◌, ◌++◌, length, map, take, drop, flat_map, slice_index, refl, sym, ◌∙◌, ap, subst, arith, append-nil, append_assoc, length-append}
use Rattle.std.proofs.lemmas.List.{map-append}
use Rattle.lists.specs.KeriSpecs.Base64.{base64_text}
use Rattle.cesr_codes.proofs.Numbers.{length-base64_text, same_digits}
use Rattle.cesr_codes.proofs.Same.{same_front}
use Rattle.cesr_codes.specs.Indexed.{indexed_text}
use Rattle.cesr_codes.specs.declared.indexed_sig.IndexedSig.{IndexedSig}
use Rattle.cesr_stream.specs.Front.{front}
use Rattle.cesr_stream.specs.Items.{IsEnd, Items, Placed, Stand, none, one, placed}
use Rattle.cesr_stream.specs.Parts.{Part, whole}
use Rattle.cesr_stream.specs.Texts.{SpellsItem, couple_text, group_text}
use Rattle.cesr_stream.specs.Written.{IsWritable, item_text}
use Rattle.cesr_stream.specs.declared.couple.Couple.{Couple}
use Rattle.cesr_stream.specs.declared.group.Group.{Group}
use Rattle.cesr_stream.specs.declared.group.Group.TheVariants.{Controller, Witness, Couples, FirstSeen, Anchor}
use Rattle.cesr_stream.specs.declared.item.Item.{Item}
use Rattle.cesr_stream.specs.declared.item.Item.TheVariants.{Body, Group as GroupItem, Wrapped}
use Rattle.cesr_stream.proofs.Sizes.{length-couple_text, size_big, size_small}
use Rattle.cesr_stream.proofs.WrittenItems.{spells_itself}

-- the texts of the first items spell the others, one by one
abbrev pub AreAlike : List Item → List Item → Type 0
AreAlike [] [] = Unit {0}
AreAlike [] (y ∷ ys) = ⊥
AreAlike (x ∷ xs) [] = ⊥
AreAlike (x ∷ xs) (y ∷ ys) = SpellsItem (item_text x) y × AreAlike xs ys

spelled_text : (text : List ℕ) (item : Item) → SpellsItem text item → text ≡ item_text item
spelled_text text (Body bytes) spelled = spelled.0
spelled_text text (GroupItem group) spelled = spelled
spelled_text text (Wrapped groups) spelled = spelled

-- these items, from this place on, and how what is behind them is judged
StandFrom : ℕ → List ℕ → Bool → ℕ → List Item → Part → Type 0
StandFrom limit bytes begun place [] end = front limit begun (drop place bytes) ≡ end
StandFrom limit bytes begun place (item ∷ items) end =
    (n : ℕ) × (front limit begun (drop place bytes) ≡ whole n) × SpellsItem (take n (drop place bytes)) item × StandFrom limit bytes true (place + n) items end

from_front : (limit : ℕ) (bytes : List ℕ) (items : List Placed) (begun : Bool) (place : ℕ) (rest : List Item) (end : Part) → Stand limit bytes items begun place
    → StandFrom limit bytes begun place rest end → StandFrom limit bytes false 0 (map (λ p. p.item) items ++ rest) end
unfolding StandFrom
from_front limit bytes items begun place rest end none from = from
from_front limit bytes items begun place rest end (one {items = before} {begun = earlier} {place = at} n item stand is spelled) from =
    subst (λ all. StandFrom limit bytes false 0 all end)
    (sym (ap (λ all. all ++ rest) (map-append (λ p. p.item) before (placed at item ∷ [])) ∙ append_assoc (map (λ p. p.item) before) (item ∷ []) rest))
    (from_front limit bytes before earlier at (item ∷ rest) end stand (n, is, spelled, from))

alike_from : (limit : ℕ) (bytes : List ℕ) (begun : Bool) (place : ℕ) (items others : List Item) (end other_end : Part) → IsEnd end → IsEnd other_end
    → StandFrom limit bytes begun place items end → StandFrom limit bytes begun place others other_end → AreAlike items others
unfolding StandFrom
alike_from limit bytes begun place [] [] end other_end is_end other_is_end stand other = tt
alike_from limit bytes begun place [] (y ∷ others) end other_end is_end other_is_end stand other = absurd (subst IsEnd (sym stand ∙ other.1) is_end)
alike_from limit bytes begun place (x ∷ items) [] end other_end is_end other_is_end stand other = absurd (subst IsEnd (sym other ∙ stand.1) other_is_end)
alike_from limit bytes begun place (x ∷ items) (y ∷ others) end other_end is_end other_is_end stand other =
    let long : other.0 ≡ stand.0 = cc (sym other.1 ∙ stand.1) in (
      subst (λ t. SpellsItem t y) (spelled_text (take stand.0 (drop place bytes)) x stand.2) (subst (λ n. SpellsItem (take n (drop place bytes)) y) long other.2),
      alike_from limit bytes true (place + stand.0) items others end other_end is_end other_is_end stand.3
          (subst (λ n. StandFrom limit bytes true (place + n) others other_end) long other.3),
    )

from_all : (limit : ℕ) (bytes : List ℕ) (items : List Placed) (end : Part) → Items limit bytes items end → StandFrom limit bytes false 0 (map (λ p. p.item) items) end
unfolding StandFrom
from_all limit bytes items end all =
    subst (λ xs. StandFrom limit bytes false 0 xs end) (append-nil (map (λ p. p.item) items)) (from_front limit bytes items all.begun all.place [] end all.stand all.behind)

-- READ: the items of a text are alike
pub items_alike : (limit : ℕ) (bytes : List ℕ) (items others : List Placed) (end other_end : Part) → Items limit bytes items end → Items limit bytes others other_end
    → AreAlike (map (λ p. p.item) items) (map (λ p. p.item) others)
items_alike limit bytes items others end other_end all other =
    alike_from limit bytes false 0 (map (λ p. p.item) items) (map (λ p. p.item) others) end other_end all.ends other.ends
    (from_all limit bytes items end all) (from_all limit bytes others other_end other)

-- a group begins with a dash, and a body with a brace
dash : (g : Group) → slice_index (group_text g) 0 ≡ 45
dash (Controller es) = refl
dash (Witness es) = refl
dash (Couples es) = refl
dash (FirstSeen es) = refl
dash (Anchor es) = refl

-- BODY: a body is read as itself
pub body_alike : (bytes : List ℕ) (y : Item) → IsWritable (Body bytes) → SpellsItem bytes y → y ≡ Body bytes
body_alike bytes (Body other) writable spelled = ap Body (sym spelled.0)
body_alike bytes (GroupItem g) writable spelled =
    let lost : 45 ≡ 123 = sym (dash g) ∙ sym (ap (λ t. slice_index t 0) spelled) ∙ (spells_itself (Body bytes) writable).1 in absurd (omega (arith, lost))
body_alike bytes (Wrapped gs) writable spelled =
    let lost : 45 ≡ 123 = sym (ap (λ t. slice_index t 0) spelled) ∙ (spells_itself (Body bytes) writable).1 in absurd (omega (arith, lost))

-- GROUP: a group is read as one of its kind
pub held_alike : (xs : List IndexedSig) (y : Item) → SpellsItem (group_text (Controller xs)) y → (ys : List IndexedSig) × (y ≡ GroupItem (Controller ys))
held_alike xs (Body bytes) spelled = let lost : 45 ≡ 123 = spelled.1 in absurd (omega (arith, lost))
held_alike xs (GroupItem (Controller ys)) spelled = (ys, refl)
held_alike xs (GroupItem (Witness ys)) spelled = let lost : 65 ≡ 66 = ap (λ t. slice_index t 1) spelled in absurd (omega (arith, lost))
held_alike xs (GroupItem (Couples ys)) spelled = let lost : 65 ≡ 67 = ap (λ t. slice_index t 1) spelled in absurd (omega (arith, lost))
held_alike xs (GroupItem (FirstSeen ys)) spelled = let lost : 65 ≡ 69 = ap (λ t. slice_index t 1) spelled in absurd (omega (arith, lost))
held_alike xs (GroupItem (Anchor ys)) spelled = let lost : 65 ≡ 71 = ap (λ t. slice_index t 1) spelled in absurd (omega (arith, lost))
held_alike xs (Wrapped gs) spelled = let lost : 65 ≡ 86 = ap (λ t. slice_index t 1) spelled in absurd (omega (arith, lost))

pub witness_alike : (xs : List IndexedSig) (y : Item) → SpellsItem (group_text (Witness xs)) y → (ys : List IndexedSig) × (y ≡ GroupItem (Witness ys))
witness_alike xs (Body bytes) spelled = let lost : 45 ≡ 123 = spelled.1 in absurd (omega (arith, lost))
witness_alike xs (GroupItem (Controller ys)) spelled = let lost : 66 ≡ 65 = ap (λ t. slice_index t 1) spelled in absurd (omega (arith, lost))
witness_alike xs (GroupItem (Witness ys)) spelled = (ys, refl)
witness_alike xs (GroupItem (Couples ys)) spelled = let lost : 66 ≡ 67 = ap (λ t. slice_index t 1) spelled in absurd (omega (arith, lost))
witness_alike xs (GroupItem (FirstSeen ys)) spelled = let lost : 66 ≡ 69 = ap (λ t. slice_index t 1) spelled in absurd (omega (arith, lost))
witness_alike xs (GroupItem (Anchor ys)) spelled = let lost : 66 ≡ 71 = ap (λ t. slice_index t 1) spelled in absurd (omega (arith, lost))
witness_alike xs (Wrapped gs) spelled = let lost : 66 ≡ 86 = ap (λ t. slice_index t 1) spelled in absurd (omega (arith, lost))

pub couples_alike : (xs : List Couple) (y : Item) → SpellsItem (group_text (Couples xs)) y → (ys : List Couple) × (y ≡ GroupItem (Couples ys))
couples_alike xs (Body bytes) spelled = let lost : 45 ≡ 123 = spelled.1 in absurd (omega (arith, lost))
couples_alike xs (GroupItem (Controller ys)) spelled = let lost : 67 ≡ 65 = ap (λ t. slice_index t 1) spelled in absurd (omega (arith, lost))
couples_alike xs (GroupItem (Witness ys)) spelled = let lost : 67 ≡ 66 = ap (λ t. slice_index t 1) spelled in absurd (omega (arith, lost))
couples_alike xs (GroupItem (Couples ys)) spelled = (ys, refl)
couples_alike xs (GroupItem (FirstSeen ys)) spelled = let lost : 67 ≡ 69 = ap (λ t. slice_index t 1) spelled in absurd (omega (arith, lost))
couples_alike xs (GroupItem (Anchor ys)) spelled = let lost : 67 ≡ 71 = ap (λ t. slice_index t 1) spelled in absurd (omega (arith, lost))
couples_alike xs (Wrapped gs) spelled = let lost : 67 ≡ 86 = ap (λ t. slice_index t 1) spelled in absurd (omega (arith, lost))

-- a counter, and texts behind it
module _ {E : Type 0} (text : E → List ℕ) (sizes : (e : E) → (60 ≤ length (text e)) × (length (text e) ≤ 132)) where
  least : (es : List E) → 60 * length es ≤ length (flat_map text es)
  least [] = omega arith
  least (e ∷ es) = omega (arith, least es, (sizes e).0, length-append (text e) (flat_map text es))

  most : (es : List E) → length (flat_map text es) ≤ 132 * length es
  most [] = omega arith
  most (e ∷ es) = omega (arith, most es, (sizes e).1, length-append (text e) (flat_map text es))

  -- MANY: one counter counts as many
  pub as_many : (letter : ℕ) (xs ys : List E) → length xs ≤ 1024
      → 45 ∷ letter ∷ (base64_text 2 (length xs) ++ flat_map text xs) ≡ 45 ∷ letter ∷ (base64_text 2 (length ys) ++ flat_map text ys) → length ys ≡ length xs
  as_many letter xs ys few e =
      let both = same_front 2 (base64_text 2 (length xs)) (base64_text 2 (length ys)) (flat_map text xs) (flat_map text ys)
      (length-base64_text 2 (length xs)) (length-base64_text 2 (length ys)) (ap (drop 2) e) in
      let few_too : length ys ≤ 4095 = omega (arith, few, least ys, most xs, ap length both.1) in
      sym (same_digits 2 (length xs) (length ys) (omega (arith, few)) (omega (arith, few_too)) both.0)

pub indexed_sizes : (s : IndexedSig) → (60 ≤ length (indexed_text s)) × (length (indexed_text s) ≤ 132)
indexed_sizes s = at s.big refl
  where
    at : (big : Bool) → s.big ≡ big → (60 ≤ length (indexed_text s)) × (length (indexed_text s) ≤ 132)
    at true e = (omega (arith, size_big s e), omega (arith, size_big s e))
    at false e = (omega (arith, size_small s e), omega (arith, size_small s e))

pub couple_sizes : (couple : Couple) → (60 ≤ length (couple_text couple)) × (length (couple_text couple) ≤ 132)
couple_sizes couple = (omega (arith, length-couple_text couple), omega (arith, length-couple_text couple))
