-- What is written of an item is read at the front as that item, whatever follows.
use Rattle.std.proofs.Common.{◌≡◌, ℕ, zero, suc, ◌+◌, ◌-◌, ◌*◌, ◌/◌, ◌%◌, ◌≤◌, ◌==◌, ◌&&◌, nat_lt, Bool, true, false, List, [], ◌∷◌, ◌++◌, length, take, drop, flat_map, codes, bytes_eq, refl, sym, ap, ◌∙◌, arith, inl, inr, append-nil, append_assoc, length-append, length-drop, length-take, Some, None, All, subst}
use Rattle.std.proofs.lemmas.Bool.{cases_Bool, eqb-true, eq-eqb, false_from_ne_true, le-ltb}
use Rattle.std.specs.List.{list_all}
use Rattle.std.proofs.lemmas.List.{take_all, take_at, drop_at}
use Rattle.lists.specs.KeriSpecs.Base64.{base64_text}
use Rattle.lists.specs.KeriSpecs.Hex.{is_hex}
use Rattle.std.proofs.lemmas.List.Elements.{All-head, All-tail}
use Rattle.std.proofs.lemmas.Slice.Eq.{bytes_eq-Decides}
use Rattle.cesr_codes.specs.Indexed.{indexed_text}
use Rattle.cesr_stream.specs.declared.group.Group.{Group}
use Rattle.cesr_stream.specs.declared.group.Group.TheVariants.{Controller, Witness, Couples, FirstSeen, Anchor}
use Rattle.cesr_stream.specs.declared.item.Item.{Item}
use Rattle.cesr_stream.specs.declared.item.Item.TheVariants.{Body, Group as GroupItem, Wrapped}
use Rattle.cesr_stream.specs.Parts.{whole, shifted}
use Rattle.cesr_stream.specs.Front.{has_version, size_of, body_part, begun_group, groups_part, wrap_part, front}
use Rattle.cesr_stream.specs.Items.{Placed, placed, Stand, one}
use Rattle.cesr_stream.specs.Texts.{couple_text, seen_text, anchor_text, group_text, wrap_text, SpellsItem}
use Rattle.cesr_stream.specs.Written.{item_text, IsCounted, IsWritable, IsGroup, IsItem, MayStand}
use Rattle.cesr_stream.proofs.Fronts.{begun_sizes}
use Rattle.cesr_stream.proofs.Items.{stand_more}
use Rattle.cesr_stream.proofs.Sizes.{length-counted}
use Rattle.cesr_stream.proofs.Stays.{stays-body_part}
use Rattle.cesr_stream.proofs.Wholes.{whole-followed_by, whole_counter, whole_group}
use Rattle.cesr_stream.proofs.BegunWraps.{groups-done}

-- a group begins with a counter of four characters, and so it does in a wrap
pub four_of : (g : Group) → 4 ≤ length (group_text g)
four_of (Controller sigs) = omega (arith, length-counted 65 (length sigs) (flat_map indexed_text sigs))
four_of (Witness sigs) = omega (arith, length-counted 66 (length sigs) (flat_map indexed_text sigs))
four_of (Couples couples) = omega (arith, length-counted 67 (length couples) (flat_map couple_text couples))
four_of (FirstSeen seen) = omega (arith, length-counted 69 (length seen) (flat_map seen_text seen))
four_of (Anchor anchors) = omega (arith, length-counted 71 (length anchors) (flat_map anchor_text anchors))

whole_begun : (g : Group) (room : ℕ) (rest : List ℕ) → IsGroup g → IsCounted g → length (group_text g) ≤ room → begun_group room (group_text g ++ rest) ≡ whole (length (group_text g))
whole_begun (Controller sigs) room rest valid few has = whole_group (Controller sigs) (Some room) rest valid few has
whole_begun (Witness sigs) room rest valid few has = whole_group (Witness sigs) (Some room) rest valid few has
whole_begun (Couples couples) room rest valid few has = whole_group (Couples couples) (Some room) rest valid few has
whole_begun (FirstSeen seen) room rest valid few has = whole_group (FirstSeen seen) (Some room) rest valid few has
whole_begun (Anchor anchors) room rest valid few has = whole_group (Anchor anchors) (Some room) rest valid few has

-- the characters of groups are in fours
fours_of : (gs : List Group) → All IsGroup gs → All IsCounted gs → length (flat_map group_text gs) % 4 ≡ 0
fours_of [] valid few = refl
fours_of (g ∷ gs) valid few =
    let size = length (group_text g) in
    let sizes = begun_sizes size (group_text g ++ []) size (whole_begun g size [] (All-head IsGroup g gs valid) (All-head IsCounted g gs few) (omega arith))
    (four_of g) in
    omega (arith, sizes.2, length-append (group_text g) (flat_map group_text gs), fours_of gs (All-tail IsGroup g gs valid) (All-tail IsCounted g gs few))

-- the groups of a wrap, which has so many characters in fours
whole_groups : (gs : List Group) (most room : ℕ) (rest : List ℕ) → All IsGroup gs → All IsCounted gs → room ≡ length (flat_map group_text gs) → room ≤ 4 * most
    → groups_part most room (flat_map group_text gs ++ rest) ≡ whole (length (flat_map group_text gs))
unfolding groups_part
whole_groups [] most room rest valid few is enough = ap (λ r. groups_part most r rest) is ∙ groups-done most rest
whole_groups (g ∷ gs) zero room rest valid few is enough = absurd (omega (arith, is, enough, length-append (group_text g) (flat_map group_text gs), four_of g))
whole_groups (g ∷ gs) (suc most) room rest valid few is enough =
    let sum : room ≡ length (group_text g) + length (flat_map group_text gs) = is ∙ length-append (group_text g) (flat_map group_text gs) in
    rw (false_from_ne_true (room == 0) (λ e. omega (arith, sum, four_of g, eqb-true room 0 e)))
    (whole-followed_by (begun_group room) (λ n. groups_part most (room - n)) (group_text g) (flat_map group_text gs) rest
    (whole_begun g room (flat_map group_text gs ++ rest) (All-head IsGroup g gs valid) (All-head IsCounted g gs few) (omega (arith, sum)))
    (whole_groups gs most (room - length (group_text g)) rest (All-tail IsGroup g gs valid) (All-tail IsCounted g gs few) (omega (arith, sum))
    (omega (arith, sum, enough, four_of g))))

whole_wrap : (gs : List Group) (rest : List ℕ) → All IsGroup gs → All IsCounted gs → length (flat_map group_text gs) ≤ 16380
    → wrap_part (wrap_text gs ++ rest) ≡ whole (length (wrap_text gs))
unfolding wrap_part
whole_wrap gs rest valid few short =
    let groups : List ℕ = flat_map group_text gs in
    let fours : length groups ≡ 4 * (length groups / 4) = omega (arith, fours_of gs valid few) in
    let counter = whole_counter 86 (length groups / 4) (groups ++ rest) (omega (arith, short)) in
    ap (λ text. wrap_part (45 ∷ 86 ∷ text)) (append_assoc (base64_text 2 (length groups / 4)) groups rest)
    ∙ rw (counter.0, counter.1, counter.2)
    (ap (shifted 4) (whole_groups gs (length groups / 4) (4 * (length groups / 4)) rest valid few (sym fours) (omega arith))
    ∙ ap whole (sym (length-counted 86 (length groups / 4) groups)))

-- the rules of a body
whole_body : (limit : ℕ) (bytes : List ℕ) → has_version bytes ≡ true → size_of bytes ≡ length bytes → length bytes ≤ limit
    → body_part limit bytes ≡ whole (length bytes)
unfolding body_part
whole_body limit bytes version size few =
    let all : nat_lt (length bytes) (length bytes) ≡ false = le-ltb (length bytes) (length bytes) (omega arith) in
    rw (le-ltb (length bytes) 24 long, version, size, le-ltb (length bytes) 24 long, le-ltb limit (length bytes) few, all) refl
  where
    last : (a b c : Bool) → (a && b && c) ≡ true → c ≡ true
    last a b true e = refl
    last true true false e = e
    last true false false e = e
    last false b false e = e

    closing : take 2 (drop 22 bytes) ≡ codes "_\""
    closing =
        let ends = bytes_eq (take 2 (drop 22 bytes)) (codes "_\"") in
        let ended : ends ≡ true = last (bytes_eq (take 16 bytes) (codes "{\"v\":\"KERI10JSON")) (list_all is_hex (take 6 (drop 16 bytes))) ends version in
        (bytes_eq-Decides (take 2 (drop 22 bytes)) (codes "_\"")).0 ended

    long : 24 ≤ length bytes
    long = omega (arith, ap length closing, length-take 2 (drop 22 bytes), length-drop 22 bytes)

-- a body with a version string begins with a brace
brace : (b : ℕ) (bytes : List ℕ) → has_version (b ∷ bytes) ≡ true → b ≡ 123
brace b bytes version = elim (cases_Bool (bytes_eq (take 16 (b ∷ bytes)) (codes "{\"v\":\"KERI10JSON"))) [
  | inl t ↦ cc ((bytes_eq-Decides (take 16 (b ∷ bytes)) (codes "{\"v\":\"KERI10JSON")).0 t)
  | inr f ↦ cc (rw f at version)
]

-- an item at the front of any bytes
front_of : (limit : ℕ) (begun : Bool) (item : Item) (rest : List ℕ) → IsItem item → IsWritable item → MayStand limit begun item
    → front limit begun (item_text item ++ rest) ≡ whole (length (item_text item))
unfolding front
front_of limit begun (Body []) rest valid writable may = cc writable.0
front_of limit begun (Body (b ∷ bytes)) rest valid writable may =
    let is = whole_body limit (b ∷ bytes) writable.0 writable.1 may in
    rw (eq-eqb b 123 (brace b bytes writable.0)) (stays-body_part limit (b ∷ bytes) rest (λ e. cc (is, e)) ∙ is)
front_of limit begun (GroupItem (Controller sigs)) rest valid writable may = rw may (whole_group (Controller sigs) None rest valid writable tt)
front_of limit begun (GroupItem (Witness sigs)) rest valid writable may = rw may (whole_group (Witness sigs) None rest valid writable tt)
front_of limit begun (GroupItem (Couples couples)) rest valid writable may = rw may (whole_group (Couples couples) None rest valid writable tt)
front_of limit begun (GroupItem (FirstSeen seen)) rest valid writable may = rw may (whole_group (FirstSeen seen) None rest valid writable tt)
front_of limit begun (GroupItem (Anchor anchors)) rest valid writable may = rw may (whole_group (Anchor anchors) None rest valid writable tt)
front_of limit begun (Wrapped groups) rest valid writable may = rw may (whole_wrap groups rest valid writable.0 writable.1)

-- the text of an item is a spelling of it
pub spells_itself : (item : Item) → IsWritable item → SpellsItem (item_text item) item
spells_itself (Body []) writable = cc writable.0
spells_itself (Body (b ∷ bytes)) writable = (refl, brace b bytes writable.0)
spells_itself (GroupItem group) writable = refl
spells_itself (Wrapped groups) writable = refl

pub written_front : (limit : ℕ) (begun : Bool) (item : Item) (rest : List ℕ) → IsItem item → IsWritable item → MayStand limit begun item
    → (front limit begun (item_text item ++ rest) ≡ whole (length (item_text item))) × SpellsItem (take (length (item_text item)) (item_text item ++ rest)) item
written_front limit begun item rest valid writable may = (
  front_of limit begun item rest valid writable may,
  subst (λ text. SpellsItem text item) (sym (take_at (item_text item) rest (length (item_text item)) refl)) (spells_itself item writable),
)

-- behind whole items it is one more of them
pub written_more : (limit : ℕ) (bytes : List ℕ) (items : List Placed) (begun : Bool) (item : Item) → Stand limit bytes items begun (length bytes)
    → IsItem item → IsWritable item → MayStand limit begun item
    → Stand limit (bytes ++ item_text item) (items ++ placed (length bytes) item ∷ []) true (length (bytes ++ item_text item))
written_more limit bytes items begun item stand valid writable may =
    let text = item_text item in
    let rest : drop (length bytes) (bytes ++ text) ≡ text = drop_at bytes text (length bytes) refl in
    let is : front limit begun text ≡ whole (length text) = ap (front limit begun) (sym (append-nil text)) ∙ front_of limit begun item [] valid writable may in
    subst (λ place. Stand limit (bytes ++ text) (items ++ placed (length bytes) item ∷ []) true place) (sym (length-append bytes text))
    (one (length text) item (stand_more limit bytes text items begun (length bytes) stand)
    (ap (front limit begun) rest ∙ is)
    (subst (λ t. SpellsItem t item) (sym (ap (take (length text)) rest ∙ take_all (length text) text (omega arith))) (spells_itself item writable)))
