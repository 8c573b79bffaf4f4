-- What is written of items, in one domain or the other, is read as these items.
use Rattle.std.proofs.Common.{◌≡◌, ℕ, ◌*◌, ◌/◌, ◌≤◌, Bool, true, false, All, List, [], ◌∷◌, ◌++◌, length, map, take, drop, slice_index, refl, sym, ap}
use Rattle.std.proofs.Common.{◌∙◌, arith, append-nil, append_assoc, length-append, subst}
use Rattle.std.proofs.lemmas.List.{take_at, drop_at}
use Rattle.cesr_stream.specs.declared.item.Item.{Item}
use Rattle.cesr_stream.specs.declared.item.Item.TheVariants.{Body, Group as GroupItem, Wrapped}
use Rattle.cesr_stream.specs.Front.{front}
use Rattle.cesr_stream.specs.Items.{Placed, placed}
use Rattle.cesr_stream.specs.Parts.{whole, unfinished}
use Rattle.cesr_stream.specs.Texts.{group_text, wrap_text, SpellsItem}
use Rattle.cesr_stream.specs.Written.{item_text, IsItem, IsWritable, MayStand}
use Rattle.cesr_stream.proofs.SameItems.{same_item}
use Rattle.cesr_stream.proofs.WrittenItems.{written_front, spells_itself}
use Rattle.cesr_binary.specs.BinaryDomain.{text_of, binary_of, is_binary}
use Rattle.cesr_stream.specs.Domains.{IsTurnable}
use Rattle.cesr_binary.specs.Mixed.{in_binary, mixed_front, text_in_either, SpellsEither, StandMixed, none, one}
use Rattle.cesr_binary.specs.declared.domain.Domain.{Domain}
use Rattle.cesr_binary.specs.declared.domain.Domain.TheVariants.{Binary, Text}
use Rattle.cesr_binary.specs.Wire.{item_binary, item_in, IsRead, Written, wire, MayAllStand, ReadsBack}
use Rattle.cesr_stream.proofs.Characters.{turnable_group, turnable_wrap, group_dash, wrap_dash}
use Rattle.cesr_binary.proofs.BinaryDomain.{text_of-append, text_of-binary_of, length-binary_of, binary_dash}
use Rattle.cesr_binary.proofs.MixedFronts.{stand_more}
use Rattle.cesr_binary.proofs.SameMixedItems.{same_items}
use Rattle.std.proofs.lemmas.List.Elements.{All-cons, All-map, All-nil}

-- a front whose first byte is in binary, and one whose first isn't
pub mixed_binary : (limit : ℕ) (begun : Bool) (x : List ℕ) → is_binary (slice_index x 0) ≡ true
    → mixed_front limit begun x ≡ in_binary (front limit begun (text_of x))
unfolding mixed_front
mixed_binary limit begun [] t = cc t
mixed_binary limit begun (b ∷ x) t = rw t refl

pub mixed_text : (limit : ℕ) (begun : Bool) (x : List ℕ) → is_binary (slice_index x 0) ≡ false → mixed_front limit begun x ≡ front limit begun x
unfolding mixed_front front
mixed_text limit begun [] f = refl
mixed_text limit begun (b ∷ x) f = rw f refl

first_of : (x y : List ℕ) → 1 ≤ length x → slice_index (x ++ y) 0 ≡ slice_index x 0
first_of [] y le = absurd (omega (arith, le))
first_of (b ∷ x) y le = refl

-- a text of whole fours behind a dash, in binary
pub in_either_of : (x : List ℕ) → is_binary (slice_index x 0) ≡ true → text_in_either x ≡ text_of x
unfolding text_in_either
in_either_of x t = rw t refl

pub in_text_of : (x : List ℕ) → is_binary (slice_index x 0) ≡ false → text_in_either x ≡ x
unfolding text_in_either
in_text_of x f = rw f refl

turned_back : (text : List ℕ) → IsTurnable text → slice_index text 0 ≡ 45 → 4 ≤ length text → text_in_either (binary_of text) ≡ text
turned_back text turnable dash le =
    in_either_of (binary_of text) (binary_dash text le dash turnable.characters)
    ∙ (let fours = turnable.fours in text_of-binary_of text (length text / 4) (omega (arith, fours)) turnable.characters)

turned : (limit : ℕ) (begun : Bool) (text rest : List ℕ) (item : Item) → IsTurnable text → slice_index text 0 ≡ 45 → 4 ≤ length text
    → ((more : List ℕ) → front limit begun (text ++ more) ≡ whole (length text)) → SpellsItem text item → IsRead limit begun (binary_of text) rest item
turned limit begun text rest item turnable dash le is spelled = record {
  is_whole =
      mixed_binary limit begun (bytes ++ rest) (ap is_binary (first_of bytes rest (omega (arith, long, le))) ∙ begins)
      ∙ ap (λ t. in_binary (front limit begun t)) (text_of-append bytes rest q (omega (arith, long)) ∙ ap (λ t. t ++ text_of rest) back)
      ∙ ap in_binary (is (text_of rest))
      ∙ ap whole (omega (arith, long));
  spelled = subst (λ t. SpellsItem t item) (sym (in_either_of bytes begins ∙ back)) spelled;
}
  where
    bytes : List ℕ
    bytes = binary_of text

    q : ℕ
    q = length text / 4

    long : length (binary_of text) ≡ 3 * (length text / 4)
    long = length-binary_of text

    back : text_of (binary_of text) ≡ text
    back = let fours = turnable.fours in text_of-binary_of text (length text / 4) (omega (arith, fours)) turnable.characters

    begins : is_binary (slice_index (binary_of text) 0) ≡ true
    begins = binary_dash text le dash turnable.characters

-- a text that begins with a brace or a dash
plain : (limit : ℕ) (begun : Bool) (text rest : List ℕ) (item : Item) → is_binary (slice_index text 0) ≡ false → 1 ≤ length text
    → front limit begun (text ++ rest) ≡ whole (length text) → SpellsItem text item → IsRead limit begun text rest item
plain limit begun text rest item other le is spelled = record {
  is_whole = mixed_text limit begun (text ++ rest) (ap is_binary (first_of text rest le) ∙ other) ∙ is;
  spelled = subst (λ t. SpellsItem t item) (sym (in_text_of text other)) spelled;
}

some : (bytes : List ℕ) → slice_index bytes 0 ≡ 123 → 1 ≤ length bytes
some [] e = cc e
some (b ∷ bytes) e = omega arith

-- each item that may stand there is read from its text, and from its bytes in binary
pub read_text : (limit : ℕ) (begun : Bool) (item : Item) (rest : List ℕ) → IsItem item → IsWritable item → MayStand limit begun item
    → IsRead limit begun (item_text item) rest item
read_text limit begun (Body bytes) rest valid writable may =
    let brace = (spells_itself (Body bytes) writable).1 in
    plain limit begun bytes rest (Body bytes) (ap is_binary brace) (some bytes brace)
    (written_front limit begun (Body bytes) rest valid writable may).0 (spells_itself (Body bytes) writable)
read_text limit begun (GroupItem g) rest valid writable may =
    let dash = group_dash g in
    plain limit begun (group_text g) rest (GroupItem g) (ap is_binary dash.0) (omega (arith, dash.1))
    (written_front limit begun (GroupItem g) rest valid writable may).0 refl
read_text limit begun (Wrapped gs) rest valid writable may =
    let dash = wrap_dash gs in
    plain limit begun (wrap_text gs) rest (Wrapped gs) (ap is_binary dash.0) (omega (arith, dash.1))
    (written_front limit begun (Wrapped gs) rest valid writable may).0 refl

pub read_binary : (limit : ℕ) (begun : Bool) (item : Item) (rest : List ℕ) → IsItem item → IsWritable item → MayStand limit begun item
    → IsRead limit begun (item_binary item) rest item
read_binary limit begun (Body bytes) rest valid writable may = read_text limit begun (Body bytes) rest valid writable may
read_binary limit begun (GroupItem g) rest valid writable may =
    let dash = group_dash g in
    turned limit begun (group_text g) rest (GroupItem g) (turnable_group g) dash.0 dash.1
    (λ more. (written_front limit begun (GroupItem g) more valid writable may).0) refl
read_binary limit begun (Wrapped gs) rest valid writable may =
    let dash = wrap_dash gs in
    turned limit begun (wrap_text gs) rest (Wrapped gs) (turnable_wrap gs) dash.0 dash.1
    (λ more. (written_front limit begun (Wrapped gs) more valid writable may).0) refl

pub read_in : (domain : Domain) (limit : ℕ) (begun : Bool) (item : Item) (rest : List ℕ) → IsItem item → IsWritable item → MayStand limit begun item
    → IsRead limit begun (item_in domain item) rest item
read_in Binary limit begun item rest valid writable may = read_binary limit begun item rest valid writable may
read_in Text limit begun item rest valid writable may = read_text limit begun item rest valid writable may

-- behind whole items it is one more of them, at its place
pub written_more : (limit : ℕ) (bytes : List ℕ) (items : List Placed) (begun : Bool) (domain : Domain) (item : Item)
    → StandMixed limit bytes items begun (length bytes)
    → IsItem item → IsWritable item → MayStand limit begun item
    → StandMixed limit (bytes ++ item_in domain item) (items ++ placed (length bytes) item ∷ []) true (length (bytes ++ item_in domain item))
written_more limit bytes items begun domain item stand valid writable may =
    let text : List ℕ = item_in domain item in
    let is = read_in domain limit begun item [] valid writable may in
    let behind : drop (length bytes) (bytes ++ text) ≡ text = drop_at bytes text (length bytes) refl in
    let judged : mixed_front limit begun (drop (length bytes) (bytes ++ text)) ≡ whole (length text)
    = ap (mixed_front limit begun) (behind ∙ sym (append-nil text)) ∙ is.is_whole in
    let spelled : SpellsEither (take (length text) (drop (length bytes) (bytes ++ text))) item
    = subst (λ t. SpellsEither t item) (sym (ap (take (length text)) (behind ∙ sym (append-nil text)) ∙ take_at text [] (length text) refl)) is.spelled in
    subst (λ n. StandMixed limit (bytes ++ text) (items ++ placed (length bytes) item ∷ []) true n) (sym (length-append bytes text))
    (one (length text) item (stand_more limit bytes text items begun (length bytes) stand) judged spelled)

-- Items each written in one domain or the other are the items that are read.
map-append : {A B : Type 0} (f : A → B) (xs ys : List A) → map f (xs ++ ys) ≡ map f xs ++ map f ys
map-append f [] ys = refl
map-append f (x ∷ xs) ys = ap (λ zs. f x ∷ zs) (map-append f xs ys)

all_behind : (limit : ℕ) (bytes : List ℕ) (before : List Placed) (begun : Bool) (ws : List Written)
    → StandMixed limit bytes before begun (length bytes) → MayAllStand limit begun ws
    → (items : List Placed) × (at : Bool) × StandMixed limit (bytes ++ wire ws) items at (length (bytes ++ wire ws)) ×
    (map (λ p. p.item) items ≡ map (λ p. p.item) before ++ map (λ w. w.item) ws)
all_behind limit bytes before begun [] stand may =
    (before, begun, subst (λ b. StandMixed limit b before begun (length b)) (sym (append-nil bytes)) stand, sym (append-nil (map (λ p. p.item) before)))
all_behind limit bytes before begun (w ∷ ws) stand may =
    let text : List ℕ = item_in w.domain w.item in
    let next = written_more limit bytes before begun w.domain w.item stand may.0 may.1 may.2 in
    let rest = all_behind limit (bytes ++ text) (before ++ placed (length bytes) w.item ∷ []) true ws next may.3 in (
      rest.0,
      rest.1,
      subst (λ b. StandMixed limit b rest.0 rest.1 (length b)) (append_assoc bytes text (wire ws)) rest.2,
      rest.3 ∙ ap (λ xs. xs ++ map (λ w. w.item) ws) (map-append (λ p. p.item) before (placed (length bytes) w.item ∷ []))
          ∙ append_assoc (map (λ p. p.item) before) (w.item ∷ []) (map (λ w. w.item) ws),
    )

all_items : (limit : ℕ) (begun : Bool) (ws : List Written) → MayAllStand limit begun ws
    → All IsItem (map (λ w. w.item) ws) × All IsWritable (map (λ w. w.item) ws)
all_items limit begun [] may = (All-nil IsItem, All-nil IsWritable)
all_items limit begun (w ∷ ws) may =
    let rest = all_items limit true ws may.3 in
    let items : List Item = map (λ v. v.item) ws in
    (All-cons IsItem w.item items may.0 rest.0, All-cons IsWritable w.item items may.1 rest.1)

at_end : (limit : ℕ) (begun : Bool) (bytes : List ℕ) → mixed_front limit begun (drop (length bytes) bytes) ≡ unfinished
unfolding mixed_front
at_end limit begun [] = refl
at_end limit begun (b ∷ bytes) = at_end limit begun bytes

pub wire_read : (limit : ℕ) (ws : List Written) → MayAllStand limit false ws → ReadsBack limit (wire ws) (map (λ w. w.item) ws)
wire_read limit ws may =
    let all = all_behind limit [] [] false ws none may in
    let (valid, writable) = all_items limit false ws may in
    record {
      placed = all.0;
      begun = all.1;
      stand = all.2;
      same = all.3;
      only = λ others end other other_valid.
          same_items limit (wire ws) all.0 others unfinished end
          (record { begun = all.1; place = length (wire ws); stand = all.2; behind = at_end limit all.1 (wire ws); ends = tt }) other
          (subst (All IsItem) (sym all.3) valid) (subst (All IsWritable) (sym all.3) writable) (All-map IsItem (λ p. p.item) others other_valid) ∙ all.3;
    }

-- the text of what was written in binary is that of the item
text_again : (item : Item) → IsWritable item → text_in_either (item_binary item) ≡ item_text item
text_again (Body bytes) writable = in_text_of bytes (ap is_binary (spells_itself (Body bytes) writable).1)
text_again (GroupItem g) writable = turned_back (group_text g) (turnable_group g) (group_dash g).0 (group_dash g).1
text_again (Wrapped gs) writable = turned_back (wrap_text gs) (turnable_wrap gs) (wrap_dash gs).0 (wrap_dash gs).1

pub same_binary : (item other : Item) → IsItem item → IsItem other → IsWritable item → SpellsEither (item_binary item) other → other ≡ item
same_binary item other valid other_valid writable spelled = same_item item other valid other_valid writable
    (subst (λ t. SpellsItem t other) (text_again item writable) spelled)
