-- The items that stand in a mixed stream may stand in another one, and are read back from their spellings in a domain.
use Rattle.std.proofs.Common.{◌≡◌, ℕ, ◌≤◌, ◌==◌, ◌||◌, not, nat_lt, Bool, true, false, List, [], ◌∷◌, ◌++◌, length, map, flat_map, take, drop}
use Rattle.std.proofs.Common.{slice_index, refl, sym, ap, ◌∙◌, arith, inl, inr, All, Some, length-take, subst}
use Rattle.std.proofs.lemmas.Bool.{cases_Bool, eqb-true}
use Rattle.std.proofs.lemmas.Bool.Decides.{nat_tests}
use Rattle.std.proofs.lemmas.List.{map-append}
use Rattle.std.proofs.lemmas.List.Elements.{All-pop}
use Rattle.std.specs.List.{list_all}
use Rattle.lists.specs.KeriSpecs.Base64.{is_character}
use Rattle.cesr_codes.proofs.Numbers.{character_at}
use Rattle.cesr_stream.specs.declared.item.Item.{Item}
use Rattle.cesr_stream.specs.declared.item.Item.TheVariants.{Body, Group as GroupItem, Wrapped}
use Rattle.cesr_stream.specs.Front.{attached_part, behind_body, body_part, front, has_version, size_of}
use Rattle.cesr_stream.specs.Items.{Placed, placed}
use Rattle.cesr_stream.specs.Parts.{Part, whole, refused, unfinished}
use Rattle.cesr_stream.specs.Texts.{SpellsItem}
use Rattle.cesr_stream.specs.Written.{IsItem, IsWritable, MayStand}
use Rattle.cesr_binary.specs.declared.domain.Domain.{Domain}
use Rattle.cesr_binary.specs.BinaryDomain.{is_binary, text_of}
use Rattle.cesr_binary.specs.Mixed.{mixed_front, SpellsEither, StandMixed, none, one}
use Rattle.cesr_binary.specs.Wire.{item_in, MayAllStand, ReadsBack, Written, wire, written}
use Rattle.cesr_stream.proofs.Characters.{group_dash, wrap_dash}
use Rattle.cesr_binary.proofs.GivenBytes.{first_kept, text_characters}
use Rattle.cesr_binary.proofs.MixedFed.{spelled_some}
use Rattle.cesr_binary.proofs.MixedFronts.{in_binary-whole}
use Rattle.cesr_binary.proofs.Wires.{in_either_of, in_text_of, mixed_binary, mixed_text, wire_read}

-- a whole body is within the limit
whole_body : (limit : ℕ) (x : List ℕ) (n : ℕ) → body_part limit x ≡ whole n → n ≤ limit
unfolding body_part
whole_body limit x n e = elim (cases_Bool (nat_lt (length x) 24)) [
  | inl t ↦ cc (rw t at e)
  | inr f ↦ elim (cases_Bool (not (has_version x) || nat_lt (size_of x) 24)) [
    | inl t ↦ cc (rw (f, t) at e)
    | inr g ↦ elim (cases_Bool (nat_lt limit (size_of x))) [
      | inl t ↦ cc (rw (f, g, t) at e)
      | inr h ↦ elim (cases_Bool (nat_lt (length x) (size_of x))) [
        | inl t ↦ cc (rw (f, g, h, t) at e)
        | inr i ↦
            let size : size_of x ≡ n = cc (rw (f, g, h, i) at e) in
            let few : size_of x ≤ limit = grind (arith, nat_tests, h) in
            omega (arith, size, few)
      ]
    ]
  ]
]

-- before any body a whole item is one
not_behind : (part : Part) (n : ℕ) → behind_body false part ≡ whole n → ⊥
not_behind (whole m) n e = cc e
not_behind (refused place reason) n e = cc e
not_behind unfinished n e = cc e

first_brace : (limit : ℕ) (x : List ℕ) (n : ℕ) → front limit false x ≡ whole n → slice_index x 0 ≡ 123
unfolding front
first_brace limit [] n e = cc e
first_brace limit (b ∷ x) n e = elim (cases_Bool (b == 123)) [
  | inl t ↦ eqb-true b 123 t
  | inr f ↦ elim (cases_Bool (b == 45)) [
    | inl t ↦ absurd (not_behind (attached_part (b ∷ x)) n (rw (f, t) at e))
    | inr g ↦ cc (rw (f, g) at e)
  ]
]

brace_body : (limit : ℕ) (begun : Bool) (x : List ℕ) (n : ℕ) → slice_index x 0 ≡ 123 → front limit begun x ≡ whole n → body_part limit x ≡ whole n
unfolding front
brace_body limit begun [] n brace e = cc e
brace_body limit begun (b ∷ x) n brace e = rw (ap (λ c. c == 123) brace) at e

-- no character is a brace
no_brace : (text : List ℕ) → list_all is_character text ≡ true → slice_index text 0 ≡ 123 → ⊥
no_brace [] all brace = cc brace
no_brace (b ∷ text) all brace = cc (sym (character_at (b ∷ text) 0 all (omega arith)) ∙ ap is_character brace)

-- an item at the front may stand there
dash_begun : (limit : ℕ) (begun : Bool) (x : List ℕ) (n : ℕ) → 1 ≤ n → front limit begun x ≡ whole n → slice_index (take n x) 0 ≡ 45 → begun ≡ true
dash_begun limit true x n some is dash = refl
dash_begun limit false x n some is dash = cc (sym (first_brace limit x n is) ∙ sym (first_kept x n some) ∙ dash)

may_in_text : (limit : ℕ) (begun : Bool) (x : List ℕ) (n : ℕ) (item : Item) → 1 ≤ n → front limit begun x ≡ whole n → SpellsItem (take n x) item
    → MayStand limit begun item
may_in_text limit begun x n (Body bytes) some is spelled =
    let few = whole_body limit x n (brace_body limit begun x n (sym (first_kept x n some) ∙ spelled.1) is) in
    omega (arith, few, length-take n x, ap length spelled.0)
may_in_text limit begun x n (GroupItem group) some is spelled = dash_begun limit begun x n some is
    (ap (λ text. slice_index text 0) spelled ∙ (group_dash group).0)
may_in_text limit begun x n (Wrapped groups) some is spelled = dash_begun limit begun x n some is
    (ap (λ text. slice_index text 0) spelled ∙ (wrap_dash groups).0)

begun_in_binary : (limit : ℕ) (begun : Bool) (x : List ℕ) (n : ℕ) → front limit begun (text_of x) ≡ whole n → begun ≡ true
begun_in_binary limit true x n is = refl
begun_in_binary limit false x n is = absurd (no_brace (text_of x) (text_characters x) (first_brace limit (text_of x) n is))

may_in_binary : (limit : ℕ) (begun : Bool) (x y : List ℕ) (n : ℕ) (item : Item) → front limit begun (text_of x) ≡ whole n
    → SpellsItem (text_of y) item → MayStand limit begun item
may_in_binary limit begun x y n (Body bytes) is spelled = absurd (no_brace (text_of y) (text_characters y) spelled.1)
may_in_binary limit begun x y n (GroupItem group) is spelled = begun_in_binary limit begun x n is
may_in_binary limit begun x y n (Wrapped groups) is spelled = begun_in_binary limit begun x n is

may_stand : (limit : ℕ) (begun : Bool) (x : List ℕ) (n : ℕ) (item : Item) → mixed_front limit begun x ≡ whole n → SpellsEither (take n x) item
    → MayStand limit begun item
may_stand limit begun x n item is spelled =
    let some = spelled_some x n item spelled in
    let kept = ap is_binary (first_kept x n some) in
    elim (cases_Bool (is_binary (slice_index x 0))) [
      | inl t ↦
          let part = in_binary-whole (front limit begun (text_of x)) n (sym (mixed_binary limit begun x t) ∙ is) in
          may_in_binary limit begun x (take n x) part.0 item part.1 (subst (λ text. SpellsItem text item) (in_either_of (take n x) (kept ∙ t)) spelled)
      | inr f ↦
          may_in_text limit begun x n item some (sym (mixed_text limit begun x f) ∙ is)
          (subst (λ text. SpellsItem text item) (in_text_of (take n x) (kept ∙ f)) spelled)
    ]

-- whether a body came before what stands behind these
after : Bool → List Written → Bool
after begun [] = begun
after begun (w ∷ ws) = true

after_true : (ws : List Written) → after true ws ≡ true
unfolding after
after_true [] = refl
after_true (w ∷ ws) = refl

after_more : (begun : Bool) (ws : List Written) (w : Written) → after begun (ws ++ w ∷ []) ≡ true
unfolding after
after_more begun [] w = refl
after_more begun (v ∷ ws) w = refl

may_push : (limit : ℕ) (begun : Bool) (ws : List Written) (w : Written) → MayAllStand limit begun ws → IsItem w.item → IsWritable w.item
    → MayStand limit (after begun ws) w.item
    → MayAllStand limit begun (ws ++ w ∷ [])
unfolding after
may_push limit begun [] w all valid writable may = (valid, writable, may, tt)
may_push limit begun (v ∷ ws) w all valid writable may =
    (all.0, all.1, all.2, may_push limit true ws w all.3 valid writable (subst (λ b. MayStand limit b w.item) (sym (after_true ws)) may))

-- all that stand, each written in the domain
written_all : Domain → List Placed → List Written
written_all domain items = map (λ p. written domain p.item) items

written_more : (domain : Domain) (items : List Placed) (p : Placed)
    → written_all domain (items ++ p ∷ []) ≡ written_all domain items ++ written domain p.item ∷ []
unfolding written_all
written_more domain items p = map-append (λ q. written domain q.item) items (p ∷ [])

all_may : (domain : Domain) (limit : ℕ) (bytes : List ℕ) (items : List Placed) (begun : Bool) (place : ℕ) → StandMixed limit bytes items begun place
    → All (λ p. IsItem p.item) items
    → All (λ p. IsWritable p.item) items → MayAllStand limit false (written_all domain items) × (after false (written_all domain items) ≡ begun)
unfolding written_all after
all_may domain limit bytes items begun place none valid writable = (tt, refl)
all_may domain limit bytes items begun place (one {items = before} {begun = earlier} {place = from} n item stand is spelled) valid writable =
    let valid_parts = All-pop (λ p. IsItem p.item) (before ++ placed from item ∷ []) before (Some (placed from item)) refl valid in
    let writable_parts = All-pop (λ p. IsWritable p.item) (before ++ placed from item ∷ []) before (Some (placed from item)) refl writable in
    let all = all_may domain limit bytes before earlier from stand valid_parts.0 writable_parts.0 in
    let ws : List Written = written_all domain before in
    let may : MayStand limit (after false ws) item = subst (λ b. MayStand limit b item) (sym all.1)
    (may_stand limit earlier (drop from bytes) n item is spelled) in
    rw (written_more domain before (placed from item))
    (may_push limit false ws (written domain item) all.0 valid_parts.1 writable_parts.1 may, after_more false ws (written domain item))

wire_all : (domain : Domain) (items : List Placed) → wire (written_all domain items) ≡ flat_map (λ p. item_in domain p.item) items
unfolding written_all
wire_all domain [] = refl
wire_all domain (p ∷ items) = ap (λ text. item_in domain p.item ++ text) (wire_all domain items)

items_all : (domain : Domain) (items : List Placed) → map (λ w. w.item) (written_all domain items) ≡ map (λ p. p.item) items
unfolding written_all
items_all domain [] = refl
items_all domain (p ∷ items) = ap (λ rest. p.item ∷ rest) (items_all domain items)

pub stand_again : (domain : Domain) (limit : ℕ) (bytes : List ℕ) (items : List Placed) (begun : Bool) (place : ℕ)
    → StandMixed limit bytes items begun place → All (λ p. IsItem p.item) items
    → All (λ p. IsWritable p.item) items → ReadsBack limit (flat_map (λ p. item_in domain p.item) items) (map (λ p. p.item) items)
stand_again domain limit bytes items begun place stand valid writable =
    subst (λ text. ReadsBack limit text (map (λ p. p.item) items)) (wire_all domain items)
    (subst (λ all. ReadsBack limit (wire (written_all domain items)) all) (items_all domain items)
    (wire_read limit (written_all domain items) (all_may domain limit bytes items begun place stand valid writable).0))
