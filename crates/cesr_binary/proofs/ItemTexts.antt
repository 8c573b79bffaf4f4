-- The items of a good stream of texts, and their texts.
use Rattle.std.proofs.Common.{◌≡◌, ℕ, Bool, List, [], ◌∷◌, ◌++◌, take, drop, flat_map, refl, sym, ap, ◌∙◌, append-nil, append_assoc}
use Rattle.std.proofs.Math.Seq.{take-add}
use Rattle.cesr_stream.specs.declared.item.Item.{Item}
use Rattle.cesr_stream.specs.declared.item.Item.TheVariants.{Body, Group as GroupItem, Wrapped}
use Rattle.cesr_stream.specs.Items.{Placed, placed, Stand, none, one}
use Rattle.cesr_stream.specs.Texts.{SpellsItem}
use Rattle.cesr_stream.specs.Written.{item_text}

pub spelled_text : (text : List ℕ) (item : Item) → SpellsItem text item → text ≡ item_text item
spelled_text text (Body bytes) spelled = spelled.0
spelled_text text (GroupItem g) spelled = spelled
spelled_text text (Wrapped gs) spelled = spelled

pub flat_map-push : {A : Type 0} (f : A → List ℕ) (xs : List A) (x : A) → flat_map f (xs ++ x ∷ []) ≡ flat_map f xs ++ f x
flat_map-push f [] x = append-nil (f x)
flat_map-push f (y ∷ xs) x = ap (λ t. f y ++ t) (flat_map-push f xs x) ∙ sym (append_assoc (f y) (flat_map f xs) (f x))

-- the bytes up to where the rest begins are the texts of the items
pub stand_text : (limit : ℕ) (bytes : List ℕ) (items : List Placed) (begun : Bool) (place : ℕ) → Stand limit bytes items begun place
    → take place bytes ≡ flat_map (λ p. item_text p.item) items
stand_text limit bytes items begun place none = refl
stand_text limit bytes items begun place (one {items = before} {begun = earlier} {place = from} n item stand is spelled) =
    take-add from n bytes ∙ ap (λ t. t ++ take n (drop from bytes)) (stand_text limit bytes before earlier from stand)
    ∙ ap (λ t. flat_map (λ p. item_text p.item) before ++ t) (spelled_text (take n (drop from bytes)) item spelled)
    ∙ sym (flat_map-push (λ p. item_text p.item) before (placed from item))
