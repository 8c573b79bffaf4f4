-- There are no other items from the front of a mixed stream.
use Rattle.std.proofs.Common.{◌≡◌, ℕ, ◌+◌, Bool, false, true, List, [], ◌∷◌, ◌++◌, map, take, drop, refl, sym, ap, ◌∙◌, All, append-nil, append_assoc, subst}
use Rattle.std.proofs.lemmas.List.{map-append}
use Rattle.std.proofs.lemmas.List.Elements.{All-head, All-tail}
use Rattle.cesr_stream.specs.declared.item.Item.{Item}
use Rattle.cesr_stream.specs.Items.{IsEnd, Placed, placed}
use Rattle.cesr_stream.specs.Parts.{Part, whole}
use Rattle.cesr_stream.specs.Texts.{SpellsItem}
use Rattle.cesr_stream.specs.Written.{IsItem, IsWritable}
use Rattle.cesr_stream.proofs.SameItems.{same_item}
use Rattle.cesr_binary.specs.Mixed.{mixed_front, text_in_either, MixedItems, SpellsEither, StandMixed, none, one}
use Rattle.cesr_binary.proofs.ItemTexts.{spelled_text}

-- the same text spells one item alone
same_either : (text : List ℕ) (item other : Item) → IsItem item → IsItem other → IsWritable item → SpellsEither text item → SpellsEither text other
    → other ≡ item
same_either text item other valid other_valid writable spelled other_spelled =
    same_item item other valid other_valid writable (subst (λ t. SpellsItem t other) (spelled_text (text_in_either text) item spelled) other_spelled)

-- these items, from this place on, and how what is behind them is judged
StandFrom : ℕ → List ℕ → Bool → ℕ → List Item → Part → Type 0
StandFrom limit bytes begun place [] end = mixed_front limit begun (drop place bytes) ≡ end
StandFrom limit bytes begun place (item ∷ items) end =
    (n : ℕ) × (mixed_front limit begun (drop place bytes) ≡ whole n) × SpellsEither (take n (drop place bytes)) item × StandFrom limit bytes true
    (place + n) items end

from_front : (limit : ℕ) (bytes : List ℕ) (items : List Placed) (begun : Bool) (place : ℕ) (rest : List Item) (end : Part)
    → StandMixed limit bytes items begun place
    → StandFrom limit bytes begun place rest end → StandFrom limit bytes false 0 (map (λ p. p.item) items ++ rest) end
unfolding StandFrom
from_front limit bytes items begun place rest end none from = from
from_front limit bytes items begun place rest end (one {items = before} {begun = earlier} {place = at} n item stand is spelled) from =
    subst (λ all. StandFrom limit bytes false 0 all end)
    (sym (ap (λ all. all ++ rest) (map-append (λ p. p.item) before (placed at item ∷ [])) ∙ append_assoc (map (λ p. p.item) before) (item ∷ []) rest))
    (from_front limit bytes before earlier at (item ∷ rest) end stand (n, is, spelled, from))

same_from : (limit : ℕ) (bytes : List ℕ) (begun : Bool) (place : ℕ) (items others : List Item) (end other_end : Part) → IsEnd end → IsEnd other_end
    → All IsItem items → All IsWritable items
    → All IsItem others → StandFrom limit bytes begun place items end → StandFrom limit bytes begun place others other_end → others ≡ items
unfolding StandFrom
same_from limit bytes begun place [] [] end other_end is_end other_is_end valid writable other_valid stand other = refl
same_from limit bytes begun place [] (y ∷ others) end other_end is_end other_is_end valid writable other_valid stand other = absurd
    (subst IsEnd (sym stand ∙ other.1) is_end)
same_from limit bytes begun place (x ∷ items) [] end other_end is_end other_is_end valid writable other_valid stand other = absurd
    (subst IsEnd (sym other ∙ stand.1) other_is_end)
same_from limit bytes begun place (x ∷ items) (y ∷ others) end other_end is_end other_is_end valid writable other_valid stand other =
    let long : other.0 ≡ stand.0 = cc (sym other.1 ∙ stand.1) in
    let item : y ≡ x =
    same_either (take stand.0 (drop place bytes)) x y (All-head IsItem x items valid) (All-head IsItem y others other_valid)
    (All-head IsWritable x items writable) stand.2
    (subst (λ n. SpellsEither (take n (drop place bytes)) y) long other.2) in
    let rest : others ≡ items =
    same_from limit bytes true (place + stand.0) items others end other_end is_end other_is_end (All-tail IsItem x items valid)
    (All-tail IsWritable x items writable)
    (All-tail IsItem y others other_valid) stand.3 (subst (λ n. StandFrom limit bytes true (place + n) others other_end) long other.3) in
    ap (λ z. z ∷ others) item ∙ ap (λ all. x ∷ all) rest

pub same_items : (limit : ℕ) (bytes : List ℕ) (items others : List Placed) (end other_end : Part) → MixedItems limit bytes items end
    → MixedItems limit bytes others other_end
    → All IsItem (map (λ p. p.item) items) → All IsWritable (map (λ p. p.item) items) → All IsItem (map (λ p. p.item) others)
    → map (λ p. p.item) others ≡ map (λ p. p.item) items
unfolding StandFrom
same_items limit bytes items others end other_end all other valid writable other_valid =
    same_from limit bytes false 0 (map (λ p. p.item) items) (map (λ p. p.item) others) end other_end all.ends other.ends valid writable other_valid
    (from_all items end all) (from_all others other_end other)
  where
    from_all : (xs : List Placed) (at : Part) → MixedItems limit bytes xs at → StandFrom limit bytes false 0 (map (λ p. p.item) xs) at
    from_all xs at m =
        subst (λ ys. StandFrom limit bytes false 0 ys at) (append-nil (map (λ p. p.item) xs)) (from_front limit bytes xs m.begun m.place [] at m.stand m.behind)
