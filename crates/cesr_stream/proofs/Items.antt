-- The items from the front stand whatever follows, and there are no others.
use Rattle.std.proofs.Common.{◌≡◌, ℕ, ◌≤◌, Bool, List, ◌++◌, length, take, drop, ap, sym, ◌∙◌, arith, length-drop, subst}
use Rattle.std.proofs.lemmas.List.{take-append-le, drop-append-le}
use Rattle.cesr_stream.specs.Parts.{whole}
use Rattle.cesr_stream.specs.Front.{front}
use Rattle.cesr_stream.specs.Items.{Placed, Stand, none, one}
use Rattle.cesr_stream.specs.Texts.{SpellsItem}
use Rattle.cesr_stream.proofs.Fronts.{stays-front, fits-front}

-- the rest begins within the bytes
pub place_within : (limit : ℕ) (bytes : List ℕ) (items : List Placed) (begun : Bool) (place : ℕ) → Stand limit bytes items begun place → place ≤ length bytes
place_within limit bytes items begun place none = omega arith
place_within limit bytes items begun place (one {items = before} {begun = earlier} {place = from} n item stand is spelled) =
    omega (arith, place_within limit bytes before earlier from stand, fits-front limit earlier (drop from bytes) n is, length-drop from bytes)

-- what stands from the front of bytes stands there whatever follows
pub stand_more : (limit : ℕ) (bytes more : List ℕ) (items : List Placed) (begun : Bool) (place : ℕ) → Stand limit bytes items begun place → Stand limit (bytes ++ more) items begun place
stand_more limit bytes more items begun place none = none
stand_more limit bytes more items begun place (one {items = before} {begun = earlier} {place = from} n item stand is spelled) =
    let rest : drop from (bytes ++ more) ≡ drop from bytes ++ more = drop-append-le from bytes more (place_within limit bytes before earlier from stand) in
    let judged : front limit earlier (drop from (bytes ++ more)) ≡ whole n
    = ap (front limit earlier) rest ∙ stays-front limit earlier (drop from bytes) more (λ e. cc (e, is)) ∙ is in
    let same : take n (drop from (bytes ++ more)) ≡ take n (drop from bytes)
    = ap (take n) rest ∙ take-append-le n (drop from bytes) more (fits-front limit earlier (drop from bytes) n is) in
    one n item (stand_more limit bytes more before earlier from stand) judged (subst (λ text. SpellsItem text item) (sym same) spelled)
