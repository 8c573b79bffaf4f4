-- What is judged of a mixed stream's front stays, whatever follows, and is within the bytes.
use Rattle.std.proofs.Common.{◌≡◌, ◌≢◌, ℕ, ◌<◌, ◌≤◌, Bool, List, [], ◌∷◌, ◌++◌, length, take, drop, refl, sym, ap, ◌∙◌, arith, inl, inr, length-drop, subst}
use Rattle.std.proofs.lemmas.Bool.{cases_Bool}
use Rattle.std.proofs.lemmas.List.{take-append-le, drop-append-le}
use Rattle.cesr_stream.specs.Front.{front}
use Rattle.cesr_stream.specs.Items.{Placed}
use Rattle.cesr_stream.specs.Parts.{Part, whole, refused, unfinished}
use Rattle.cesr_stream.proofs.Fronts.{stays-front, fits-front}
use Rattle.cesr_stream.proofs.Bounds.{few-front}
use Rattle.cesr_binary.specs.BinaryDomain.{text_of, in_bytes, is_binary}
use Rattle.cesr_binary.specs.Mixed.{in_binary, mixed_front, SpellsEither, StandMixed, none, one}
use Rattle.cesr_binary.proofs.BinaryDomain.{text_of-more, length-text_of}

-- a part that shows in the text shows in the bytes
in_binary-shown : (part : Part) → in_binary part ≢ unfinished → part ≢ unfinished
in_binary-shown (whole n) ne e = cc e
in_binary-shown (refused place reason) ne e = cc e
in_binary-shown unfinished ne e = ne refl

in_binary-unfinished : (part : Part) → in_binary part ≡ unfinished → part ≡ unfinished
in_binary-unfinished (whole n) e = cc e
in_binary-unfinished (refused place reason) e = cc e
in_binary-unfinished unfinished e = refl

pub in_binary-whole : (part : Part) (n : ℕ) → in_binary part ≡ whole n → (m : ℕ) × (part ≡ whole m) × (in_bytes m ≡ n)
in_binary-whole (whole m) n e = (m, refl, cc e)
in_binary-whole (refused place reason) n e = cc e
in_binary-whole unfinished n e = cc e

pub stays-mixed_front : (limit : ℕ) (begun : Bool) (x y : List ℕ) → mixed_front limit begun x ≢ unfinished
    → mixed_front limit begun (x ++ y) ≡ mixed_front limit begun x
unfolding mixed_front
stays-mixed_front limit begun [] y ne = absurd (ne refl)
stays-mixed_front limit begun (b ∷ x) y ne = elim (cases_Bool (is_binary b)) [
  | inl t ↦
      let more = text_of-more (b ∷ x) y in
      let shows : in_binary (front limit begun (text_of (b ∷ x))) ≢ unfinished = rw t at ne in
      rw t (ap in_binary (ap (front limit begun) more.1 ∙ stays-front limit begun (text_of (b ∷ x)) more.0
      (in_binary-shown (front limit begun (text_of (b ∷ x))) shows)))
  | inr f ↦ rw f (stays-front limit begun (b ∷ x) y (rw f at ne))
]

pub fits-mixed_front : (limit : ℕ) (begun : Bool) (x : List ℕ) (n : ℕ) → mixed_front limit begun x ≡ whole n → n ≤ length x
unfolding mixed_front
fits-mixed_front limit begun [] n e = cc e
fits-mixed_front limit begun (b ∷ x) n e = elim (cases_Bool (is_binary b)) [
  | inl t ↦
      let is = in_binary-whole (front limit begun (text_of (b ∷ x))) n (rw t at e) in
      omega (arith, is.2, fits-front limit begun (text_of (b ∷ x)) is.0 is.1, length-text_of (b ∷ x))
  | inr f ↦ fits-front limit begun (b ∷ x) n (rw f at e)
]

-- where more bytes are needed, few are there
pub few-mixed_front : (limit : ℕ) (begun : Bool) (x : List ℕ) → limit ≤ 65535 → mixed_front limit begun x ≡ unfinished → length x < 540544
unfolding mixed_front
few-mixed_front limit begun [] le e = omega arith
few-mixed_front limit begun (b ∷ x) le e = elim (cases_Bool (is_binary b)) [
  | inl t ↦
      let is = in_binary-unfinished (front limit begun (text_of (b ∷ x))) (rw t at e) in
      omega (arith, few-front limit begun (text_of (b ∷ x)) le is, length-text_of (b ∷ x))
  | inr f ↦ few-front limit begun (b ∷ x) le (rw f at e)
]

pub place_within : (limit : ℕ) (bytes : List ℕ) (items : List Placed) (begun : Bool) (place : ℕ) → StandMixed limit bytes items begun place
    → place ≤ length bytes
place_within limit bytes items begun place none = omega arith
place_within limit bytes items begun place (one {items = before} {begun = earlier} {place = from} n item stand is spelled) =
    omega (arith, place_within limit bytes before earlier from stand, fits-mixed_front limit earlier (drop from bytes) n is, length-drop from bytes)

-- what stands from the front of bytes stands there whatever follows
pub stand_more : (limit : ℕ) (bytes more : List ℕ) (items : List Placed) (begun : Bool) (place : ℕ) → StandMixed limit bytes items begun place
    → StandMixed limit (bytes ++ more) items begun place
stand_more limit bytes more items begun place none = none
stand_more limit bytes more items begun place (one {items = before} {begun = earlier} {place = from} n item stand is spelled) =
    let rest : drop from (bytes ++ more) ≡ drop from bytes ++ more = drop-append-le from bytes more (place_within limit bytes before earlier from stand) in
    let judged : mixed_front limit earlier (drop from (bytes ++ more)) ≡ whole n
    = ap (mixed_front limit earlier) rest ∙ stays-mixed_front limit earlier (drop from bytes) more (λ e. cc (e, is)) ∙ is in
    let same : take n (drop from (bytes ++ more)) ≡ take n (drop from bytes)
    = ap (take n) rest ∙ take-append-le n (drop from bytes) more (fits-mixed_front limit earlier (drop from bytes) n is) in
    one n item (stand_more limit bytes more before earlier from stand) judged (subst (λ bytes. SpellsEither bytes item) (sym same) spelled)
