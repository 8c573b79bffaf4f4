use Rattle.std.proofs.Common.{◌≡◌, ℕ, ◌+◌, ◌-◌, ◌<◌, ◌≤◌, List, length, take, drop, get_or, All, sym, ◌∙◌, arith, length-drop}
use Rattle.std.proofs.lemmas.List.{get_or-take, get_or-drop, length-take-le}
use Rattle.said_digest.specs.Replaced.{replaced}
use Rattle.said_digest.proofs.Replaced.{at-a-place, elsewhere, length-replaced, next_piece}
use Rattle.said_digest.proofs.placeholder.piece_at.Goals as goal

pub returns-in-Some-clause-next : goal.returns-in-Some-clause-next
returns-in-Some-clause-next c =
    let bytes : List ℕ = c.args.bytes.now in
    let places : List ℕ = c.args.places.now in
    let inside = c.requires.places in
    let stands = c.in-Some.ensures.some in
    let fits = inside stands.0.0 c.in-Some.place stands.0.1 in
    let agree : (k : ℕ) → k < length c.placeholder_after.result.now → get_or (replaced bytes places) (c.args.at + k) 0 ≡ get_or c.placeholder_after.result.now k 0 =
    λ k below. at-a-place bytes places c.in-Some.place (c.args.at + k) inside stands.0 (omega arith) (omega arith)
    ∙ sym (c.placeholder_after.ensures.all k 0 below) in
    next_piece (replaced bytes places) c.placeholder_after.result.now c.args.at
    (omega (arith, length-replaced bytes places inside, fits, stands.0.2, stands.1)) agree

pub returns-in-None-clause-next : goal.returns-in-None-clause-next
returns-in-None-clause-next c =
    let bytes : List ℕ = c.args.bytes.now in
    let places : List ℕ = c.args.places.now in
    let at : ℕ = c.args.at in
    let inside = c.requires.places in
    let n : ℕ = c.next_place.result - at in
    let rest : List ℕ = drop at bytes in
    let long : length (take n rest) ≡ n = length-take-le n rest (omega (arith, length-drop at bytes)) in
    let apart : (k : ℕ) → k < n → All (λ place. place ≤ at + k → place + 44 ≤ at + k) places =
    λ k below i d within under. grind (arith, below, under, c.in-None.ensures.none i d within, c.next_place.ensures.next i d within) in
    let agree : (k : ℕ) → k < length (take n rest) → get_or (replaced bytes places) (at + k) 0 ≡ get_or (take n rest) k 0 =
    λ k below. elsewhere bytes places (at + k) inside (apart k (omega (arith, long)))
    ∙ sym (get_or-take n rest k 0 (omega (arith, long)) ∙ get_or-drop at bytes k 0) in
    next_piece (replaced bytes places) (take n rest) at (omega (arith, long, length-replaced bytes places inside)) agree
