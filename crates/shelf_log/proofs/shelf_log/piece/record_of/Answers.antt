use Rattle.std.proofs.Common.{◌≡◌, ℕ, ◌-◌, List, ◌∷◌, ◌++◌, length, take, drop, refl, sym, ◌∙◌, ap, subst, arith, inr, take-append-drop}
use Rattle.std.proofs.lemmas.List.{length-take-le}
use Rattle.std.specs.Int.{w32, to_be_bytes}
use Rattle.shelf_log.specs.ShelfLog.Format.{IsInRange}
use Rattle.shelf_log.proofs.ShelfLogLemmas.Pieces.{length_front}
use Rattle.shelf_log.proofs.shelf_log.piece.record_of.Goals.{then-length-eq0-via-then-length-eq0, then-length-eq0-via-else-length-eq0+then-length-greatest}
use Rattle.shelf_log.proofs.shelf_log.piece.record_of.Goals as goal

pub returns-then-length-eq0 : goal.returns-then-length-eq0
returns-then-length-eq0 c =
    let n = c.from_be_bytes-length.result in
    let behind = length_front c.args.behind.now c.in-Some.length.now c.in-Some.rest.now n c.type_inv.behind (omega (arith, c.in-Some.ensures.cases.2)) c.in-Some.ensures.cases.0 c.in-Some.ensures.cases.1 c.from_be_bytes-length.ensures in
    (n, c.in-Some.rest.now, ap (λ (l : List ℕ). 1 ∷ l) behind, omega (arith, c.from_be_bytes-length.type_inv), out, refl)
  where
    out : IsInRange c.args.version c.from_be_bytes-length.result → ⊥
    out range = elim c.then-length-eq0.branch [
      | then-length-eq0-via-then-length-eq0 w ↦ absurd (grind (arith, w, range))
      | then-length-eq0-via-else-length-eq0+then-length-greatest w ↦ absurd (grind (arith, w, range))
    ]

pub returns-in-Some-get : goal.returns-in-Some-get
returns-in-Some-get c =
    let n = c.from_be_bytes-length.result in
    let behind = length_front c.args.behind.now c.in-Some.length.now c.in-Some.rest.now n c.type_inv.behind (omega (arith, c.in-Some.ensures.cases.2)) c.in-Some.ensures.cases.0 c.in-Some.ensures.cases.1 c.from_be_bytes-length.ensures in
    let whole_range : n - 0 ≡ n = omega arith in
    let payload = c.in-Some-get.ensures.lookup.0.2 ∙ ap (λ (m : ℕ). take m c.in-Some.rest.now) whole_range in
    let long : length c.in-Some-get.payload.now ≡ n = ap length payload ∙ length-take-le n c.in-Some.rest.now c.in-Some-get.ensures.lookup.0.1 in
    let whole = behind ∙ ap (λ (l : List ℕ). to_be_bytes w32 n ++ l) (sym (take-append-drop n c.in-Some.rest.now) ∙ ap (λ (l : List ℕ). l ++ drop n c.in-Some.rest.now) (sym payload)) in (
      drop n c.in-Some.rest.now,
      ap (λ (l : List ℕ). 1 ∷ l) (whole ∙ ap (λ (m : ℕ). to_be_bytes w32 m ++ (c.in-Some-get.payload.now ++ drop n c.in-Some.rest.now)) (sym long)),
      subst (IsInRange c.args.version) (sym long) (grind (arith, c.if-length-eq0.false), grind (arith, c.if-length-greatest.false, c.greatest.ensures)),
    )

pub returns-in-None : goal.returns-in-None
returns-in-None c =
    let n = c.from_be_bytes-length.result in
    let behind = length_front c.args.behind.now c.in-Some.length.now c.in-Some.rest.now n c.type_inv.behind (omega (arith, c.in-Some.ensures.cases.2)) c.in-Some.ensures.cases.0 c.in-Some.ensures.cases.1 c.from_be_bytes-length.ensures in
    inr (inr (n, c.in-Some.rest.now, ap (λ (l : List ℕ). 1 ∷ l) behind, (grind (arith, c.if-length-eq0.false), grind (arith, c.if-length-greatest.false, c.greatest.ensures)), omega (arith, c.in-None.ensures.lookup), refl))
