use Rattle.std.proofs.Common.{◌≡◌, ◌≢◌, ℕ, Some, cond, List, [], ◌∷◌, length, refl, sym, ap, subst, ◌∙◌, inl, inr, None, arith, rules, tests}
use Rattle.std.proofs.lemmas.Bool.{cases_Bool}
use Rattle.std.specs.BTreeMap.{get}
use Rattle.escrow.specs.EventIndex.Keys.{numbers_in}
use Rattle.escrow.specs.Escrow.Tables.{digest_cmp, digest_eq, numbers_at, room_in}
use Rattle.escrow.proofs.EscrowLemmas.Digests.{Decides-digest_eq}
use Rattle.escrow.proofs.EscrowLemmas.Lists.{others_stay}
use Rattle.escrow.proofs.escrow.digest_numbers.DigestNumbers.let_go.Goals as goal

none_of : (ks : List ℕ) → length ks ≡ 0 → ks ≡ []
none_of [] e = refl
none_of (k ∷ ks) e = absurd (omega (arith, e))

pub returns-then-is_empty-clause-same : goal.returns-then-is_empty-clause-same
returns-then-is_empty-clause-same c = λ d.
    let key = c.in-Some.digest in
    let updates = c.remove.ensures.updates.0 d in
    let empty : c.numbers.result.now ≡ [] = none_of c.numbers.result.now (search (rules, tests)) in
    elim (cases_Bool (digest_eq key d)) [
      | inl t ↦
          let here : numbers_at c.args.self.now key ≡ [] = sym c.numbers.ensures.those ∙ empty in
          ap numbers_in (updates ∙ ap (λ b. cond b None (get digest_cmp c.args.self.now.lists d)) t) ∙ sym (subst (λ q. numbers_at c.args.self.now q ≡ []) ((Decides-digest_eq key d).0 t) here)
      | inr f ↦ ap numbers_in (updates ∙ ap (λ b. cond b None (get digest_cmp c.args.self.now.lists d)) f)
    ]

pub returns-then-is_empty-clause-room : goal.returns-then-is_empty-clause-room
returns-then-is_empty-clause-room c = λ d is.
    let apart : c.args.reserved ≢ Some c.in-Some.digest = search rules in
    let stays = others_stay (get digest_cmp c.args.self.now.lists) (get digest_cmp c.remove.new.self) c.in-Some.digest c.remove.ensures.updates.0 d (λ same. apart (is ∙ ap (λ q. Some q) (sym same))) in
    let room = ap room_in stays in
    omega (arith, room)
