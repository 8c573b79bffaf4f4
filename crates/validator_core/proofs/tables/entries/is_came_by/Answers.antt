use Rattle.std.proofs.Common.{◌≡◌, ℕ, Bool, List, Some, refl, ◌∙◌, ap, sym, rules, tests}
use Rattle.std.specs.List.{list_any}
use Rattle.journal.specs.contracts.journal.claim.ClaimPartialEq.TheImpl as claims_test
use Rattle.journal.specs.declared.journal.claim.Claim.{Claim}
use Rattle.journal.specs.declared.journal.entry.Entry.{Entry}
use Rattle.journal.specs.declared.journal.entry.Entry.TheVariants.{Took}
use Rattle.journal.specs.Journal.Replies.{same_claim}
use Rattle.journal.proofs.JournalLemmas.Same.{any_turned, same_claim_is, same_claim_itself}
use Rattle.key_state.proofs.Same.{number_itself}
use Rattle.validator_core.specs.Tables.Rows.{has_claim}
use Rattle.validator_core.proofs.tables.entries.is_came_by.Goals as goal

alike : (x y : Claim) → (claims_test.ghosts).eq x y ≡ same_claim x y
alike x y = search (rules, tests)

-- a claim is among others
among : (b : Bool) (x : Claim) (xs : List Claim) → b ≡ list_any (λ y. (claims_test.ghosts).eq y x) xs → b ≡ list_any (same_claim x) xs
among b x xs e = e ∙ (λ i. list_any (λ y. alike y x i) xs) ∙ any_turned same_claim same_claim_is same_claim_itself x xs

-- the claims of an entry of the body itself
has_it : (n : ℕ) (x : Claim) (e : Entry) (r m : ℕ) (cs : List Claim) → e ≡ Took r m cs → m ≡ n → has_claim n x (Some e) ≡ list_any (same_claim x) cs
has_it n x e r m cs is same = let one = number_itself n in rw (is, same, one) refl

pub returns-then-body-sought : goal.returns-then-body-sought
returns-then-body-sought c =
    let those = among c.contains.result c.args.claim.now c.as_slice.result.now c.contains.ensures.value in
    those ∙ ap (list_any (same_claim c.args.claim.now)) c.as_slice.ensures ∙ sym (has_it c.args.sought c.args.claim.now c.args.entry.now _ _ _ c.in-Took.is c.if-body-sought.true)
