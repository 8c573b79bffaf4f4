use Rattle.std.proofs.Common.{◌≡◌, ◌++◌, ◌∷◌, [], take, sym, ◌∙◌, ap, append_assoc, append-nil}
use Rattle.std.specs.Prelude.{filter_map}
use Rattle.std.specs.List.{cons_option}
use Rattle.std.specs.Option.{option_copied}
use Rattle.validator_core.specs.ValidatorCore.Signatures.{good_claim}
use Rattle.key_state.specs.Exposure.{own_rules}
use Rattle.validator_core.specs.Acceptance.Entries.{says_in}
use Rattle.validator_core.proofs.ValidatorCoreLemmas.GoodSignatures.{filter_map-more}
use Rattle.validator_core.proofs.validator_core.signatures.add_good.Goals as goal
use Rattle.validator_core.proofs.validator_core.signatures.add_good.Goals.{in-Some+in_ok-push, in_default}

pub loop-claim-preserved : goal.loop-claim-preserved
loop-claim-preserved c =
    let good = good_claim (says_in c.args.tables.now.claims.rows c.args.number) (own_rules (option_copied c.args.state) c.args.event.now) in
    let before = c.args.found.now.items in
    let claims = c.args.claims.now in
    let k = c.loop-claim.claim-index in
    let so_far = filter_map good (take k claims) in
    let more : filter_map good (take _ claims) ≡ _ = filter_map-more good claims k c.claim-item.result c.loop-claim-test.true c.claim-item.is in
    elim c.match-good_signature.branch [
      | in-Some+in_ok-push w ↦ (
          ap (λ v. v.items) w.found-is ∙ w.in_ok-push.ensures.items ∙ ap (λ xs. xs ++ w.in-Some.sig ∷ []) c.loop-claim.invariant
          ∙ append_assoc before so_far (w.in-Some.sig ∷ [])
          ∙ ap (λ xs. before ++ xs) (ap (λ o. so_far ++ cons_option o []) w.in-Some.ensures ∙ sym more))
      | in_default w ↦ (
          ap (λ v. v.items) w.found-is ∙ c.loop-claim.invariant
          ∙ ap (λ xs. before ++ xs) (sym (append-nil so_far) ∙ ap (λ o. so_far ++ cons_option o []) w.in_default.ensures ∙ sym more))
    ]
