use Rattle.std.proofs.Common.{ℕ, List, ◌++◌, sym, ◌∙◌, ap}
use Rattle.std.specs.Prelude.{filter_map, flat_map, slice_get}
use Rattle.std.specs.Option.{option_copied}
use Rattle.std.proofs.lemmas.List.{take_all}
use Rattle.cesr_codes.specs.declared.indexed_sig.IndexedSig.{IndexedSig}
use Rattle.validator_core.specs.Tables.Raised.{claims_at}
use Rattle.validator_core.specs.Tables.View.{body_of}
use Rattle.validator_core.specs.ValidatorCore.Signatures.{good_claim}
use Rattle.key_state.specs.Exposure.{own_rules}
use Rattle.validator_core.specs.Acceptance.Entries.{says_in}
use Rattle.validator_core.proofs.ValidatorCoreLemmas.GoodSignatures.{all_good, flat_map-more}
use Rattle.validator_core.proofs.validator_core.signatures.signatures_behind.Goals as goal

pub loop-entry-preserved : goal.loop-entry-preserved
loop-entry-preserved c = λ b at.
    let v = c.args.tables.now in
    let good = good_claim (says_in v.claims.rows c.args.number) (own_rules (option_copied c.args.state) c.args.event.now) in
    let entries = c.told-entries.result.now in
    let k = c.loop-entry.entry-index in
    c.in_ok-add_good.ensures
    ∙ (λ i. c.loop-entry.invariant b at i ++ filter_map good (c.claims_by-claims.ensures b at i))
    ∙ sym (flat_map-more (λ i. filter_map good (claims_at v.held b (slice_get v.entries i))) entries k 0 c.loop-entry-test.true)

pub returns : goal.returns
returns c = λ bytes at.
    let v = c.args.tables.now in
    let s = option_copied c.args.state in
    let e = c.args.event.now in
    let f : ℕ → List IndexedSig = λ i. filter_map (good_claim (says_in v.claims.rows c.args.number) (own_rules s e)) (claims_at v.held (body_of bytes e) (slice_get v.entries i)) in
    c.loop-entry.invariant (body_of bytes e) at
    ∙ ap (flat_map f) (take_all c.loop-entry.entry-index c.told-entries.result.now c.loop-entry-test.false)
    ∙ all_good v c.requires c.args.number (body_of bytes e) at s c.told-entries.result.now c.told-entries.ensures.rising
    (λ i reader m claims b by there named. c.told-entries.ensures.all i reader m claims b by there (named ∙ sym c.name_of.ensures))
