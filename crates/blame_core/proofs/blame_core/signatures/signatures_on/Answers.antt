use Rattle.std.proofs.Common.{◌≡◌, ◌++◌, Some, sym, ◌∙◌, ap, subst}
use Rattle.std.specs.Prelude.{flat_map, position, slice_get}
use Rattle.std.specs.BTreeMap.{get}
use Rattle.std.specs.List.{list_any}
use Rattle.std.specs.List.Sorted.{IsStrictlyIncreasing}
use Rattle.validator_core.specs.Tables.Names.{name_of}
use Rattle.validator_core.specs.Tables.View.{body_of}
use Rattle.escrow.specs.EventIndex.Keys.{numbers_at}
use Rattle.cesr_codes.specs.declared.key.Key.{Key}
use Rattle.cesr_codes.specs.declared.sig.Sig.{Sig}
use Rattle.journal.specs.Journal.History.{said_yes}
use Rattle.blame_core.specs.BlameLaws.Signatures.{triple_on}
use Rattle.validator_core.specs.ValidatorCore.View.{told_of}
use Rattle.blame_core.specs.BlameCore.NamedEntries.{name_cmp}
use Rattle.blame_core.specs.BlameCore.FirstSignatures.{is_signed, key_cmp}
use Rattle.blame_core.specs.BlameCore.Signatures.{AreSignatures, came_at, good_at}
use Rattle.blame_core.proofs.BlameCoreLemmas.Chosen.{is_body_of}
use Rattle.blame_core.proofs.BlameCoreLemmas.EntryNames.{came_named, good_named, held_differ}
use Rattle.blame_core.proofs.BlameCoreLemmas.EntrySignatures.{signature_same}
use Rattle.blame_core.proofs.blame_core.signatures.signatures_on.Goals as goal

pub returns : goal.returns
returns c = λ b at.
    let core = c.args.core.now in
    let held = core.held in
    let text = c.in-Some-Some.text.now in
    let event = c.in-Some-Some.event.now in
    let d = body_of text event in
    let one : b ≡ d = is_body_of (slice_get held c.args.number) text event c.in-Some-Some.ensures.body c.in-Some-Some.ensures' b at in
    let there = at ∙ ap (λ x. Some x) one in
    let places = numbers_at name_cmp c.args.named.now in
    let those : c.numbers-entries.result.now ≡ places (name_of event) = c.numbers-entries.ensures.those ∙ ap places c.name_of.ensures in
    let rising = subst IsStrictlyIncreasing those c.numbers-entries.ensures.rising in
    let apart = held_differ core c.journal-journal.ensures.sound in
    let came = c.in_ok-add_all_came.ensures
    ∙ (λ i. c.new-came.ensures.items i ++ flat_map (λ i. came_at held d (slice_get core.entries i)) (those i))
    ∙ came_named held apart core.entries places c.requires c.args.number d there rising in
    let good : (key : Key) (sig : Sig) → list_any (is_signed key sig) c.add_all_good.new.good.items ≡ said_yes (told_of core) (triple_on d key sig)
    = λ key sig. ap (list_any (is_signed key sig)) (c.in_ok-add_all_good.ensures
    ∙ (λ i. c.new-good.ensures.items i ++ flat_map (λ i. good_at held text (slice_get core.entries i)) (those i)))
    ∙ good_named held apart core.entries places c.requires c.args.number d there rising key sig in
    subst (λ b. AreSignatures (told_of core) b (record { came = c.add_all_came.new.came; firsts = c.in_ok-firsts.firsts })) (sym one)
    (λ key. signature_same (told_of core) d key c.add_all_came.new.came.items c.add_all_good.new.good.items (get key_cmp c.in_ok-firsts.firsts key) came (good key)
    (c.in_ok-firsts.ensures key
    ∙ (λ i. position (λ sig. list_any (is_signed key sig) (c.as_slice-2.ensures.value i)) (c.as_slice.ensures.value i))))
