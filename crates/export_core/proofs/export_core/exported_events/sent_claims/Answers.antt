use Rattle.std.proofs.Common.{◌≡◌, map, sym, ◌∙◌, ap}
use Rattle.std.specs.Prelude.{Some, filter, flat_map, slice_get}
use Rattle.validator_core.specs.Tables.EntryClaims.{came_to}
use Rattle.validator_core.specs.Tables.Names.{name_of}
use Rattle.escrow.specs.EventIndex.Keys.{numbers_at}
use Rattle.journal.specs.declared.journal.body.Body.{Body}
use Rattle.journal.specs.Journal.Replies.{same_claim}
use Rattle.key_state.specs.Same.{distinct}
use Rattle.export_core.specs.ExportLaws.Export.{ordered}
use Rattle.validator_core.specs.ValidatorCore.View.{told_of}
use Rattle.export_core.specs.ExportCore.Came.{name_cmp}
use Rattle.export_core.specs.ExportCore.Exported.{sent_by}
use Rattle.export_core.specs.ExportCore.GoodClaims.{is_good_by}
use Rattle.export_core.proofs.ExportCoreLemmas.Claims.{if_ok_so}
use Rattle.export_core.proofs.ExportCoreLemmas.Sent.{sent_there}
use Rattle.export_core.proofs.export_core.exported_events.sent_claims.Goals as goal

pub returns : goal.returns
returns c =
    let core = c.args.core.now in let own = c.args.own.now in let n = c.args.number in
    if_ok_so c.ordered.result (λ claims. claims.items ≡ ordered c.as_slice-2.result.now) (λ claims. (b : Body) → slice_get core.held n ≡ Some b → b.event ≡ c.args.event.now → claims.items ≡ sent_by (told_of core) own b)
    c.ordered.ensures (λ claims is b at event.
    let places = c.numbers-places.result.now in
    let all : c.as_slice.result.now ≡ flat_map (λ i. came_to (map (λ b. b.event) core.held) n (slice_get core.entries i)) places
    = c.as_slice.ensures.value ∙ c.in_ok-all.ensures ∙ (λ k. flat_map (λ i. came_to (c.events.ensures k) n (slice_get ((c.as_slice-entries.ensures ∙ c.journal.ensures.entries) k) i)) places) in
    is ∙ ap ordered (c.as_slice-2.ensures.value ∙ c.in_ok-good.ensures ∙ ap (λ xs. distinct same_claim (filter (is_good_by c.args.came.now.good own n) xs)) all)
    ∙ sent_there core c.requires.sound c.args.came.now c.requires.came own n b at places
    (c.numbers-places.ensures.those ∙ ap (numbers_at name_cmp c.args.came.now.entries) (c.name_of.ensures ∙ ap name_of (sym event))) c.numbers-places.ensures.rising)
