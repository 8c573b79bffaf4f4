-- The seals of an event that are listed are those that it holds.
use Rattle.std.proofs.Common.{◌≡◌, ℕ, List, sym, ◌∙◌, subst}
use Rattle.std.specs.Prelude.{Contains}
use Rattle.cesr_codes.specs.declared.prefix.Prefix.{Prefix}
use Rattle.event_backing.specs.EventSeals.{names}
use Rattle.event_backing.specs.Listing.{AreSealsOf}
use Rattle.event_backing.specs.declared.event_seal.EventSeal.{EventSeal}
use Rattle.event_backing.proofs.Held.{listed-held}
use Rattle.event_body.specs.declared.event_body.event.Event.{Event}
use Rattle.event_body.specs.EventBody.Events.{anchors_of, prefix_of}
use Rattle.journal.proofs.JournalLemmas.Places.{found_at}
use Rattle.validator_core.specs.declared.tables.name.SealKey.{SealKey}
use Rattle.validator_core.specs.Tables.Hints.{IsSealedAt}
use Rattle.validator_core.specs.Tables.Names.{name_in, seal_key}
use Rattle.validator_core.proofs.TablesLemmas.NamedRows.{same_name_is}
use Rattle.validator_core.proofs.TablesLemmas.Rows.{contained}

pub sealed_at : (seals : SealKey → List ℕ) (e : Event) (place : ℕ) (holder : Prefix) (listed : List EventSeal) → holder ≡ prefix_of e → AreSealsOf (anchors_of e) listed
    → ((seal : EventSeal) → Contains listed seal → Contains (seals (seal_key holder (name_in seal))) place) → IsSealedAt seals e place
sealed_at seals e place holder listed is all each seal good holds =
    let found = found_at (names seal.prefix seal.sn seal.said) listed (sym (listed-held e listed seal all good) ∙ holds) in
    let one = same_name_is (name_in found.1) (name_in seal) found.3 in
    subst (λ p. Contains (seals (seal_key p (name_in seal))) place) is
    (subst (λ m. Contains (seals (seal_key holder m)) place) one (each found.1 (contained listed found.0 found.1 found.2)))
