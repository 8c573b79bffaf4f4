-- What a validator accepts agrees with what any other accepts.
use Rattle.std.proofs.Common.{List, subst}
use Rattle.std.specs.Prelude.{All}
use Rattle.event_body.specs.EventBody.Judging.{SpellsEvent}
use Rattle.journal.specs.declared.journal.body.Body.{Body}
use Rattle.journal.specs.declared.journal.entry.Entry.{Entry}
use Rattle.journal.specs.Journal.Journals.{InOrder, told_by}
use Rattle.quorum_laws.proofs.Backers.{accepted_is_backed}
use Rattle.quorum_laws.proofs.Law.{agreement}
use Rattle.keri_roles.specs.CoreRoles.Agreement.{IsAgreed}

-- of a journal's bodies, each of which spells its event, where they came in order
pub is_agreed : (held : List Body) (entries : List Entry) → All (λ b. SpellsEvent b.event b.bytes) held → InOrder 0 held entries
    → IsAgreed (told_by held entries)
is_agreed held entries spelled in_order history bad lawful honest =
    let backed = accepted_is_backed (told_by held entries) history bad (subst (All (λ b. SpellsEvent b.event b.bytes)) in_order spelled) honest in
    record {
      backed = backed;
      agrees = λ other is_backed no_clash. agreement _ other history bad (record { lawful = lawful; first = backed; second = is_backed; no_clash = no_clash });
    }
