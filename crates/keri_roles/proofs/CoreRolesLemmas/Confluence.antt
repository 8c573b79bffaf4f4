-- What a validator reports, any other reports that was told the same.
use Rattle.std.proofs.Common.{List}
use Rattle.std.specs.Prelude.{All}
use Rattle.event_body.specs.EventBody.Judging.{SpellsEvent}
use Rattle.journal.specs.declared.journal.body.Body.{Body}
use Rattle.journal.specs.declared.journal.entry.Entry.{Entry}
use Rattle.journal.specs.Journal.Journals.{InOrder}
use Rattle.keri_roles.specs.CoreRoles.Confluence.{IsConfluent}
use Rattle.keri_roles.proofs.CoreRolesLemmas.OneReport.{one_text, same}

-- of a journal's bodies, each of which spells its event, where they came in order
pub is_confluent : (held : List Body) (entries : List Entry) → All (λ b. SpellsEvent b.event b.bytes) held → InOrder 0 held entries → IsConfluent held entries
is_confluent held entries spelled in_order others more other_order alike =
    record {
      same = same held others entries more in_order other_order spelled alike;
      one_text = one_text held others entries more in_order other_order spelled alike;
    }
