use Rattle.std.proofs.Common.{inl, inr}
use Rattle.journal.specs.declared.journal.mode.Mode.TheVariants.{Local}
use Rattle.journal_views.proofs.JournalLawsLemmas.Same.{confluence}
use Rattle.keri_roles.proofs.CoreRolesLemmas.OverCore.{ok_then}
use Rattle.keri_roles.proofs.core_roles.watch.watch_links.Goals as goal

pub returns-clause-watched : goal.returns-clause-watched
returns-clause-watched g c = ok_then c.over_links.result c.over_links.ensures.done (λ linked done. elim done [
  | inl over ↦ inl (record { over = over; confluent = confluence Local _ })
  | inr unseated ↦ inr unseated
])
