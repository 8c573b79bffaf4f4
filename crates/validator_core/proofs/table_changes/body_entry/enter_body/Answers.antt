use Rattle.std.proofs.Common.{◌≡◌, [], ◌∷◌, ◌++◌, length, Some, sym, ◌∙◌, ap, subst}
use Rattle.std.specs.Prelude.{slice_get}
use Rattle.validator_core.specs.Acceptance.Standing.{Extends, AreSoundTables, told_of}
use Rattle.validator_core.specs.Tables.View.{View}
use Rattle.journal.specs.declared.journal.entry.Entry.TheVariants.{Took}
use Rattle.journal.specs.Journal.History.{claims_on}
use Rattle.journal.proofs.JournalLemmas.Places.{slice_get_last}
use Rattle.validator_core.proofs.AcceptanceLemmas.NewReceipt.{standing_body}
use Rattle.validator_core.proofs.AcceptanceLemmas.Rewound.{extends_claimed, extends_held, extends_then}
use Rattle.validator_core.specs.TableChanges.Entries.{IsLogged, RaisesFound}
use Rattle.validator_core.proofs.TableChangesLemmas.EnteredClaims.{comes_new, mid_of}
use Rattle.validator_core.proofs.TableChangesLemmas.LoggedTables.{extends_body, extends_some, logged_body}
use Rattle.validator_core.proofs.table_changes.body_entry.enter_body.Goals as goal

pub enter_claims-requires-clause-sound : goal.enter_claims-requires-clause-sound
enter_claims-requires-clause-sound c = subst AreSoundTables (sym c.in_ok-number.ensures.ok) (standing_body c.args.tables.now c.requires.sound c.args.body c.requires.held c.requires.outside (sym c.is_receipt-receipt.ensures ∙ c.if-receipt.true))

pub raise_if_standing-requires : goal.raise_if_standing-requires
raise_if_standing-requires c =
    let mid_is = mid_of c.args.tables.now c.push_body.new.self c.push_took.new.self c.args.reader c.args.body c.in_ok-number.number c.args.claims c.in_ok-number.ensures.ok c.in_ok-number.ensures.number c.in_ok-push_took.ensures.ok in
    subst IsLogged (sym mid_is) (logged_body c.args.tables.now c.args.body (Took c.args.reader (length c.args.tables.now.held) c.args.claims) c.requires.sound c.requires.held c.requires.outside)

pub returns-in_err-enter_claims-clause-extends : goal.returns-in_err-enter_claims-clause-extends
returns-in_err-enter_claims-clause-extends c = extends_then c.args.tables.now c.push_body.new.self c.enter_claims.new.tables
    (subst (Extends c.args.tables.now) (sym c.in_ok-number.ensures.ok) (extends_held c.args.tables.now c.args.body c.requires.sound)) c.enter_claims.ensures.extends

pub returns-in_err-raise_if_standing-clause-extends : goal.returns-in_err-raise_if_standing-clause-extends
returns-in_err-raise_if_standing-clause-extends c =
    let mid_is = mid_of c.args.tables.now c.push_body.new.self c.push_took.new.self c.args.reader c.args.body c.in_ok-number.number c.args.claims c.in_ok-number.ensures.ok c.in_ok-number.ensures.number c.in_ok-push_took.ensures.ok in
    let more = subst (Extends c.args.tables.now) (sym mid_is) (extends_body c.args.tables.now c.args.body (Took c.args.reader (length c.args.tables.now.held) c.args.claims) c.requires.sound) in
    extends_some c.args.tables.now c.push_took.new.self c.raise_if_standing.new.tables c.in_ok-number.number more c.in_err-raise_if_standing.ensures.err

pub returns-clause-ok : goal.returns-clause-ok
returns-clause-ok c =
    let b = c.args.body in
    let number = c.in_ok-number.ensures.number in
    let mid_is = mid_of c.args.tables.now c.push_body.new.self c.push_took.new.self c.args.reader b c.in_ok-number.number c.args.claims c.in_ok-number.ensures.ok number c.in_ok-push_took.ensures.ok in
    let there : slice_get c.push_took.new.self.held c.in_ok-number.number ≡ Some b = ap (λ (v : View). slice_get v.held c.in_ok-number.number) mid_is ∙ ap (slice_get (c.args.tables.now.held ++ b ∷ [])) number ∙ slice_get_last c.args.tables.now.held b in
    comes_new c.args.tables.now c.push_took.new.self c.raise_if_standing.new.tables c.requires.sound c.args.reader b c.requires.held c.requires.outside c.args.claims (sym c.is_receipt-receipt.ensures ∙ c.if-receipt.false) mid_is
    (subst (λ n. RaisesFound n b (claims_on (told_of c.push_took.new.self) b) c.push_took.new.self c.raise_if_standing.new.tables) number (c.in_ok-raise_if_standing.ensures.ok b there))

pub returns-clause-extends : goal.returns-clause-extends
returns-clause-extends c =
    let b = c.args.body in
    let number = c.in_ok-number.ensures.number in
    let mid_is = mid_of c.args.tables.now c.push_body.new.self c.push_took.new.self c.args.reader b c.in_ok-number.number c.args.claims c.in_ok-number.ensures.ok number c.in_ok-push_took.ensures.ok in
    let there : slice_get c.push_took.new.self.held c.in_ok-number.number ≡ Some b = ap (λ (v : View). slice_get v.held c.in_ok-number.number) mid_is ∙ ap (slice_get (c.args.tables.now.held ++ b ∷ [])) number ∙ slice_get_last c.args.tables.now.held b in
    let more = subst (Extends c.args.tables.now) (sym mid_is) (extends_body c.args.tables.now b (Took c.args.reader (length c.args.tables.now.held) c.args.claims) c.requires.sound) in
    let raised = c.in_ok-raise_if_standing.ensures.ok b there in
    subst (Extends c.args.tables.now) (sym raised.new_is) (extends_claimed c.args.tables.now c.push_took.new.self raised.added more)
