use Rattle.std.proofs.Common.{◌∙◌, ap, sym}
use Rattle.std.specs.Prelude.{codes}
use Rattle.key_state.specs.Same.{has_text}
use Rattle.validator_core.specs.Tables.View.{log_of}
use Rattle.validator_core.proofs.AcceptanceLemmas.Delegators.{forbids_by, forbids_is}
use Rattle.validator_core.proofs.acceptance.seals.forbids.Goals as goal

pub returns-in-Some : goal.returns-in-Some
returns-in-Some c = c.has_no_delegation.ensures
    ∙ ap (λ ts. has_text ts (codes "DND")) (c.as_slice.ensures ∙ ap (λ s. s.traits) c.state.view_is)
    ∙ ap forbids_by c.in-Some.ensures ∙ sym (forbids_is (log_of c.args.tables.now) c.requires.grown c.args.prefix.now)

pub returns-in-None : goal.returns-in-None
returns-in-None c = ap forbids_by c.in-None.ensures ∙ sym (forbids_is (log_of c.args.tables.now) c.requires.grown c.args.prefix.now)
