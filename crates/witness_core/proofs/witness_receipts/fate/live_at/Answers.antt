use Rattle.std.proofs.Common.{sym, ap, ◌∙◌, arith}
use Rattle.journal.proofs.JournalLemmas.Keeping.{accepted_grown}
use Rattle.validator_core.specs.ValidatorCore.View.{accepted_by, base_of, told_of}
use Rattle.witness_core.proofs.WitnessReceiptsLemmas.LiveStates.{live_since, none_live}
use Rattle.witness_core.proofs.witness_receipts.fate.live_at.Goals as goal

pub returns-in_err-state : goal.returns-in_err-state
returns-in_err-state c =
    let core = c.args.core.now in
    c.from_residual.ensures ∙ sym (none_live (accepted_by core) c.args.prefix.now c.args.sn (accepted_grown core.mode (base_of core) (told_of core) c.requires) (sym c.in_err-state.ensures.state))

pub returns-else-sn-state : goal.returns-else-sn-state
returns-else-sn-state c =
    let core = c.args.core.now in
    c.live_since.ensures ∙ sym (live_since (accepted_by core) c.args.prefix.now c.in_ok-state.state.now c.args.sn (accepted_grown core.mode (base_of core) (told_of core) c.requires) (sym c.in_ok-state.ensures.state) (omega (arith, c.if-sn-state.false, ap (λ s. s.est_sn) c.state-2.view_is)))
