use Rattle.std.proofs.Common.{◌∙◌, sym}
use Rattle.std.specs.Prelude.{slice_get}
use Rattle.std.specs.Option.{option_copied}
use Rattle.validator_core.specs.Acceptance.Entries.{claims_there, is_opened_at}
use Rattle.validator_core.proofs.AcceptanceLemmas.Claims.{any_flat}
use Rattle.validator_core.proofs.acceptance.entry_support.EntrySupportSupport.reveals.Goals as goal

pub returns : goal.returns
returns c =
    let s = c.args.self.now in
    c.is_opened.ensures ∙ sym (any_flat (is_opened_at s.tables.now.claims.rows s.number (option_copied s.state) s.event.now c.args.place) (claims_there s.tables.now (slice_get s.tables.now.held s.number)) s.entries.now)
