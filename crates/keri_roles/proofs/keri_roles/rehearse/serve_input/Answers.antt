use Rattle.std.proofs.Common.{refl}
use Rattle.run_status.specs.declared.run_outside.making.MakingKind.TheVariants.{Source}
use Rattle.std.specs.Prelude.{codes}
use Rattle.run_status.proofs.RunRecordLemmas.Makings.{one_failed, one_made}
use Rattle.keri_roles.proofs.keri_roles.rehearse.serve_input.Goals as goal

pub returns-in-Ok : goal.returns-in-Ok
returns-in-Ok g c =
    let made = c.in-Ok.ensures in
    record {
      makes = rw c.serve-served.ensures.shown (one_made Source (codes "-") _ _ c.in-Ok.source made.makes);
      serves = rw (made.holds, made.none_yet, made.same_sink) at c.serve-served.ensures.serves;
    }

pub returns-in-Err : goal.returns-in-Err
returns-in-Err g c =
    let made = c.in-Err.ensures in
    record { makes = one_failed Source (codes "-") _ _ _ made.makes; serves = (refl, rw made.same_sink refl) }
