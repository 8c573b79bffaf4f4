use Rattle.std.proofs.Common.{refl}
use Rattle.run_status.specs.declared.run_outside.making.MakingKind.TheVariants.{Source}
use Rattle.run_status.proofs.RunRecordLemmas.Makings.{one_failed, one_made}
use Rattle.keri_roles.proofs.keri_roles.convert.convert_file.Goals as goal

pub returns-in-Ok : goal.returns-in-Ok
returns-in-Ok g c =
    let made = c.in-Ok.ensures in
    record {
      makes = rw c.convert_stream-conversion.ensures.shown (one_made Source c.args.name.now _ _ c.in-Ok.source made.makes);
      converts = rw (made.holds, made.none_yet, made.same_sink) at c.convert_stream-conversion.ensures.converts;
    }

pub returns-in-Err : goal.returns-in-Err
returns-in-Err g c =
    let made = c.in-Err.ensures in
    record { makes = one_failed Source c.args.name.now _ _ _ made.makes; converts = (refl, rw made.same_sink refl) }
