use Rattle.std.proofs.Common.{◌≡◌, refl, [], ◌∷◌, None, option_map, rules}
use Rattle.run_status.specs.declared.run_status.close.Close.TheVariants.{End}
use Rattle.run_status.specs.declared.run_status.reader_end.ReaderEnd.{ReaderEnd}
use Rattle.run_status.specs.RunStatus.Readers.{source_seen}
use Rattle.keri_roles.proofs.CoreRolesLemmas.CoreTold.{seen_none}
use Rattle.keri_roles.proofs.keri_roles.rehearse.rehearse.Goals as goal

pub returns : goal.returns
returns g c =
    let seen = source_seen g.O.Source.Source.left g.O.Source.Source.faults g.O.Verifier.Verifier.says g.O.Verifier.Verifier.inquiries g.O.Verifier.Verifier.faults in
    let source = c.serve_input-source.result.0 in
    let served = c.serve_input-source.result.1 in
    let end : ReaderEnd g.row.O-Source.Denot g.row.O-Verifier.Denot = record { source = source; verifier = None; refused = c.new.result; seen = c.new-2.result; close = c.serving_close.result } in
    let one : c.push.new.self.items ≡ end ∷ [] = search rules in
    rw (one, c.new.ensures.items, c.new-2.ensures, c.new-3.ensures.items, c.serving_close.ensures, c.nothing_told.ensures, c.serving_status.ensures) (record {
      rehearsed = record {
        reader = record { source = option_map seen source; verifier = None; refused = []; seen = []; close = End };
        served = served;
        one = refl;
        makes = rw (seen_none seen source) c.serve_input-source.ensures.makes;
        serves = rw c.limits-limits.ensures at c.serve_input-source.ensures.serves;
        none_told = refl;
        no_signer = refl;
        no_disk = refl;
        no_old = refl;
        no_links = record { no_door = refl; no_sinks = refl };
        status = refl;
      };
      no_second = refl;
    })
