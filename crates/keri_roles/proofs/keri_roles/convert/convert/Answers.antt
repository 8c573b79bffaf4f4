use Rattle.std.proofs.Common.{◌≡◌, refl, [], ◌∷◌, ◌∙◌, ap, None, map, option_map, rules}
use Rattle.run_status.specs.declared.run_status.close.Close.TheVariants.{End}
use Rattle.run_status.specs.declared.run_status.reader_end.ReaderEnd.{ReaderEnd}
use Rattle.run_status.specs.RunStatus.Readers.{reader_seen, source_seen}
use Rattle.keri_roles.specs.KeriRoles.Converted.{conversion_status}
use Rattle.keri_roles.proofs.CoreRolesLemmas.CoreTold.{seen_none}
use Rattle.keri_roles.proofs.keri_roles.convert.convert.Goals as goal

pub returns : goal.returns
returns g c =
    let seen = source_seen g.O.Source.Source.left g.O.Source.Source.faults g.O.Verifier.Verifier.says g.O.Verifier.Verifier.inquiries g.O.Verifier.Verifier.faults in
    let reader = reader_seen g.O.Source.Source.left g.O.Source.Source.faults g.O.Verifier.Verifier.says g.O.Verifier.Verifier.inquiries g.O.Verifier.Verifier.faults in
    let source = c.convert_file-source.result.0 in
    let done = c.convert_file-source.result.1 in
    let end : ReaderEnd g.row.O-Source.Denot g.row.O-Verifier.Denot = record { source = source; verifier = None; refused = c.new.result; seen = c.new-2.result; close = done.close } in
    let one : c.push.new.self.items ≡ end ∷ [] = search rules in
    let all : c.as_slice.result.now ≡ end ∷ [] = search rules in
    let status : c.conversion_status.result ≡ conversion_status done (map reader (end ∷ [])) = c.conversion_status.ensures ∙ ap (λ ends. conversion_status done (map reader ends)) all in
    rw (status, one, c.new.ensures.items, c.new-2.ensures, c.new-3.ensures.items, c.nothing_told.ensures) (record {
      converted = record {
        reader = record { source = option_map seen source; verifier = None; refused = []; seen = []; close = End };
        done = done;
        one = refl;
        makes = rw (seen_none seen source) c.convert_file-source.ensures.makes;
        converts = rw c.limits-limits.ensures at c.convert_file-source.ensures.converts;
        none_told = refl;
        no_signer = refl;
        no_disk = refl;
        no_old = refl;
        no_links = record { no_door = refl; no_sinks = refl };
        status = refl;
      };
      no_second = refl;
    })
