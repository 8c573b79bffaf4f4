use Rattle.std.proofs.Common.{◌≡◌, Bool, List, [], ◌∷◌, ◌||◌, map, refl, ap}
use Rattle.std.specs.List.{list_any}
use Rattle.run_status.specs.RunStatus.Readers.{close_found, reader_seen}
use Rattle.run_status.specs.RunStatus.RunEnds.{refuses, saw_another}
use Rattle.run_status.proofs.run_status.run_end.found.Goals as goal

-- whether a test holds of some value that is seen
any-map : {A B : Type 0} (test : B → Bool) (seen : A → B) (xs : List A) → list_any test (map seen xs) ≡ list_any (λ x. test (seen x)) xs
any-map test seen [] = refl
any-map test seen (x ∷ xs) = ap (λ rest. test (seen x) || rest) (any-map test seen xs)

pub returns : goal.returns
returns g c =
    let seen = reader_seen g.S.Source.left g.S.Source.faults g.V.Verifier.says g.V.Verifier.inquiries g.V.Verifier.faults in
    let readers = c.args.readers.now in
    rw (
      any-map (λ r. (close_found r.close).sink_failed) seen readers,
      any-map (λ r. (close_found r.close).source_failed) seen readers,
      any-map (λ r. (close_found r.close).verifier_failed) seen readers,
      any-map (λ r. (close_found r.close).signer_failed) seen readers,
      any-map (λ r. (close_found r.close).disk_failed) seen readers,
      any-map (λ r. (close_found r.close).limit_reached) seen readers,
      any-map (λ r. saw_another r.seen) seen readers,
      any-map (λ r. refuses r.close r.refused) seen readers,
      c.some_write_fault.ensures,
      c.some_read_fault.ensures,
      c.some_verifier_fault.ensures,
      c.some_signer_fault.ensures,
      c.some_disk_fault.ensures,
      c.some_full.ensures,
      c.some_saw_another.ensures,
      c.some_refused.ensures,
    ) refl
