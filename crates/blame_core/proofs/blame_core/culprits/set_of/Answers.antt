use Rattle.std.proofs.Common.{[], get_or, take, sym, subst}
use Rattle.std.proofs.lemmas.List.{take_more}
use Rattle.cesr_codes.specs.declared.key.Key.{Key}
use Rattle.cesr_codes.specs.declared.key.KeyCode.TheVariants.{Fixed}
use Rattle.blame_core.specs.BlameCore.Culprits.{HasKeys}
use Rattle.blame_core.proofs.BlameCoreLemmas.KeyPlaces.{set_more}
use Rattle.blame_core.proofs.blame_core.culprits.set_of.Goals as goal

pub loop-key-preserved : goal.loop-key-preserved
loop-key-preserved c =
    let keys = c.args.keys.now in
    let i = c.loop-key.key-index in
    let none : Key = record { code = Fixed; raw = [] } in
    subst (λ ks. HasKeys ks c.insert.new.self) (sym (take_more keys i none c.loop-key-test.true))
    (set_more (take i keys) (get_or keys i none) c.loop-key.set c.insert.new.self c.loop-key.invariant c.in_ok-insert.ensures.updates.0)
