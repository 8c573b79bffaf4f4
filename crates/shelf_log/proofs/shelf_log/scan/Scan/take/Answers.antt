use Rattle.std.proofs.Common.{ℕ, List, ◌++◌, ◌∷◌, [], refl, sym, ◌∙◌, ap}
use Rattle.shelf_log.proofs.ShelfLogLemmas.ScanSteps.{over_read, kept_read}
use Rattle.shelf_log.proofs.shelf_log.scan.Scan.take.Goals as goal

pub returns-then-is_past-clause-read : goal.returns-then-is_past-clause-read
returns-then-is_past-clause-read c payloads read =
    over_read c.args.self.now _ payloads c.args.payload.now read c.requires.sized (refl, refl) refl refl (sym c.is_past.ensures ∙ c.if-is_past.true)

pub returns-clause-read : goal.returns-clause-read
returns-clause-read c payloads read =
    kept_read c.args.self.now _ payloads c.args.payload.now read c.requires.sized (refl, refl) refl (sym c.is_past.ensures ∙ c.if-is_past.false) refl
    (c.in_ok-push.ensures.ok ∙ ap (λ (p : List ℕ). c.args.self.now.list ++ p ∷ []) (c.from_vec-payload.ensures ∙ c.in_ok-from_slice.ensures.items))
