use Rattle.std.proofs.Common.{◌≡◌, ◌||◌, ◌++◌, ◌∷◌, ◌+◌, [], Bool, true, false, take, refl, sym, ◌∙◌, ap}
use Rattle.std.specs.List.{list_any}
use Rattle.std.proofs.lemmas.List.{take_more}
use Rattle.std.proofs.lemmas.List.Folds.{list_any-append}
use Rattle.export_core.specs.ExportCore.Came.{is_signature, yes_of}
use Rattle.export_core.proofs.export_core.came.good_signatures.Goals as goal

or_nothing : (b : Bool) → b ≡ (b || false)
or_nothing true = refl
or_nothing false = refl

pub loop-entry-preserved : goal.loop-entry-preserved
loop-entry-preserved c = λ s.
    let entries = c.args.entries.now in
    let k = c.loop-entry.entry-index in
    let entry = c.entry-item.result in
    let more : take (k + 1) entries ≡ take k entries ++ entry ∷ [] = take_more entries k entry c.loop-entry-test.true ∙ ap (λ s. take k entries ++ s ∷ []) (sym c.entry-item.is) in
    c.in_ok-note_yes.ensures s
    ∙ (λ i. c.loop-entry.invariant s i || is_signature (c.yes_in.ensures i) s)
    ∙ ap (λ b. list_any (λ e. is_signature (yes_of e) s) (take k entries) || b) (or_nothing (is_signature (yes_of entry) s))
    ∙ sym (list_any-append (λ e. is_signature (yes_of e) s) (take k entries) (entry ∷ []))
    ∙ ap (list_any (λ e. is_signature (yes_of e) s)) (sym more)
