-- Tables with one more entry, or as before.
use Rattle.std.proofs.Common.{◌≡◌, List, [], ◌∷◌, ◌++◌, ◌∙◌, ap}
use Rattle.std.specs.Prelude.{Result, Ok, Err}
use Rattle.std.specs.Result.{OnErr}
use Rattle.journal.specs.declared.journal.entry.Entry.{Entry}
use Rattle.validator_core.specs.Tables.View.{View}

pub on_err : {T E : Type 0} {P : Type 0} (r : Result T E) → P → OnErr r P
on_err (Ok x) p = tt
on_err (Err e) p = p

pub view_entered : (v now : View) (entries : List Entry) (e : Entry) → v ≡ now → entries ≡ v.entries ++ e ∷ [] → (let new : View = record v { entries = entries } in new) ≡ record now { entries = now.entries ++ e ∷ [] }
view_entered v now entries e same is = (λ i. record v { entries = is i }) ∙ ap {A = View} (λ w. record w { entries = w.entries ++ e ∷ [] }) same

pub view_kept : (v now : View) (entries : List Entry) → v ≡ now → entries ≡ v.entries → (let new : View = record v { entries = entries } in new) ≡ now
view_kept v now entries same is = (λ i. record v { entries = is i }) ∙ same
