-- What came is kept, or cut back.
use Rattle.std.proofs.Common.{◌≡◌, ℕ, List, length, Result, Ok, Err, sym}
use Rattle.std.specs.Prelude.{OnOk}
use Rattle.std.proofs.lemmas.Result.{IfOk-at_ok}
use Rattle.validator_core.specs.Tables.View.{View}
use Rattle.journal.specs.declared.journal.body.Body.{Body}
use Rattle.journal.specs.declared.journal.entry.Entry.{Entry}
use Rattle.journal.specs.declared.journal.mode.Mode.{Mode}
use Rattle.validator_core.specs.Acceptance.Standing.{Comes}
use Rattle.validator_core.specs.ValidatorCore.Tables.{AddsEntry, AcceptsFrom}

-- an entry comes, and what it makes ready is kept
pub adds_entry : {T E : Type 0} (mode : Mode) (number : ℕ) (more : List Body) (e : Entry) (old between before new : View) (steps steps_then : ℕ) (accepted result : Result T E) → result ≡ accepted → Comes more e old between
    → OnOk accepted (AcceptsFrom mode number between before steps steps_then) → OnOk result (new ≡ record before { released = length before.log.numbers })
    → OnOk result (AddsEntry mode number more e old new steps steps_then)
adds_entry mode number more e old between before new steps steps_then accepted (Ok x) same comes accepts kept =
    let from_it = IfOk-at_ok (λ _. AcceptsFrom mode number between before steps steps_then) (sym same) accepts in
    record { before = before; brings = record { between = between; comes = comes; accepts = from_it }; new_is = kept }
adds_entry mode number more e old between before new steps steps_then accepted (Err d) same comes accepts kept = tt
