-- What the tables tell, and what is accepted of it, once an entry came.
use Rattle.std.proofs.Common.{◌≡◌, ℕ, ◌<◌, ◌≤◌, Bool, List, [], ◌∷◌, ◌++◌, length, Some, refl, ◌∙◌, ap, subst}
use Rattle.std.specs.Prelude.{slice_get, take}
use Rattle.std.proofs.lemmas.Bool.{or_left}
use Rattle.std.proofs.lemmas.List.{take-append-le}
use Rattle.validator_core.specs.Acceptance.ReadyRuns.{RunsOver}
use Rattle.validator_core.specs.Acceptance.Standing.{Comes, AreSoundTables, told_of}
use Rattle.validator_core.proofs.AcceptanceLemmas.Entries.{told_front}
use Rattle.claim_table.specs.CoreLaws.Entries.{HaveNamed}
use Rattle.claim_table.proofs.CoreLawsLemmas.Entries.{all_from, entry_settles}
use Rattle.cesr_codes.specs.declared.key.Key.{Key}
use Rattle.cesr_codes.specs.declared.sig.Sig.{Sig}
use Rattle.validator_core.specs.Tables.View.{View, log_of}
use Rattle.journal.specs.declared.journal.body.Body.{Body}
use Rattle.journal.specs.declared.journal.claim.Claim.{Claim}
use Rattle.journal.specs.declared.journal.entry.Entry.{Entry}
use Rattle.journal.specs.declared.journal.mode.Mode.{Mode}
use Rattle.journal.specs.Journal.Accepted.{accepted}
use Rattle.journal.specs.Journal.History.{Told, took, heard, bodies}
use Rattle.journal.specs.Journal.Journals.{chosen, told_by, whole}
use Rattle.journal.proofs.JournalLemmas.Held.{chosen_front, told_push}
use Rattle.validator_core.specs.ValidatorCore.Tables.{HaveNumbers, AcceptsFrom}

-- SETTLED: what is accepted at the end of a run is that of the definition
accepts_to : (mode : Mode) (base : List Body) (told : List Told) (t : Told) (ts : List Told) (held log end : List Body) (due : List ℕ)
    → ts ≡ told ++ t ∷ [] → held ≡ bodies base (told ++ t ∷ []) → log ≡ accepted mode base told → HaveNamed held log t due → RunsOver mode ts held due log end
    → end ≡ accepted mode base (told ++ t ∷ [])
accepts_to mode base told t ts held log end due told_is held_is log_is named run =
    let run1 = subst (λ ts. RunsOver mode ts held due log end) told_is run in
    let run2 = subst (λ h. RunsOver mode (told ++ t ∷ []) h due log end) held_is run1 in
    let run3 = subst (λ l. RunsOver mode (told ++ t ∷ []) (bodies base (told ++ t ∷ [])) due l end) log_is run2 in
    let named1 = subst (λ h. HaveNamed h log t due) held_is named in
    let named2 = subst (λ l. HaveNamed (bodies base (told ++ t ∷ [])) l t due) log_is named1 in
    entry_settles mode base told t due end named2 run3

-- COMES: what the tables with an entry tell, and what they accept
module _ (old new : View) (stands : AreSoundTables old) (more : List Body) (e : Entry) (comes : Comes more e old new) (t : Told) (is : whole (old.held ++ more) e ≡ Some t) where
  pub told_then : told_of new ≡ told_of old ++ t ∷ []
  told_then =
      let held = comes.held in
      let entries = comes.entries in
      (λ i. told_by (held i) (entries i)) ∙ told_push (old.held ++ more) old.entries e t is
      ∙ ap (λ ts. ts ++ t ∷ []) (told_front old.held more old.entries stands.entries_held)

  pub log_then : log_of new ≡ log_of old
  log_then =
      let held = comes.held in
      let log = comes.log in
      (λ i. chosen (held i) (log i).numbers) ∙ chosen_front old.held more old.log.numbers (all_from (λ n. n < length old.held) old.log.numbers stands.accepted_held)

  pub base_then : (base : ℕ) → base ≤ length old.held → take base new.held ≡ take base old.held
  base_then base low = ap (take base) comes.held ∙ take-append-le base old.held more low

-- what a body that came names is what its number names
named_took : (v : View) (number reader : ℕ) (c : Body) (claims : List Claim) (due : List ℕ) → slice_get v.held number ≡ Some c → HaveNumbers v number due → HaveNamed v.held (log_of v) (took reader c claims) due
named_took v number reader c claims due at have n b at_b waits named = have number n c b refl at at_b waits named

module _ (mode : Mode) (base : List Body) (told : List Told) (v after : View) (number steps steps_then : ℕ) (accepts : AcceptsFrom mode number v after steps steps_then) where
  -- ACCEPTED: after a body came
  pub accepted_took : (reader : ℕ) (c : Body) (claims : List Claim) → slice_get v.held number ≡ Some c → told_of v ≡ told ++ took reader c claims ∷ []
      → v.held ≡ bodies base (told ++ took reader c claims ∷ []) → log_of v ≡ accepted mode base told → log_of after ≡ accepted mode base (told ++ took reader c claims ∷ [])
  accepted_took reader c claims at told_is held_is log_is =
      accepts_to mode base told (took reader c claims) (told_of v) v.held (log_of v) (log_of after) accepts.due told_is held_is log_is (named_took v number reader c claims accepts.due at accepts.named) accepts.ready.run

  -- and after a verdict
  pub accepted_heard : (reader : ℕ) (c : Body) (key : Key) (sig : Sig) (verdict : Bool) → slice_get v.held number ≡ Some c → told_of v ≡ told ++ heard reader c key sig verdict ∷ []
      → v.held ≡ bodies base (told ++ heard reader c key sig verdict ∷ []) → log_of v ≡ accepted mode base told → log_of after ≡ accepted mode base (told ++ heard reader c key sig verdict ∷ [])
  accepted_heard reader c key sig verdict at told_is held_is log_is =
      accepts_to mode base told (heard reader c key sig verdict) (told_of v) v.held (log_of v) (log_of after) accepts.due told_is held_is log_is
      (λ n b at_b waits named. accepts.named number n c b refl at at_b waits (or_left _ _ named)) accepts.ready.run
