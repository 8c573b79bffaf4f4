-- How many events a call looks at, as its callers see it.
use Rattle.std.proofs.Common.{◌≡◌, ℕ, ◌+◌, ◌≤◌, Bool, true, false, List, [], ◌∷◌, ◌++◌, length, Some, sym, ◌∙◌, ap, subst, append-nil, refl}
use Rattle.std.specs.Prelude.{slice_get}
use Rattle.std.specs.List.{list_any}
use Rattle.validator_core.specs.Acceptance.Standing.{told_of}
use Rattle.claim_table.specs.CoreLaws.Standing.{HasNoClash}
use Rattle.claim_table.specs.CoreLaws.ClaimRows.{triple_on}
use Rattle.claim_table.specs.declared.claim_table.signature.Signature.{Signature}
use Rattle.validator_core.specs.Tables.View.{View, log_of}
use Rattle.event_body.specs.EventBody.Events.{said_of}
use Rattle.journal.specs.declared.journal.body.Body.{Body}
use Rattle.journal.specs.declared.journal.claim.Claim.{Claim}
use Rattle.journal.specs.declared.journal.entry.Entry.TheVariants.{Took}
use Rattle.journal.specs.declared.journal.mode.Mode.{Mode}
use Rattle.journal.specs.Journal.Accepted.{accepted}
use Rattle.journal.specs.Journal.History.{Told, bodies, heard, same_triple, took}
use Rattle.journal.specs.Journal.Journals.{whole}
use Rattle.journal.specs.Journal.Logs.{is_in, same_body}
use Rattle.journal.specs.Journal.Questions.{questions}
use Rattle.journal.proofs.JournalLemmas.Accepting.{same_body-refl}
use Rattle.journal.proofs.JournalLemmas.Places.{any_at, slice_get_last}
use Rattle.keri_outside.specs.declared.limits.Limits.{Limits}
use Rattle.validator_core.specs.declared.validator_core.tally.Tally.{Tally}
use Rattle.validator_core.specs.ValidatorCore.Looks.{LooksAtFew, most_looks}
use Rattle.validator_core.specs.ValidatorCore.Tables.{AddsEntry, AddsVerdict, IsCore, AcceptsFrom, base_in}
use Rattle.validator_core.proofs.ValidatorCoreLemmas.Bodies.{bodies_heard, bodies_new, bodies_old}
use Rattle.validator_core.proofs.ValidatorCoreLemmas.Cores.{seen, v_held, v_log_of, v_told}
use Rattle.validator_core.proofs.ValidatorCoreLemmas.Entries.{log_then, told_then}
use Rattle.validator_core.proofs.ValidatorCoreLemmas.Looks.{looked, accepts_few}

module _ (mode : Mode) (limits : Limits) (base : ℕ) (old : View) (tally : Tally) (core : IsCore mode limits base old tally) where
  abbrev bs : List Body
  bs = base_in base old

  abbrev told : List Told
  told = told_of old

  -- SETTLED: from tables that hold what comes, to those of the next core
  module _ (new between before : View) (tally_then : Tally) (core_then : IsCore mode limits base new tally_then) (number steps steps_then : ℕ) (accepts : AcceptsFrom mode number between before steps steps_then)
      (t : Told) (b : Body) (at : slice_get between.held number ≡ Some b) (told_is : told_of between ≡ told ++ t ∷ []) (held_is : between.held ≡ bodies bs (told ++ t ∷ [])) (log_is : log_of between ≡ log_of old)
      (new_held : new.held ≡ before.held) (new_log : log_of new ≡ log_of before) where
    looks_accepted : LooksAtFew (seen mode limits base old) (said_of b.event) (seen mode limits base new) steps steps_then
    looks_accepted =
        let first = log_is ∙ core.log_is in
        let last = sym new_log ∙ core_then.log_is in
        let held = sym (new_held ∙ accepts.ready.keeps.held) in
        let few = accepts_few mode between before number steps steps_then accepts bs told t b at told_is held_is first in
        record {
          looks = looked mode between before number steps steps_then accepts;
          counted = accepts.ready.steps_are;
          few = subst (λ (log : List Body). HasNoClash log → steps_then ≤ steps + most_looks new.held (accepted mode bs told) log (said_of b.event)) last
              (subst (λ (log : List Body). HasNoClash (log_of before) → steps_then ≤ steps + most_looks new.held log (log_of before) (said_of b.event)) first
              (subst (λ (bodies : List Body). HasNoClash (log_of before) → steps_then ≤ steps + most_looks bodies (log_of between) (log_of before) (said_of b.event)) held few));
        }

  -- AGAIN: claims came with a body that is held
  module _ (new : View) (tally_then : Tally) (core_then : IsCore mode limits base new tally_then) (number reader steps steps_then : ℕ) (claims : List Claim) (b : Body) (at : slice_get old.held number ≡ Some b)
      (adds : AddsEntry mode number [] (Took reader number claims) old new steps steps_then) where
    whole_again : whole (old.held ++ []) (Took reader number claims) ≡ Some (took reader b claims)
    whole_again = let same = append-nil old.held in rw (same, at) refl

    inside : is_in (bodies bs told) b ≡ true
    inside = let order = core.in_order in ap (λ hs. is_in hs b) (sym order) ∙ any_at (λ c. same_body c b) old.held number b at (same_body-refl b)

    pub looks_again : LooksAtFew (seen mode limits base old) (said_of b.event) (seen mode limits base new) steps steps_then
    looks_again =
        let between = adds.brings.between in
        let comes = adds.brings.comes in
        let held = comes.held ∙ append-nil old.held in
        looks_accepted new between adds.before tally_then core_then number steps steps_then adds.brings.accepts (took reader b claims) b (ap (λ hs. slice_get hs number) held ∙ at)
        (told_then old between core.sound [] (Took reader number claims) comes (took reader b claims) whole_again)
        (held ∙ core.in_order ∙ sym (bodies_old bs told reader b claims inside))
        (log_then old between core.sound [] (Took reader number claims) comes (took reader b claims) whole_again)
        (ap (λ (v : View). v.held) adds.new_is) (ap (λ (v : View). log_of v) adds.new_is)

  -- NEW: a body came first
  module _ (new : View) (tally_then : Tally) (core_then : IsCore mode limits base new tally_then) (reader steps steps_then : ℕ) (claims : List Claim) (b : Body) (outside : is_in old.held b ≡ false)
      (adds : AddsEntry mode (length old.held) (b ∷ []) (Took reader (length old.held) claims) old new steps steps_then) where
    whole_new : whole (old.held ++ b ∷ []) (Took reader (length old.held) claims) ≡ Some (took reader b claims)
    whole_new = let at = slice_get_last old.held b in rw at refl

    pub looks_new : LooksAtFew (seen mode limits base old) (said_of b.event) (seen mode limits base new) steps steps_then
    looks_new =
        let between = adds.brings.between in
        let comes = adds.brings.comes in
        let order = core.in_order in
        let longer : bodies bs (told ++ took reader b claims ∷ []) ≡ old.held ++ b ∷ [] = bodies_new bs told reader b claims (ap (λ hs. is_in hs b) (sym order) ∙ outside) ∙ ap (λ hs. hs ++ b ∷ []) (sym order) in
        looks_accepted new between adds.before tally_then core_then (length old.held) steps steps_then adds.brings.accepts (took reader b claims) b (ap (λ hs. slice_get hs (length old.held)) comes.held ∙ slice_get_last old.held b)
        (told_then old between core.sound (b ∷ []) (Took reader (length old.held) claims) comes (took reader b claims) whole_new)
        (comes.held ∙ sym longer)
        (log_then old between core.sound (b ∷ []) (Took reader (length old.held) claims) comes (took reader b claims) whole_new)
        (ap (λ (v : View). v.held) adds.new_is) (ap (λ (v : View). log_of v) adds.new_is)

  -- VERDICT: one was heard on an open question
  module _ (new : View) (core_then : IsCore mode limits base new tally) (s : Signature) (verdict : Bool) (reader steps steps_then : ℕ) (b : Body) (at : slice_get old.held s.body ≡ Some b)
      (is_open : list_any (same_triple (triple_on b s.key s.sig)) (questions mode bs told) ≡ true) (adds : AddsVerdict mode s verdict reader old new steps steps_then) where
    pub looks_verdict : LooksAtFew (seen mode limits base old) (said_of b.event) (seen mode limits base new) steps steps_then
    looks_verdict =
        let held = v_held mode limits base old tally core new s verdict reader steps steps_then b at is_open adds in
        looks_accepted new adds.between adds.before tally core_then s.body steps steps_then adds.accepts (heard reader b s.key s.sig verdict) b (ap (λ hs. slice_get hs s.body) held ∙ at)
        (v_told mode limits base old tally core new s verdict reader steps steps_then b at is_open adds)
        (held ∙ core.in_order ∙ sym (bodies_heard bs told reader b s.key s.sig verdict))
        (v_log_of mode limits base old tally core new s verdict reader steps steps_then b at is_open adds)
        (ap (λ (v : View). v.held) adds.new_is) (ap (λ (v : View). log_of v) adds.new_is)
