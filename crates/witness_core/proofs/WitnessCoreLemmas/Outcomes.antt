-- The outcome of a message: its fate, and the receipts that are due.
use Rattle.std.proofs.Common.{◌≡◌, ℕ, ◌<◌, Bool, false, List, [], ◌∷◌, ◌++◌, length, take, drop, slice_get, Option, Some, Result, Ok, Err, IfErr, IfOk, refl, sym, ◌∙◌, ap, subst, inl, inr, append_assoc}
use Rattle.std.specs.Prelude.{All, Contains, bytes_eq, find}
use Rattle.std.specs.List.{AllZip, cons_option}
use Rattle.std.specs.Result.{IsErr}
use Rattle.std.proofs.lemmas.Bool.{cases_Bool}
use Rattle.std.proofs.lemmas.List.Elements.{All-append, All-cons, All-contains_itself, All-drop, All-filter, All-head, All-nil, All-tail, All-weaker, Contains-append_left}
use Rattle.std.proofs.lemmas.Option.{slice_get_within}
use Rattle.cesr_codes.specs.declared.key.Key.{Key}
use Rattle.cesr_codes.specs.declared.sig.Sig.{Sig}
use Rattle.cesr_stream.specs.declared.message.Message.{Message}
use Rattle.validator_core.specs.Tables.View.{body_of}
use Rattle.event_body.specs.EventBody.Events.{is_receipt}
use Rattle.event_body.specs.declared.event_body.event.Event.{Event}
use Rattle.keri_outside.specs.declared.signing.Signing.{Signing}
use Rattle.lists.specs.KeriSpecs.Shown.{Puts, after}
use Rattle.lists.proofs.KeriSpecsLemmas.Putting.{after-nil}
use Rattle.journal.specs.declared.journal.body.Body.{Body}
use Rattle.journal.specs.Journal.Accepted.{accepted}
use Rattle.journal.specs.Journal.History.{Told, took}
use Rattle.journal.specs.Journal.Replies.{claims_of}
use Rattle.journal.proofs.JournalLemmas.Accepting.{accepted_extends}
use Rattle.validator_core.specs.ValidatorCore.Messages.{JudgesMessage}
use Rattle.validator_core.specs.ValidatorCore.Signatures.{is_witness_under}
use Rattle.validator_core.specs.ValidatorCore.View.{CoreView, Follows, accepted_by, base_of, open_of, told_of}
use Rattle.witness_core.specs.WitnessCore.Faults.{CausedBy, FullBy, SignFault, TakeFault}
use Rattle.witness_core.specs.WitnessStore.Faults.{StoresStill}
use Rattle.witness_core.specs.WitnessReceipts.Fates.{IsFate}
use Rattle.witness_core.specs.WitnessCore.Outcomes.{AreReceipts, AsksSigner, IsOfStored, IsOutcomeOf, KeepsList, TellsFate, due_by}
use Rattle.witness_core.specs.WitnessReceipts.Receipts.{IsReceiptOf, again, due, signings_of}
use Rattle.witness_core.specs.WitnessCore.Telling.{TellsEvent, TellsFault}
use Rattle.witness_core.specs.declared.witness_receipts.fate.Fate.{Fate}
use Rattle.witness_core.specs.declared.witness_receipts.fate.Fate.TheVariants.{Stored, Waits, Seen, NotAnEvent, Refused}
use Rattle.witness_core.specs.declared.witness_core.outcome.Outcome.{Outcome}
use Rattle.witness_core.specs.declared.witness_receipts.receipt.Receipt.{Receipt}
use Rattle.witness_core.specs.declared.witness_store.witness_fault.WitnessFault.{WitnessFault}
use Rattle.witness_core.specs.declared.witness_store.witness_fault.WitnessFault.TheVariants.{DiskFault, SignerFault, VerifierFault, LimitReached, Broken, OutOfMemory}
use Rattle.witness_core.proofs.WitnessStoreLemmas.Lists.{take_front}
use Rattle.witness_core.proofs.WitnessCoreLemmas.MessageFates.{IsOfEvent, fate_judged, of_event}

-- DUE: each event of which a receipt is due is accepted
module _ (P : Body → Type 0) where
  found_so : (test : Body → Bool) (xs : List Body) → All P xs → All P (cons_option (find test xs) [])
  found_so test [] all = All-nil P
  found_so test (x ∷ xs) all = elim (cases_Bool (test x)) [
    | inl k ↦ rw k (All-cons P x [] (All-head P x xs all) (All-nil P))
    | inr k ↦ rw k (found_so test xs (All-tail P x xs all))
  ]

  due_so : (key : Key) (stored log : List Body) (text : List ℕ) → All P log → All P stored → All P (due key stored log text)
  due_so key stored log text all before =
      All-filter (λ b. is_witness_under log b key) P (drop (length stored) log ++ again stored text)
      (All-append P (drop (length stored) log) (again stored text) (All-drop P (length stored) log all) (found_so (λ b. bytes_eq b.bytes text) stored before))

pub due_stored : (key : Key) (stored log more : List Body) (text : List ℕ) → log ≡ stored ++ more → All (Contains log) (due key stored log text)
due_stored key stored log more text is =
    due_so (Contains log) key stored log text (All-contains_itself log)
    (subst (λ (l : List Body). All (Contains l) stored) (sym is) (All-weaker (Contains stored) (Contains (stored ++ more)) (λ b there. Contains-append_left stored more b there) stored (All-contains_itself stored)))

zip_stored : (gives : Key → List ℕ → Option Sig) (key : Key) (core : CoreView) (bs : List Body) (rs : List Receipt) → AllZip (IsReceiptOf gives key) bs rs → All (Contains (accepted_by core)) bs → All (IsOfStored core) rs
zip_stored gives key core [] [] zip all = All-nil (IsOfStored core)
zip_stored gives key core [] (r ∷ rs) zip all = absurd zip
zip_stored gives key core (b ∷ bs) [] zip all = absurd zip
zip_stored gives key core (b ∷ bs) (r ∷ rs) zip all =
    All-cons (IsOfStored core) r rs (b, All-head (Contains (accepted_by core)) b bs all, zip.0.event) (zip_stored gives key core bs rs zip.1 (All-tail (Contains (accepted_by core)) b bs all))

due_is : (key : Key) (old new : CoreView) (m : Message) (fate : Fate) → IsOfEvent fate → due_by key old new m fate ≡ due key (accepted_by old) (accepted_by new) m.body
due_is key old new m (Stored listed) is = refl
due_is key old new m (Waits reason) is = refl
due_is key old new m (Seen said) is = refl
due_is key old new m NotAnEvent is = absurd is
due_is key old new m (Refused reason) is = absurd is

-- what was accepted before
pub accepted_more : (old new : CoreView) (more : List Told) → Follows old new → told_of new ≡ told_of old ++ more → (rest : List Body) × (accepted_by new ≡ accepted_by old ++ rest)
accepted_more old new more f behind =
    let extends = accepted_extends old.mode (base_of old) (told_of old) more in
    (extends.0, (λ i. accepted (f.mode i) (f.bodies i) (behind i)) ∙ extends.1)

-- MESSAGE: an event that the core was told of, whose body has the number
module _ (says : Key → List ℕ → Sig → Option Bool) (old : CoreView) (m : Message) (new : CoreView) (number : ℕ) (tells : TellsEvent says old m new)
    (numbered : (event : Event) → JudgesMessage m (Ok event) → slice_get new.held number ≡ Some (body_of m.body event)) where
  abbrev own : Body
  own = body_of m.body tells.event

  pub own_at : slice_get new.held number ≡ Some own
  own_at = numbered tells.event tells.judged

  pub own_held : number < length new.held
  own_held = slice_get_within new.held number own own_at

  pub own_event : (b : Body) → slice_get new.held number ≡ Some b → is_receipt b.event ≡ false
  own_event b at =
      let both : Some own ≡ Some b = sym own_at ∙ at in
      let same : own ≡ b = cc in
      subst (λ (c : Body). is_receipt c.event ≡ false) same tells.no_receipt

  gained : (rest : List Body) × (accepted_by new ≡ accepted_by old ++ rest)
  gained = accepted_more old new (took 0 own (claims_of m) ∷ tells.verdicts) tells.follows (tells.behind ∙ append_assoc (told_of old) (took 0 own (claims_of m) ∷ []) tells.verdicts)

  module _ (front : ℕ) (front_is : front ≡ length (accepted_by old)) (key : Key) where
    before_is : take front (accepted_by new) ≡ accepted_by old
    before_is = (λ i. take (front_is i) (gained.1 i)) ∙ take_front (accepted_by old) gained.0

    due_front : due key (take front (accepted_by new)) (accepted_by new) m.body ≡ due key (accepted_by old) (accepted_by new) m.body
    due_front = ap (λ stored. due key stored (accepted_by new) m.body) before_is

    module _ (gives : Key → List ℕ → Option Sig) where
      abbrev Made : Outcome → Type 0
      Made o = (b : Body) → slice_get new.held number ≡ Some b → IsOutcomeOf gives key new front b o

      module _ (o : Outcome) (made : Made o) where
        is_own : IsOfEvent o.fate
        is_own = of_event key new own tells.no_receipt o.fate (made own own_at).fate

        pub outcome_fate : IsFate key new m o.fate
        outcome_fate = fate_judged key new m tells.event tells.judged o.fate (made own own_at).fate

        outcome_due : due key (take front (accepted_by new)) (accepted_by new) m.body ≡ due_by key old new m o.fate
        outcome_due = due_front ∙ sym (due_is key old new m o.fate is_own)

        pub outcome_receipts : AreReceipts key gives old new m o
        outcome_receipts = subst (λ bs. AllZip (IsReceiptOf gives key) bs o.receipts.items) outcome_due (made own own_at).receipts

        pub outcome_stored : All (IsOfStored new) o.receipts.items
        outcome_stored =
            zip_stored gives key new (due key (accepted_by old) (accepted_by new) m.body) o.receipts.items
            (subst (λ bs. AllZip (IsReceiptOf gives key) bs o.receipts.items) due_front (made own own_at).receipts)
            (due_stored key (accepted_by old) (accepted_by new) gained.0 m.body gained.1)

        pub outcome_list : (list longer : List (List ℕ)) → KeepsList o.fate list longer
        outcome_list list longer = by o.fate is_own
          where
            by : (fate : Fate) → IsOfEvent fate → KeepsList fate list longer
            by (Stored listed) is = tt
            by (Waits reason) is = tt
            by (Seen said) is = tt
            by NotAnEvent is = absurd is
            by (Refused reason) is = absurd is

        pub outcome_tells : open_of new ≡ [] → TellsFate says old m o.fate new
        outcome_tells none = by o.fate is_own
          where
            by : (fate : Fate) → IsOfEvent fate → TellsFate says old m fate new
            by (Stored listed) is = (tells, none)
            by (Waits reason) is = (tells, none)
            by (Seen said) is = (tells, none)
            by NotAnEvent is = absurd is
            by (Refused reason) is = absurd is

      -- ASKED: what the signer was asked
      pub outcome_asks : (before now : Option (List Signing)) (count count_then : ℕ) (r : Result Outcome WitnessFault) → IfOk r Made → IfErr r (SignFault count count_then)
          → ((b : Body) → slice_get new.held number ≡ Some b → Puts before now r (signings_of key (due key (take front (accepted_by new)) (accepted_by new) b.bytes))) → AsksSigner key old new m before now r
      outcome_asks before now count count_then (Ok o) made fault asked = asked own own_at ∙ ap (λ bs. after before (signings_of key bs)) (outcome_due o made)
      outcome_asks before now count count_then (Err SignerFault) made fault asked = subst (λ bs. (n : ℕ) × (now ≡ after before (take n (signings_of key bs)))) due_front (asked own own_at)
      outcome_asks before now count count_then (Err OutOfMemory) made fault asked = subst (λ bs. (n : ℕ) × (now ≡ after before (take n (signings_of key bs)))) due_front (asked own own_at)
      outcome_asks before now count count_then (Err DiskFault) made fault asked = absurd fault
      outcome_asks before now count count_then (Err VerifierFault) made fault asked = absurd fault
      outcome_asks before now count count_then (Err LimitReached) made fault asked = absurd fault
      outcome_asks before now count count_then (Err Broken) made fault asked = absurd fault

-- SIGNING: where the signer failed, or there was no memory
module _ (count count_then : ℕ) where
  pub sign_kept : (S : Type 0) → S → (fault : WitnessFault) → SignFault count count_then fault → StoresStill fault S
  sign_kept S stored SignerFault f = stored
  sign_kept S stored OutOfMemory f = tt
  sign_kept S stored DiskFault f = absurd f
  sign_kept S stored VerifierFault f = absurd f
  sign_kept S stored LimitReached f = absurd f
  sign_kept S stored Broken f = absurd f

  pub sign_room : (fault : WitnessFault) → SignFault count count_then fault → fault ≡ LimitReached → ⊥
  sign_room fault f is = subst (SignFault count count_then) is f

  pub sign_full : (turned : Type 0) → (turned → ⊥) → (fault : WitnessFault) → SignFault count count_then fault → FullBy turned fault
  sign_full turned stays SignerFault f = stays
  sign_full turned stays OutOfMemory f = tt
  sign_full turned stays DiskFault f = absurd f
  sign_full turned stays VerifierFault f = absurd f
  sign_full turned stays LimitReached f = absurd f
  sign_full turned stays Broken f = absurd f

  pub sign_tells : (says : Key → List ℕ → Sig → Option Bool) (old : CoreView) (m : Message) (new : CoreView) → TellsEvent says old m new → open_of new ≡ [] → (fault : WitnessFault) → SignFault count count_then fault
      → TellsFault says old m fault new
  sign_tells says old m new tells none SignerFault f = (tells, none)
  sign_tells says old m new tells none OutOfMemory f = inr tells
  sign_tells says old m new tells none DiskFault f = absurd f
  sign_tells says old m new tells none VerifierFault f = absurd f
  sign_tells says old m new tells none LimitReached f = absurd f
  sign_tells says old m new tells none Broken f = absurd f

  pub sign_caused : (disk disk_then verifier verifier_then : ℕ) → disk_then ≡ disk → verifier_then ≡ verifier → (fault : WitnessFault) → SignFault count count_then fault
      → CausedBy disk disk_then verifier verifier_then count count_then fault
  sign_caused disk disk_then verifier verifier_then d v SignerFault f = (d, v, f)
  sign_caused disk disk_then verifier verifier_then d v OutOfMemory f = (d, v, f)
  sign_caused disk disk_then verifier verifier_then d v DiskFault f = absurd f
  sign_caused disk disk_then verifier verifier_then d v VerifierFault f = absurd f
  sign_caused disk disk_then verifier verifier_then d v LimitReached f = absurd f
  sign_caused disk disk_then verifier verifier_then d v Broken f = absurd f

-- BEFORE: where another fault came first the signer wasn't asked
module _ (disk disk_then verifier verifier_then : ℕ) where
  pub take_caused : (signer : ℕ) (fault : WitnessFault) → TakeFault disk disk_then verifier verifier_then fault → CausedBy disk disk_then verifier verifier_then signer signer fault
  take_caused signer DiskFault f = (f.0, f.1, refl)
  take_caused signer VerifierFault f = (f.0, f.1, refl)
  take_caused signer LimitReached f = (f.0, f.1, refl)
  take_caused signer OutOfMemory f = (f.0, f.1, refl)
  take_caused signer SignerFault f = absurd f
  take_caused signer Broken f = absurd f

pub asks_none : (key : Key) (old new : CoreView) (m : Message) (before : Option (List Signing)) (r : Result Outcome WitnessFault) → IsErr r → AsksSigner key old new m before before r
asks_none key old new m before (Ok o) failed = cc failed
asks_none key old new m before (Err DiskFault) failed = refl
asks_none key old new m before (Err VerifierFault) failed = refl
asks_none key old new m before (Err LimitReached) failed = refl
asks_none key old new m before (Err Broken) failed = refl
asks_none key old new m before (Err SignerFault) failed = (0, after-nil before)
asks_none key old new m before (Err OutOfMemory) failed = (0, after-nil before)
