-- What a witness stores is lawful: its payloads are those of a list that acceptance can make.
use Rattle.std.proofs.Common.{◌≡◌, ◌+◌, ℕ, Bool, false, List, [], ◌∷◌, ◌++◌, length, take, drop, map, Option, Result, Ok, Err, refl, sym, ◌∙◌, ap, subst, arith, inl, inr, Contains}
use Rattle.std.specs.Prelude.{All, MatchResult}
use Rattle.std.proofs.lemmas.List.{take_at}
use Rattle.std.proofs.lemmas.List.Elements.{All-append, All-contains, All-contains_itself, All-cons, All-drop, All-head, All-nil, All-tail, All-weaker, Contains-append_left}
use Rattle.validator_core.specs.Acceptance.Standing.{IsHeld}
use Rattle.cesr_codes.specs.declared.key.Key.{Key}
use Rattle.cesr_codes.specs.declared.sig.Sig.{Sig}
use Rattle.cesr_stream.specs.Front.{front}
use Rattle.cesr_stream.specs.Parts.{whole}
use Rattle.cesr_stream.specs.declared.item.Item.TheVariants.{Body as BodyItem}
use Rattle.cesr_stream.specs.declared.message.Message.{Message}
use Rattle.cesr_stream.proofs.WrittenItems.{written_front}
use Rattle.event_body.specs.EventBody.Judging.{SpellsEvent}
use Rattle.event_body.specs.declared.event_body.event.Event.{Event}
use Rattle.event_body.proofs.EventBodyLemmas.Whole.{one_event}
use Rattle.journal_views.specs.EventPayload.Kept.{kept}
use Rattle.journal_views.specs.EventPayload.Payloads.{groups_text, parts_of, text_in}
use Rattle.journal_views.proofs.EventPayloadLemmas.Written.{event_writable}
use Rattle.journal.specs.Journal.Accepted.{accepted}
use Rattle.journal.specs.Journal.Grown.{IsGrown}
use Rattle.journal.specs.Journal.History.{Told}
use Rattle.journal.specs.declared.journal.body.Body.{Body}
use Rattle.journal.specs.declared.journal.mode.Mode.{Mode}
use Rattle.journal.proofs.JournalLemmas.Keeping.{accepted_grown}
use Rattle.key_state.specs.Kept.{IsKept}
use Rattle.shelf_log.specs.KeriDisk.Images.{DiskShown}
use Rattle.keri_outside.specs.declared.limits.Limits.{Limits}
use Rattle.quorum_laws.specs.Histories.{AreLevel}
use Rattle.validator_core.specs.ValidatorCore.View.{CoreView, Follows, IsSoundCore, accepted_by, base_of, told_of}
use Rattle.witness_core.specs.WitnessStore.Histories.{history_of}
use Rattle.witness_core.specs.WitnessCore.Outcomes.{TellsFate}
use Rattle.witness_core.specs.WitnessStore.Payloads.{AreListed, IsPayload, Pointwise}
use Rattle.witness_core.specs.WitnessStore.Storing.{AreStored}
use Rattle.witness_core.specs.WitnessCore.Telling.{TellsFault}
use Rattle.witness_core.specs.declared.witness_receipts.fate.Fate.{Fate}
use Rattle.witness_core.specs.declared.witness_receipts.fate.Fate.TheVariants.{Stored, Waits, Seen, NotAnEvent, Refused}
use Rattle.witness_core.specs.declared.witness_core.outcome.Outcome.{Outcome}
use Rattle.witness_core.specs.declared.witness_store.room.Room.{Room}
use Rattle.witness_core.specs.declared.witness_store.witness_fault.WitnessFault.{WitnessFault}
use Rattle.witness_core.specs.declared.witness_store.witness_fault.WitnessFault.TheVariants as fault
use Rattle.witness_core.proofs.WitnessCoreLemmas.Listed.{are_so}
use Rattle.witness_core.proofs.WitnessCoreLemmas.Witnessed.{reads_again}
use Rattle.witness_core.specs.WitnessLink.Stored.{IsLawfulList}
use Rattle.witness_core.specs.WitnessLink.Taking.{IsSound}
use Rattle.witness_core.proofs.WitnessLinkLemmas.Holding.{all_held, stored_accepted, stored_listed, stored_stand, text_front}
use Rattle.witness_core.proofs.WitnessLinkLemmas.OnePlace.{one_level}
use Rattle.witness_core.proofs.WitnessLinkLemmas.Restart.{starts_again}

-- events' bodies at the front of the same bytes are the same, since each says its own size
same_front : (e f : Event) (x y rest more : List ℕ) → SpellsEvent e x → SpellsEvent f y → x ++ rest ≡ y ++ more → x ≡ y
same_front e f x y rest more spelled other same =
    let most : ℕ = length x + length y in
    let first : front most false (x ++ rest) ≡ whole (length x) = (written_front most false (BodyItem x) rest tt (event_writable e x spelled.has) (omega arith)).0 in
    let second : front most false (y ++ more) ≡ whole (length y) = (written_front most false (BodyItem y) more tt (event_writable f y other.has) (omega arith)).0 in
    let both : whole (length x) ≡ whole (length y) = sym first ∙ ap (front most false) same ∙ second in
    let long : length x ≡ length y = cc in
    sym (take_at x rest (length x) refl) ∙ ap (take (length x)) same ∙ ap (λ n. take n (y ++ more)) long ∙ take_at y more (length y) refl

-- the payload begins with the bytes of an event of the log
record Begins (log : List Body) (payload : List ℕ) : Type 0 where
  pub event : Body
  pub inside : Contains log event
  pub rest : List ℕ
  pub begins : payload ≡ event.bytes ++ rest

module _ (log : List Body) where
  by_texts : (ps : List (List ℕ)) (bs : List Body) → map text_in ps ≡ map (λ b. b.bytes) bs → All (Contains log) bs → All (Begins log) ps
  by_texts [] bs e inside = All-nil (Begins log)
  by_texts (p ∷ ps) [] e inside = cc
  by_texts (p ∷ ps) (b ∷ bs) e inside =
      let same : text_in p ≡ b.bytes = cc in
      let others : map text_in ps ≡ map (λ b. b.bytes) bs = cc in
      let parts = text_front p in
      All-cons (Begins log) p ps (record { event = b; inside = All-head (Contains log) b bs inside; rest = parts.0; begins = parts.1 ∙ ap (λ t. t ++ parts.0) same })
      (by_texts ps bs others (All-tail (Contains log) b bs inside))

  by_payloads : (mode : Mode) (base : List Body) (told : List Told) (bs : List Body) (ps : List (List ℕ)) → Pointwise (IsPayload mode base told) bs ps → All (Contains log) bs → All (Begins log) ps
  by_payloads mode base told [] [] all inside = All-nil (Begins log)
  by_payloads mode base told [] (p ∷ ps) all inside = absurd all
  by_payloads mode base told (b ∷ bs) [] all inside = absurd all
  by_payloads mode base told (b ∷ bs) (p ∷ ps) all inside =
      let one = all.0 in
      All-cons (Begins log) p ps
      (record { event = b; inside = All-head (Contains log) b bs inside; rest = groups_text (parts_of (kept one.moment (accepted mode base one.moment) b)); begins = one.is })
      (by_payloads mode base told bs ps all.1 (All-tail (Contains log) b bs inside))

-- each payload of a list of the accepted events begins with one of them
listed_begins : (core : CoreView) (list : List (List ℕ)) → All (λ b. IsKept b.event) (accepted_by core) → AreListed core list → All (Begins (accepted_by core)) list
listed_begins core list keeps listed =
    let log = accepted_by core in
    let so = are_so core.mode (base_of core) (told_of core) keeps in
    let all = All-contains_itself log in
    let base : All (Contains log) (base_of core) = subst (λ l. All (Contains l) (base_of core)) (sym so.1)
    (All-weaker (Contains (base_of core)) (Contains (base_of core ++ so.0)) (λ b c. Contains-append_left (base_of core) so.0 b c) (base_of core) (All-contains_itself (base_of core))) in
    subst (All (Begins log)) (sym listed.parted) (All-append (Begins log) listed.front listed.more (by_texts log listed.front (base_of core) listed.base base)
    (by_payloads log core.mode (base_of core) (told_of core) (drop core.base log) listed.more listed.each (All-drop (Contains log) core.base log all)))

-- LAWFUL: So a list of the accepted events is lawful, where the core began with one that acceptance can make.
pub lawful_list : (core : CoreView) (list : List (List ℕ)) → IsSoundCore core → All (λ b. IsKept b.event) (accepted_by core) → IsGrown (base_of core) → AreListed core list → IsLawfulList list
lawful_list core list stands keeps grown listed b c has has' level =
    let log = accepted_by core in
    let begins = listed_begins core list keeps listed in
    let held = all_held core stands in
    let log_grown = accepted_grown core.mode (base_of core) (told_of core) grown in
    let x = All-contains (Begins log) list has.payload begins has.among in
    let y = All-contains (Begins log) list has'.payload begins has'.among in
    let x_held = All-contains IsHeld log x.event held x.inside in
    let y_held = All-contains IsHeld log y.event held y.inside in
    let x_same = same_front b.event x.event.event b.bytes x.event.bytes has.rest x.rest has.spelled x_held.spelled (sym has.begins ∙ x.begins) in
    let y_same = same_front c.event y.event.event c.bytes y.event.bytes has'.rest y.rest has'.spelled y_held.spelled (sym has'.begins ∙ y.begins) in
    let x_event = one_event b.event x.event.event x.event.bytes (subst (SpellsEvent b.event) x_same has.spelled) x_held.spelled in
    let y_event = one_event c.event y.event.event y.event.bytes (subst (SpellsEvent c.event) y_same has'.spelled) y_held.spelled in
    let levels : AreLevel x.event.event y.event.event = subst (λ e. AreLevel e y.event.event) x_event (subst (AreLevel b.event) y_event level) in
    x_same ∙ ap (λ (z : Body). z.bytes) (one_level log log_grown x.event y.event x.inside y.inside levels) ∙ sym y_same

-- SOUND: so it is with what is stored, whatever else is seen of the witness
pub sound : (core : CoreView) (list : List (List ℕ)) (shelf_limits : Limits) (shelf_broken : Bool) (shown : DiskShown) (room : Room) → AreStored (history_of core) list shelf_limits shelf_broken shown room
    → IsSoundCore core → All (λ b. IsKept b.event) (accepted_by core) → (key : Key) (limits : Limits) (broken : Bool) → IsSound (record { key = key; limits = limits; core = core; list = list; disk = shown; broken = broken })
sound core list shelf_limits shelf_broken shown room stored stands keeps key limits broken =
    let listed = stored_listed core list shelf_limits shelf_broken shown room keeps stored in
    let read = reads_again core list shelf_limits shelf_broken shown room stored in
    record {
      stand = stored_stand (history_of core) list shelf_limits shelf_broken shown room stored;
      listed = listed;
      holds = stored_accepted core list shelf_limits shelf_broken shown room keeps stored stands;
      lawful = lawful_list core list stands keeps stored.grown listed;
      read = read;
      starts = starts_again core list stands stored.grown read;
    }

module _ (says : Key → List ℕ → Sig → Option Bool) (old new : CoreView) (m : Message) where
  fate_follows : (fate : Fate) → TellsFate says old m fate new → Follows old new
  fate_follows (Refused reason) tells = tells.1.follows
  fate_follows NotAnEvent tells = tells.1.follows
  fate_follows (Stored listed) tells = tells.0.follows
  fate_follows (Waits why) tells = tells.0.follows
  fate_follows (Seen said) tells = tells.0.follows

  fault_follows : (why : WitnessFault) → TellsFault says old m why new → Follows old new
  fault_follows fault.LimitReached tells = tells.follows
  fault_follows fault.Broken tells = tells.follows
  fault_follows fault.OutOfMemory tells = elim tells [ inl untold ↦ untold.follows | inr event ↦ event.follows ]
  fault_follows fault.DiskFault tells = tells.follows
  fault_follows fault.VerifierFault tells = tells.follows
  fault_follows fault.SignerFault tells = tells.0.follows

  -- whatever a call answers, it leaves the base as it was
  pub still_grown : (result : Result Outcome WitnessFault) → MatchResult result (λ outcome. TellsFate says old m outcome.fate new) (λ why. TellsFault says old m why new)
      → IsGrown (base_of old) → IsGrown (base_of new)
  still_grown (Ok outcome) told grown = subst IsGrown (sym (fate_follows outcome.fate told).bodies) grown
  still_grown (Err why) told grown = subst IsGrown (sym (fault_follows why told).bodies) grown
