-- What a witness that isn't broken has stored.
use Rattle.std.proofs.Common.{◌≡◌, ℕ, Bool, true, false, List, [], ◌∷◌, ◌++◌, map, take, drop, length, refl, sym, ◌∙◌, ap, subst, append-nil, append_assoc, take-append-drop, inl, inr}
use Rattle.std.specs.Prelude.{All, find, if◌then◌else◌}
use Rattle.std.specs.List.{AllZip, cons_option}
use Rattle.std.proofs.Math.Seq.{drop-append_seam}
use Rattle.std.proofs.lemmas.Bool.{cases_Bool}
use Rattle.std.proofs.lemmas.List.Elements.{All-append, All-cons, All-drop, All-filter, All-head, All-nil, All-tail, All-take, All-weaker, Contains-append_left, Contains-append_right, Contains-push}
use Rattle.validator_core.specs.Acceptance.Standing.{IsHeld}
use Rattle.cesr_codes.specs.declared.key.Key.{Key}
use Rattle.cesr_stream.specs.Front.{front}
use Rattle.cesr_stream.specs.Parts.{Part, whole, refused, unfinished}
use Rattle.cesr_stream.specs.declared.message.Message.{Message}
use Rattle.validator_core.specs.Tables.View.{body_of}
use Rattle.event_body.specs.EventBody.Judging.{SpellsEvent}
use Rattle.event_body.specs.declared.event_body.event.Event.{Event}
use Rattle.journal_views.specs.EventPayload.Kept.{kept}
use Rattle.journal_views.specs.EventPayload.Payloads.{are_groups, front_with, groups_text, parts_of, text_in}
use Rattle.journal.specs.declared.journal.body.Body.{Body}
use Rattle.journal.specs.declared.journal.mode.Mode.{Mode}
use Rattle.journal.specs.Journal.Accepted.{accepted}
use Rattle.journal.specs.Journal.History.{Told, took}
use Rattle.journal.specs.Journal.Replies.{claims_of}
use Rattle.journal.proofs.JournalLemmas.Accepting.{accepted_extends}
use Rattle.key_state.specs.Kept.{IsKept}
use Rattle.shelf_log.specs.KeriDisk.Images.{DiskShown}
use Rattle.keri_outside.specs.declared.limits.Limits.{Limits}
use Rattle.validator_core.specs.ValidatorCore.Signatures.{is_witness_under}
use Rattle.quorum_laws.proofs.Inside.{accepted_inside}
use Rattle.validator_core.specs.ValidatorCore.View.{CoreView, Follows, IsSoundCore, accepted_by, base_of, told_of}
use Rattle.witness_core.specs.WitnessStore.Histories.{History, history_of}
use Rattle.witness_core.specs.WitnessStore.Payloads.{AreListed, IsPayload, Pointwise}
use Rattle.witness_core.specs.WitnessCore.Outcomes.{TellsFate, due_by}
use Rattle.witness_core.specs.WitnessReceipts.Receipts.{AreReceiptsOf, IsReceiptOf, again, due}
use Rattle.witness_core.specs.WitnessStore.Storing.{AllStand, AreStored, HoldsFirst, by_entries}
use Rattle.witness_core.specs.WitnessCore.Telling.{TellsEvent}
use Rattle.witness_core.specs.declared.witness_receipts.fate.Fate.{Fate}
use Rattle.witness_core.specs.declared.witness_receipts.fate.Fate.TheVariants.{Stored, Waits, Seen, NotAnEvent, Refused}
use Rattle.witness_core.specs.declared.witness_receipts.receipt.Receipt.{Receipt}
use Rattle.witness_core.specs.declared.witness_store.room.Room.{Room}
use Rattle.witness_core.proofs.WitnessCoreLemmas.Listed.{are_so, listed}
use Rattle.witness_core.proofs.WitnessStoreLemmas.Lists.{take_front}
use Rattle.witness_core.proofs.WitnessStoreLemmas.Stored.{first_held, missing_none, payloads_all}
use Rattle.witness_core.specs.WitnessLink.Links.{Terms}
use Rattle.witness_core.specs.WitnessLink.Stored.{HasEvent, HoldsAccepted, IsOfListed}

-- each image stands for the list
pub stored_stand : (h : History) (list : List (List ℕ)) (limits : Limits) (broken : Bool) (shown : DiskShown) (room : Room) → AreStored h list limits broken shown room → AllStand shown list list
stored_stand h list limits broken shown room stored = λ c now. subst (λ a. HoldsFirst list a c) (append-nil list) (first_held list [] c (stored.holds c now))

-- which lists the accepted events
pub stored_listed : (core : CoreView) (list : List (List ℕ)) (limits : Limits) (broken : Bool) (shown : DiskShown) (room : Room) → All (λ b. IsKept b.event) (accepted_by core)
    → AreStored (history_of core) list limits broken shown room → AreListed core list
stored_listed core list limits broken shown room keeps stored = subst (AreListed core) (payloads_all (history_of core) list stored.all) (listed core list keeps stored.on_way)

-- a payload begins with its text
text_with : (payload : List ℕ) (are : Bool) (n : ℕ) → (rest : List ℕ) × (payload ≡ (if are then take n payload else []) ++ rest)
text_with payload true n = (drop n payload, sym (take-append-drop n payload))
text_with payload false n = (payload, refl)

text_of_front : (payload : List ℕ) (part : Part) → (rest : List ℕ) × (payload ≡ front_with payload part ++ rest)
text_of_front payload (whole n) = text_with payload (are_groups (length (drop n payload)) (drop n payload)) n
text_of_front payload (refused place reason) = (payload, refl)
text_of_front payload unfinished = (payload, refl)

pub text_front : (payload : List ℕ) → (rest : List ℕ) × (payload ≡ text_in payload ++ rest)
unfolding text_in
text_front payload = text_of_front payload (front 65535 false payload)

-- the bytes spell the event
abbrev Spelled : Body → Type 0
Spelled b = SpellsEvent b.event b.bytes

-- what a list has, a longer one has
pub has_more : (xs ys : List (List ℕ)) (b : Body) → HasEvent xs b → HasEvent (xs ++ ys) b
has_more xs ys b has = record { spelled = has.spelled; payload = has.payload; among = Contains-append_left xs ys has.payload has.among; rest = has.rest; begins = has.begins }

has_behind : (xs ys : List (List ℕ)) (b : Body) → HasEvent ys b → HasEvent (xs ++ ys) b
has_behind xs ys b has = record { spelled = has.spelled; payload = has.payload; among = Contains-append_right xs ys has.payload has.among; rest = has.rest; begins = has.begins }

first_has : (p : List ℕ) (ps : List (List ℕ)) (b : Body) (rest : List ℕ) → Spelled b → p ≡ b.bytes ++ rest → HasEvent (p ∷ ps) b
first_has p ps b rest spelled is = record { spelled = spelled; payload = p; among = Contains-append_left (p ∷ []) ps p (Contains-push [] p); rest = rest; begins = is }

-- payloads of which these are the texts
by_texts : (ps : List (List ℕ)) (bs : List Body) → map text_in ps ≡ map (λ b. b.bytes) bs → All Spelled bs → All (HasEvent ps) bs
by_texts [] [] e spelled = All-nil (HasEvent [])
by_texts [] (b ∷ bs) e spelled = cc
by_texts (p ∷ ps) [] e spelled = cc
by_texts (p ∷ ps) (b ∷ bs) e spelled =
    let same : text_in p ≡ b.bytes = cc in
    let others : map text_in ps ≡ map (λ b. b.bytes) bs = cc in
    let parts = text_front p in
    All-cons (HasEvent (p ∷ ps)) b bs (first_has p ps b parts.0 (All-head Spelled b bs spelled) (parts.1 ∙ ap (λ t. t ++ parts.0) same))
    (All-weaker (HasEvent ps) (HasEvent (p ∷ ps)) (λ c has. has_behind (p ∷ []) ps c has) bs (by_texts ps bs others (All-tail Spelled b bs spelled)))

-- and those that were stored when their events were accepted
by_payloads : (mode : Mode) (base : List Body) (told : List Told) (bs : List Body) (ps : List (List ℕ)) → Pointwise (IsPayload mode base told) bs ps → All Spelled bs → All (HasEvent ps) bs
by_payloads mode base told [] [] all spelled = All-nil (HasEvent [])
by_payloads mode base told [] (p ∷ ps) all spelled = absurd all
by_payloads mode base told (b ∷ bs) [] all spelled = absurd all
by_payloads mode base told (b ∷ bs) (p ∷ ps) all spelled =
    let one = all.0 in
    All-cons (HasEvent (p ∷ ps)) b bs (first_has p ps b (groups_text (parts_of (kept one.moment (accepted mode base one.moment) b))) (All-head Spelled b bs spelled) one.is)
    (All-weaker (HasEvent ps) (HasEvent (p ∷ ps)) (λ c has. has_behind (p ∷ []) ps c has) bs (by_payloads mode base told bs ps all.1 (All-tail Spelled b bs spelled)))

-- each accepted event is spelled by its bytes
pub all_held : (core : CoreView) → IsSoundCore core → All IsHeld (accepted_by core)
all_held core stands =
    accepted_inside IsHeld core.mode (base_of core) (told_of core) (All-take IsHeld core.base core.held stands.spelled) (subst (All IsHeld) stands.in_order stands.spelled)

-- and so is one that a body may spell
pub all_kept : (core : CoreView) → IsSoundCore core → ((event : Event) (bytes : List ℕ) → SpellsEvent event bytes → IsKept event) → All (λ b. IsKept b.event) (accepted_by core)
all_kept core stands spelled = All-weaker IsHeld (λ b. IsKept b.event) (λ b held. spelled b.event b.bytes held.spelled) (accepted_by core) (all_held core stands)

-- and so it has each accepted event
pub stored_accepted : (core : CoreView) (list : List (List ℕ)) (limits : Limits) (broken : Bool) (shown : DiskShown) (room : Room) → All (λ b. IsKept b.event) (accepted_by core)
    → AreStored (history_of core) list limits broken shown room → IsSoundCore core → HoldsAccepted core list
stored_accepted core list limits broken shown room keeps stored stands =
    let way = stored.on_way in
    let base = base_of core in
    let so = are_so core.mode base (told_of core) keeps in
    let first = take core.base list in
    let later = by_entries core.mode base [] (told_of core) in
    let held : All IsHeld base = All-take IsHeld core.base core.held stands.spelled in
    let all = all_held core stands in
    let behind : All IsHeld so.0 = subst (All IsHeld) (drop-append_seam base so.0) (All-drop IsHeld (length base) (base ++ so.0) (subst (All IsHeld) so.1 all)) in
    let dropped : drop core.base list ≡ later
    = sym (append-nil (drop core.base list)) ∙ ap (λ l. drop core.base list ++ l) (sym (missing_none (history_of core) list stored.all)) ∙ way.all in
    let parted : list ≡ first ++ later = sym (take-append-drop core.base list) ∙ ap (λ l. first ++ l) dropped in
    subst (λ bs. All (HasEvent list) bs) (sym so.1) (subst (λ l. All (HasEvent l) (base ++ so.0)) (sym parted)
    (All-append (HasEvent (first ++ later)) base so.0
    (All-weaker (HasEvent first) (HasEvent (first ++ later)) (λ b has. has_more first later b has) base (by_texts first base way.texts (All-weaker IsHeld Spelled (λ b h. h.spelled) base held)))
    (All-weaker (HasEvent later) (HasEvent (first ++ later)) (λ b has. has_behind first later b has) so.0 (by_payloads core.mode base (told_of core) so.0 later so.2 (All-weaker IsHeld Spelled (λ b h. h.spelled) so.0 behind)))))

module _ (P : Body → Type 0) where
  found : (p : Body → Bool) (xs : List Body) → All P xs → All P (cons_option (find p xs) [])
  found p [] all = All-nil P
  found p (x ∷ xs) all = elim (cases_Bool (p x)) [
    | inl k ↦ rw k (All-cons P x [] (All-head P x xs all) (All-nil P))
    | inr k ↦ rw k (found p xs (All-tail P x xs all))
  ]

  -- what is true of all accepted events is true of those of which receipts are due
  due_so : (key : Key) (stored more log : List Body) (text : List ℕ) → log ≡ stored ++ more → All P log → All P (due key stored log text)
  due_so key stored more log text is all =
      let before : All P stored = subst (All P) (take_front stored more) (All-take P (length stored) (stored ++ more) (subst (All P) is all)) in
      All-filter (λ b. is_witness_under log b key) P (drop (length stored) log ++ again stored text)
      (All-append P (drop (length stored) log) (again stored text) (All-drop P (length stored) log all) (found _ stored before))

-- receipts of events that the list has
by_events : (terms : Terms) (list : List (List ℕ)) (bs : List Body) (rs : List Receipt) → AllZip (IsReceiptOf terms.gives terms.key) bs rs → All (HasEvent list) bs → All (IsOfListed terms list) rs
by_events terms list [] [] zip has = All-nil (IsOfListed terms list)
by_events terms list [] (r ∷ rs) zip has = absurd zip
by_events terms list (b ∷ bs) [] zip has = absurd zip
by_events terms list (b ∷ bs) (r ∷ rs) zip has =
    All-cons (IsOfListed terms list) r rs (record { event = b; has = All-head (HasEvent list) b bs has; is = zip.0 })
    (by_events terms list bs rs zip.1 (All-tail (HasEvent list) b bs has))

-- what was accepted stays when more is told
grows : (old new : CoreView) (entries : List Told) → told_of new ≡ told_of old ++ entries → Follows old new → (more : List Body) × (accepted_by new ≡ accepted_by old ++ more)
grows old new entries told f =
    let e = accepted_extends old.mode (base_of old) (told_of old) entries in
    (e.0, (λ i. accepted (f.mode i) (f.bodies i) (told i)) ∙ e.1)

module _ (terms : Terms) (old new : CoreView) (list : List (List ℕ)) (m : Message) (receipts : List Receipt) (holds : HoldsAccepted new list) where
  of_event : TellsEvent terms.says old m new → AreReceiptsOf terms.gives terms.key (due terms.key (accepted_by old) (accepted_by new) m.body) receipts → All (IsOfListed terms list) receipts
  of_event t are =
      let entry = took 0 (body_of m.body t.event) (claims_of m) in
      let g = grows old new (entry ∷ t.verdicts) (t.behind ∙ append_assoc (told_of old) (entry ∷ []) t.verdicts) t.follows in
      by_events terms list (due terms.key (accepted_by old) (accepted_by new) m.body) receipts are (due_so (HasEvent list) terms.key (accepted_by old) g.0 (accepted_by new) m.body g.1 holds)

  none_due : AreReceiptsOf terms.gives terms.key [] receipts → All (IsOfListed terms list) receipts
  none_due none = by_events terms list [] receipts none (All-nil (HasEvent list))

  -- the receipts of a call are of stored events
  pub of_fate : (fate : Fate) → TellsFate terms.says old m fate new → AreReceiptsOf terms.gives terms.key (due_by terms.key old new m fate) receipts → All (IsOfListed terms list) receipts
  of_fate (Refused reason) tells none = none_due none
  of_fate NotAnEvent tells none = none_due none
  of_fate (Stored listed) tells are = of_event tells.0 are
  of_fate (Waits why) tells are = of_event tells.0 are
  of_fate (Seen said) tells are = of_event tells.0 are
