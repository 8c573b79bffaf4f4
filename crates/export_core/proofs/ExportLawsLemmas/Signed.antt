-- Each message of an accepted event has a signature of the controller, where the event's own threshold wants one.
use Rattle.std.proofs.Common.{◌≡◌, Bool, true, false, List, [], ◌∷◌, ◌++◌, map, length, Option, Some, None, refl, sym, ◌∙◌, ap, subst, inl}
use Rattle.std.specs.Prelude.{filter, Ok}
use Rattle.std.specs.List.{list_any}
use Rattle.std.proofs.lemmas.Bool.{and_parts}
use Rattle.cesr_codes.specs.declared.indexed_sig.IndexedSig.{IndexedSig}
use Rattle.event_body.specs.EventBody.Events.{prefix_of, is_receipt}
use Rattle.sith.specs.Tests.{satisfied}
use Rattle.key_state.specs.Exposure.{own_rules}
use Rattle.key_state.specs.States.{State}
use Rattle.journal.specs.declared.journal.body.Body.{Body}
use Rattle.journal.specs.declared.journal.claim.Claim.{Claim}
use Rattle.journal.specs.declared.journal.claim.Claim.TheVariants.{Controller, Witness, Couple}
use Rattle.journal.specs.declared.journal.mode.Mode.TheVariants.{Full}
use Rattle.journal.specs.Journal.Accepted.{accepted}
use Rattle.journal.specs.Journal.History.{Told, claims_on, said_yes, triple_of}
use Rattle.journal.specs.Journal.Logs.{state}
use Rattle.journal.specs.Journal.Readiness.{good_sigs, held_sig, meets_before, meets_own, signed, yes_to}
use Rattle.journal.specs.Journal.Replies.{claims_of, is_held, refusal}
use Rattle.cesr_stream.specs.declared.message.Message.{Message}
use Rattle.event_body.specs.declared.event_body.event.Event.{Event}
use Rattle.export_core.specs.ExportLaws.Export.{SignedLaw, cut_claims, is_couple, is_good, is_witness, messages_of, ordered, runs_by, sent_claims}
use Rattle.key_state.proofs.Among.{Among, among, among_left_by, filter_map_among, left_among, map_among, parted, passed}
use Rattle.journal_views.proofs.JournalLawsLemmas.Came.{claims_more, were_ready}
use Rattle.export_core.proofs.ExportLawsLemmas.Ready.{ready_parts, yes_more}
use Rattle.export_core.proofs.ExportLawsLemmas.Rules.{rules_there}
use Rattle.export_core.proofs.ExportLawsLemmas.Sending.{good_all, ordered_all}
use Rattle.journal_views.proofs.JournalLawsLemmas.Verdicts.{yes_by}

-- a signature of the controller is one of its claims
held_is : (c : Claim) (g : IndexedSig) → held_sig c ≡ Some g → is_held c ≡ true
held_is (Controller s) g e = refl
held_is (Witness s) g e = cc
held_is (Couple key sig) g e = cc

-- where there is a claim of the controller, one comes first
first_held : (claims : List Claim) (c : Claim) → Among c claims → is_held c ≡ true → (h : Claim) × (rest : List Claim) × (ordered claims ≡ h ∷ rest) × (is_held h ≡ true)
first_held claims c m held = of (filter is_held claims) refl
  where
    of : (hs : List Claim) → filter is_held claims ≡ hs → (h : Claim) × (rest : List Claim) × (ordered claims ≡ h ∷ rest) × (is_held h ≡ true)
    of [] e = (let none : Among c [] = subst (λ hs. Among c hs) e (among_left_by is_held claims c m held) in absurd none)
    of (h ∷ hs) e = (let there = left_among is_held claims h (subst (λ hs. Among h hs) (sym e) (inl refl)) in
        (h, hs ++ (filter is_witness claims ++ filter is_couple claims), ap (λ hs. hs ++ (filter is_witness claims ++ filter is_couple claims)) e, there.1))

-- and so each message has one
each_held : (claims : List Claim) (h : Claim) (rest : List Claim) → claims ≡ h ∷ rest → is_held h ≡ true → (cs : List Claim) → Among cs (cut_claims claims) → list_any is_held cs ≡ true
each_held claims h rest e held cs m =
    let r = map_among (λ run. ordered (h ∷ run)) (runs_by (length rest) 1023 rest) cs (subst (λ claims. Among cs (cut_claims claims)) e m) in
    subst (λ cs. list_any is_held cs ≡ true) r.2 (passed is_held (ordered (h ∷ r.0)) h (ordered_all (h ∷ r.0) h (inl refl)) held)

own_part : (told : List Told) (s : Option State) (b : Body) → signed told s b ≡ true → meets_own told s b ≡ true
unfolding signed
own_part told s b h = (and_parts (meets_own told s b) (meets_before told s b) h).0

-- a threshold that wants a signature has one
some_sig : (told : List Told) (s : Option State) (b : Body) → meets_own told s b ≡ true → satisfied (own_rules s b.event).kt (length (own_rules s b.event).keys) [] ≡ false → (g : IndexedSig) × Among g (good_sigs told s b)
some_sig told s b h wants = of (good_sigs told s b) refl
  where
    of : (gs : List IndexedSig) → good_sigs told s b ≡ gs → (g : IndexedSig) × Among g (good_sigs told s b)
    of [] e = (let none : satisfied (own_rules s b.event).kt (length (own_rules s b.event).keys) [] ≡ true = ap (λ gs. satisfied (own_rules s b.event).kt (length (own_rules s b.event).keys) (map (λ g. g.index) gs)) (sym e) ∙ h in absurd (cc (none, wants)))
    of (g ∷ gs) e = (g, subst (λ gs. Among g gs) (sym e) (inl refl))

sig_claim : (told : List Told) (s : Option State) (b : Body) (g : IndexedSig) → Among g (good_sigs told s b)
    → (c : Claim) × Among c (claims_on told b) × (yes_to told (triple_of (own_rules s b.event) b c) ≡ true) × (is_held c ≡ true)
unfolding good_sigs
sig_claim told s b g m =
    let good : Claim → Bool = λ c. yes_to told (triple_of (own_rules s b.event) b c) in
    let f = filter_map_among held_sig (filter good (claims_on told b)) g m in
    let l = left_among good (claims_on told b) f.0 f.1 in
    (f.0, l.0, l.1, held_is f.0 g f.2)

sent_held : (told : List Told) (b : Body) (c : Claim) → Among c (claims_on told b) → is_good told (accepted Full [] told) b c ≡ true → is_held c ≡ true
    → (h : Claim) × (rest : List Claim) × (sent_claims told (accepted Full [] told) b ≡ h ∷ rest) × (is_held h ≡ true)
unfolding sent_claims
sent_held told b c m good held = first_held _ c (good_all told (accepted Full [] told) b c m good) held

-- SIGNED
pub messages_are_signed : SignedLaw
messages_are_signed told b m inside wants sent =
    let log = accepted Full [] told in
    let (front, later, split) = parted log b (among log b inside) in
    let s = state front (prefix_of b.event) in
    let w = were_ready Full told front later b split in
    let r = ready_parts Full w.earlier front b w.ready in
    let rules = rules_there told front later b split in
    let g = some_sig w.earlier s b (own_part w.earlier s b r.is_signed) (subst (λ rules. satisfied rules.kt (length rules.keys) [] ≡ false) rules wants) in
    let c = sig_claim w.earlier s b g.0 g.1 in
    let y = yes_by w.earlier (triple_of (own_rules s b.event) b c.0) c.2 in
    let told_yes = subst (λ xs. said_yes xs y.0 ≡ true) (sym w.parts) (yes_more w.earlier w.later y.0 y.2) in
    let mine = subst (λ xs. Among c.0 (claims_on xs b)) (sym w.parts) (claims_more w.earlier w.later b c.0 c.1) in
    let good : is_good told log b c.0 ≡ true = subst (λ rules. yes_to told (triple_of rules b c.0) ≡ true) (sym rules) (ap (yes_to told) y.1 ∙ told_yes) in
    let h = sent_held told b c.0 mine good c.3 in
    let k = map_among (λ claims. record { body = b; claims = claims }) (cut_claims (sent_claims told log b)) m (among (messages_of told log b) m sent) in
    subst (λ m. list_any is_held m.claims ≡ true) k.2 (each_held (sent_claims told log b) h.0 h.1 h.2 h.3 k.0 k.1)

-- UNREFUSED: a good body with such claims isn't refused
pub unrefused : (m : Message) (e : Event) → is_receipt e ≡ false → m.excess ≡ false → list_any is_held (claims_of m) ≡ true → refusal m (Ok e) ≡ None
unfolding refusal
unrefused m e event few held = rw (few, event, held) refl
