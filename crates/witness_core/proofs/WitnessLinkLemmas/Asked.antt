-- What the verifier and the signer are asked by calls in a row.
use Rattle.std.proofs.Common.{◌≡◌, ℕ, List, [], ◌∷◌, ◌++◌, Bool, true, false, not, Option, refl, sym, ◌∙◌, ap, append_assoc}
use Rattle.std.specs.Prelude.{filter, flat_map, map, take, if◌then◌else◌}
use Rattle.std.proofs.lemmas.Grind.{flat_map-append}
use Rattle.cesr_codes.specs.declared.key.Key.{Key}
use Rattle.cesr_codes.specs.declared.sig.Sig.{Sig}
use Rattle.cesr_stream.specs.declared.message.Message.{Message}
use Rattle.journal.specs.declared.journal.body.Body.{Body}
use Rattle.journal.specs.declared.journal.mode.Mode.{Mode}
use Rattle.journal.specs.Journal.Accepted.{accepted}
use Rattle.journal.specs.Journal.History.{Triple, bodies, claims_on, has_verdict, same_triple}
use Rattle.journal.specs.Journal.Journals.{told_by}
use Rattle.journal.specs.Journal.Logs.{stands}
use Rattle.journal.specs.Journal.Questions.{questions, raised, raised_by}
use Rattle.keri_outside.specs.declared.inquiry.Inquiry.{Inquiry}
use Rattle.keri_outside.specs.declared.limits.Limits.{Limits}
use Rattle.lists.specs.KeriSpecs.Shown.{after}
use Rattle.lists.proofs.KeriSpecsLemmas.Putting.{after-append}
use Rattle.key_state.specs.Same.{distinct}
use Rattle.validator_core.specs.ValidatorCore.Verdicts.{inquiries_in, inquiry_in, inquiry_on}
use Rattle.validator_core.specs.ValidatorCore.View.{CoreView, base_of, open_of, told_of}
use Rattle.validator_core.proofs.ValidatorCoreLemmas.OpenQuestions.{all_heard}
use Rattle.witness_core.specs.WitnessCore.Outcomes.{TellsFate, due_by}
use Rattle.witness_core.specs.WitnessReceipts.Receipts.{signings_of}
use Rattle.witness_core.specs.WitnessStore.Starts.{IsStarted}
use Rattle.witness_core.specs.WitnessCore.Telling.{AsksVerdicts, IsUntold}
use Rattle.witness_core.specs.declared.witness_receipts.fate.Fate.{Fate}
use Rattle.witness_core.specs.declared.witness_receipts.fate.Fate.TheVariants.{Stored, Waits, Seen, NotAnEvent, Refused}
use Rattle.witness_core.proofs.WitnessCoreLemmas.Entering.{untold_itself}
use Rattle.witness_core.proofs.WitnessCoreLemmas.Heard.{untold_asks}
use Rattle.witness_core.specs.WitnessLink.Calls.{AreCalls, Call, signings_in}
use Rattle.witness_core.specs.WitnessLink.Links.{Standing, Terms}

-- no question is open where nothing was told
none_either : {A : Type 0} (so : Bool) (xs : List A) → xs ≡ [] → (if so then xs else []) ≡ []
none_either true xs none = none
none_either false xs none = refl

none_raised : (log : List Body) (b : Body) → raised_by [] log b ≡ []
unfolding raised_by claims_on
none_raised log b = none_either (stands log b) _ refl

none_of_all : (f : Body → List Triple) → ((b : Body) → f b ≡ []) → (bs : List Body) → flat_map f bs ≡ []
none_of_all f none [] = refl
none_of_all f none (b ∷ bs) = ap (λ l. l ++ flat_map f bs) (none b) ∙ none_of_all f none bs

none_first : (mode : Mode) (base : List Body) → questions mode base [] ≡ []
unfolding questions raised distinct
none_first mode base =
    ap (λ ts. filter (λ t. not (has_verdict [] t)) (distinct same_triple ts)) (none_of_all (raised_by [] (accepted mode base [])) (none_raised (accepted mode base [])) (bodies base []))

-- so none is open behind a start
pub started_open : (limits : Limits) (payloads : List (List ℕ)) (core : CoreView) → IsStarted limits payloads core → open_of core ≡ []
unfolding told_by
started_open limits payloads core s = ap (λ entries. questions core.mode (base_of core) (told_by core.held entries)) s.entries ∙ none_first core.mode (base_of core)

-- where nothing more was told the same questions are open
untold_open : (old new : CoreView) → IsUntold old new → open_of new ≡ open_of old
untold_open old new u = λ i. questions (u.follows.mode i) (u.follows.bodies i) (u.told i)

-- behind a message that was taken none is open, where none was before
fate_closes : (says : Key → List ℕ → Sig → Option Bool) (old : CoreView) (m : Message) (fate : Fate) (new : CoreView) → TellsFate says old m fate new → open_of old ≡ [] → open_of new ≡ []
fate_closes says old m (Refused reason) new tells none = untold_open old new tells.1 ∙ none
fate_closes says old m NotAnEvent new tells none = untold_open old new tells.1 ∙ none
fate_closes says old m (Stored listed) new tells none = tells.1
fate_closes says old m (Waits why) new tells none = tells.1
fate_closes says old m (Seen said) new tells none = tells.1

pub calls_close : (terms : Terms) (old : Standing) (calls : List Call) (new : Standing) → AreCalls terms old calls new → open_of old.core ≡ [] → open_of new.core ≡ []
calls_close terms old [] new are none = ap (λ (s : Standing). open_of s.core) are ∙ none
calls_close terms old (call ∷ calls) new are none =
    calls_close terms call.behind calls new are.1 (fate_closes terms.says old.core call.message call.fate call.behind.core are.0.tells none)

pub untold_asked : (shown : Option (List Inquiry)) (core : CoreView) → AsksVerdicts shown shown core core
untold_asked shown core = untold_asks shown core core (untold_itself core)

-- ASKED: the verifier was asked, up to where no question is open, and then further
pub asks_on : (before mid now : Option (List Inquiry)) (old middle new : CoreView) → AsksVerdicts before mid old middle → open_of middle ≡ [] → AsksVerdicts mid now middle new
    → AsksVerdicts before now old new
asks_on before mid now old middle new first none later =
    let earlier = inquiries_in first.0 in
    let asked = later.2 in
    let last = take asked.1.0 (map inquiry_on (open_of new)) in (
      first.0 ++ later.0,
      later.1 ∙ (ap (λ ts. ts ++ later.0) first.1 ∙ append_assoc (told_of old) first.0 later.0),
      (
        earlier ++ asked.0,
        (
          asked.1.0,
          asked.1.1,
          ap (λ more. earlier ++ more) asked.1.2 ∙ (sym (append_assoc earlier (inquiries_in later.0) last)
              ∙ ap (λ heard. heard ++ last) (sym (flat_map-append inquiry_in first.0 later.0))),
        ),
        asked.2 ∙ (ap (λ shown. after shown asked.0) (all_heard before mid first.0 (open_of middle) none first.2) ∙ after-append before earlier asked.0),
      ),
    )

-- SIGNED: the signer was asked for the receipts of calls, and then of others
pub signings_more : (terms : Terms) (old : Standing) (calls : List Call) (mid : Standing) (more : List Call) → AreCalls terms old calls mid
    → signings_in terms.key old.core (calls ++ more) ≡ signings_in terms.key old.core calls ++ signings_in terms.key mid.core more
signings_more terms old [] mid more are = ap (λ (s : Standing). signings_in terms.key s.core more) (sym are)
signings_more terms old (call ∷ calls) mid more are =
    let due = signings_of terms.key (due_by terms.key old.core call.behind.core call.message call.fate) in
    ap (λ l. due ++ l) (signings_more terms call.behind calls mid more are.1) ∙ sym (append_assoc due (signings_in terms.key call.behind.core calls) (signings_in terms.key mid.core more))
