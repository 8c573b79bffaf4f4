-- A key backs a body where one of the signatures that came is its own.
use Rattle.std.proofs.Common.{◌≡◌, true, false, List, [], Option, Some, None, is_some, refl, sym, ◌∙◌, ap, subst, inl, inr}
use Rattle.std.proofs.lemmas.Bool.{cases_Bool}
use Rattle.cesr_codes.specs.declared.key.Key.{Key}
use Rattle.cesr_codes.specs.declared.sig.Sig.{Sig}
use Rattle.journal.specs.declared.journal.body.Body.{Body}
use Rattle.journal.specs.declared.journal.mode.Mode.{Mode}
use Rattle.journal.specs.Journal.History.{Told, bodies, claimed_sig, claims_on, said_yes}
use Rattle.journal.specs.Journal.Questions.{IsRegular}
use Rattle.journal.specs.Journal.Readiness.{backs}
use Rattle.journal.proofs.JournalLemmas.Settling.{find-true}
use Rattle.quorum_laws.proofs.Members.{find_some}
use Rattle.blame_core.specs.BlameLaws.Signatures.{ClaimedLaw, came_on, signature_of, triple_on}
use Rattle.key_state.proofs.Among.{Among, among, among_map, passed}
use Rattle.blame_core.proofs.BlameLawsLemmas.Journals.{bodies_differ, bodies_more, claims_more, same_bytes}
use Rattle.journal_views.proofs.JournalLawsLemmas.Verdicts.{backs_by, by_backs, was_raised}

-- of a key that backs a body a signature came with it
came : (mode : Mode) (told : List Told) (b : Body) (key : Key) → IsRegular mode [] told → Among b (bodies [] told) → backs told b key ≡ true
    → (sig : Sig) × (signature_of told b key ≡ Some sig)
came mode told b key regular inside h =
    let (t, body, its_key, said) = backs_by told b key h in
    let w = was_raised mode told t regular said in
    let there = subst (λ xs. Among w.body (bodies [] xs)) (sym w.parts) (bodies_more w.earlier w.later w.body w.came) in
    let one : w.body ≡ b = same_bytes (bodies [] told) w.body b (bodies_differ told) there inside (sym w.names ∙ body) in
    let claimed = subst (λ xs. Among w.claim (claims_on xs w.body)) (sym w.parts) (claims_more w.earlier w.later w.body w.claim w.claimed) in
    let mine = subst (λ c. Among w.claim (claims_on told c)) one claimed in
    let is : t ≡ triple_on b key (claimed_sig w.claim) = λ i. record { body = body i; key = its_key i; sig = w.sig i } in
    find_some (λ sig. said_yes told (triple_on b key sig)) (came_on told b)
    (passed (λ sig. said_yes told (triple_on b key sig)) (came_on told b) (claimed_sig w.claim) (among_map claimed_sig (claims_on told b) w.claim mine)
    (subst (λ t. said_yes told t ≡ true) is said))

-- CLAIMED
pub claimed : ClaimedLaw
claimed mode told b key regular inside = elim (cases_Bool (backs told b key)) [
  | inl h ↦ (let c = came mode told b key regular (among (bodies [] told) b inside) h in ap is_some c.1 ∙ sym h)
  | inr h ↦ none (signature_of told b key) refl h
]
  where
    none : (o : Option Sig) → signature_of told b key ≡ o → backs told b key ≡ false → is_some (signature_of told b key) ≡ backs told b key
    none None e h = ap is_some e ∙ sym h
    none (Some sig) e h =
        let said = find-true (λ sig. said_yes told (triple_on b key sig)) (came_on told b) sig e in
        let back : backs told b key ≡ true = by_backs told b key (triple_on b key sig) refl refl said in cc
