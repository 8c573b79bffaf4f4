-- The rules of an accepted event under the state that it follows are those by which it was accepted.
use Rattle.std.proofs.Common.{◌≡◌, true, false, List, [], ◌∷◌, ◌++◌, Option, Some, None, Contains, refl, sym, ◌∙◌, ap, subst, inl, inr, append_assoc}
use Rattle.std.proofs.lemmas.Bool.{cases_Bool}
use Rattle.event_body.specs.declared.event_body.event.Event.{Event}
use Rattle.event_body.specs.EventBody.Events.{prefix_of, is_inception}
use Rattle.key_state.specs.Exposure.{own_rules}
use Rattle.key_state.specs.States.{State}
use Rattle.journal.specs.declared.journal.body.Body.{Body}
use Rattle.journal.specs.declared.journal.mode.Mode.TheVariants.{Full}
use Rattle.journal.specs.Journal.Accepted.{accepted}
use Rattle.journal.specs.Journal.Grown.{IsGrown, fits}
use Rattle.journal.specs.Journal.History.{Told}
use Rattle.journal.specs.Journal.Logs.{before, is_in, same_body, state}
use Rattle.journal.specs.Journal.Questions.{state_before}
use Rattle.journal.proofs.JournalLemmas.Accepting.{same_body-refl}
use Rattle.export_core.specs.ExportLaws.Export.{rules_under}
use Rattle.claim_table.specs.CoreLaws.Standing.{AreAlikeIf, HasNoClash}
use Rattle.claim_table.proofs.CoreLawsLemmas.Alike.{own_rules-alike}
use Rattle.claim_table.proofs.CoreLawsLemmas.Standing.{current}
use Rattle.key_state.proofs.Among.{Among, among, among_left, contained}
use Rattle.journal_views.proofs.JournalLawsLemmas.Came.{grown}
use Rattle.journal_views.proofs.JournalLawsLemmas.Followed.{before_stays, inception_rules, prior_of_fit}
use Rattle.journal_views.proofs.JournalLawsLemmas.Numbered.{fit_parts}

-- states alike have the same rules
alike_rules : (o p : Option State) (e : Event) → AreAlikeIf o p → own_rules o e ≡ own_rules p e
alike_rules None p e h = absurd h
alike_rules (Some s) None e h = absurd h
alike_rules (Some s) (Some t) e h = own_rules-alike s t h e

-- the list is cut before a new member
pub before_there : (front later : List Body) (b : Body) → is_in front b ≡ false → before b (front ++ b ∷ later) ≡ front
unfolding before
before_there [] later b new = let itself = same_body-refl b in rw itself refl
before_there (c ∷ front) later b new = elim (cases_Bool (same_body c b)) [
  | inl k ↦ (let old : is_in (c ∷ front) b ≡ true = rw k refl in cc)
  | inr k ↦ (let rest : is_in front b ≡ false = rw k at new in rw k (ap (λ xs. c ∷ xs) (before_there front later b rest)))
]

module _ (told : List Told) (front later : List Body) (x : Body) (split : accepted Full [] told ≡ front ++ x ∷ later) where
  pub its_fit : fits front x ≡ true
  its_fit = grown Full told front later x split

  pub its_front_grown : IsGrown front
  its_front_grown xs ys d k = grown Full told xs (ys ++ x ∷ later) d (split ∙ ap (λ zs. zs ++ x ∷ later) k ∙ append_assoc xs (d ∷ ys) (x ∷ later))

  front_in : (b : Body) → Contains front b → Contains (accepted Full [] told) b
  front_in b m = contained (accepted Full [] told) b (subst (λ xs. Among b xs) (sym split) (among_left front (x ∷ later) b (among front b m)))

  -- an event that isn't an inception follows the same state in the whole log
  pub before_log : is_inception x.event ≡ false → state_before (accepted Full [] told) x ≡ state_before front x
  before_log i = (let p = prior_of_fit front x its_fit i in ap (λ xs. state_before xs x) split ∙ before_stays front (x ∷ later) x p.0 its_front_grown p.1)

  -- RULES
  pub kept_rules : HasNoClash (accepted Full [] told) → own_rules (state_before (accepted Full [] told) x) x.event ≡ own_rules (state front (prefix_of x.event)) x.event
  kept_rules clash = elim (cases_Bool (is_inception x.event)) [
    | inl i ↦ inception_rules x.event (state_before (accepted Full [] told) x) (state front (prefix_of x.event)) i
    | inr i ↦ ap (λ o. own_rules o x.event) (before_log i)
        ∙ alike_rules (state_before front x) (state front (prefix_of x.event)) x.event (current front x its_front_grown (λ b c m n. clash b c (front_in b m) (front_in c n)) i (fit_parts front x its_fit).0 (fit_parts front x its_fit).2)
  ]

  -- UNDER: the log is cut before the event, and so its rules are by the state of its identifier there
  pub rules_there : rules_under (accepted Full [] told) x ≡ own_rules (state front (prefix_of x.event)) x.event
  rules_there = ap (λ xs. own_rules (state xs (prefix_of x.event)) x.event) (ap (before x) split ∙ before_there front later x (fit_parts front x its_fit).1)
