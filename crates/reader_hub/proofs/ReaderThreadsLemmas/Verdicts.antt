-- Verdicts that are noted once all readers have ended.
use Rattle.std.proofs.Common.{◌≡◌, ℕ, ◌+◌, Bool, List, [], ◌∷◌, ◌++◌, Option, Result, Ok, Err, Some, refl, sym, ◌∙◌, ap, subst, arith, append-nil, append_assoc, take}
use Rattle.std.specs.Prelude.{slice_get}
use Rattle.std.proofs.lemmas.List.Elements.{All-append, All-cons, All-nil}
use mathlib.Core.List.Sublist.{refl as sublist-refl}
use Rattle.lists.specs.KeriSpecs.Shown.{after}
use Rattle.keri_outside.specs.Asked.{inquiry}
use Rattle.keri_outside.specs.declared.failed.Failed.{Failed}
use Rattle.keri_outside.specs.declared.inquiry.Inquiry.{Inquiry}
use Rattle.journal.specs.declared.journal.question.Question.{Question}
use Rattle.journal.specs.declared.journal.body.Body.{Body}
use Rattle.journal.specs.declared.journal.mode.Mode.{Mode}
use Rattle.journal.specs.Journal.History.{Told, heard}
use Rattle.journal.specs.Journal.Journals.{Names}
use Rattle.journal.specs.Journal.Questions.{IsInStep, next_question, questions}
use Rattle.turn_lock.proofs.Histories.{prefix_refl}
use Rattle.validator_core.specs.ValidatorCore.Verdicts.{AsksAbout, IsOpen, IsSaid}
use Rattle.validator_core.specs.ValidatorCore.View.{CoreView, base_of, told_of}
use Rattle.validator_core.proofs.ValidatorCoreLemmas.OpenQuestions.{follows_itself, follows_on, named_on, no_bodies, open_question}
use Rattle.reader_hub.specs.SharedReader.Asks.{AsksFor, AsksOnly, IsVerdict, Says, verdict_count}
use Rattle.reader_hub.proofs.SharedReaderLemmas.Inquiries.{asked_on, none_asked, unheard_asked}
use Rattle.reader_hub.proofs.SharedReaderLemmas.Known.{only_later, only_none, only_on, only_one, open_known}
use Rattle.reader_hub.proofs.SharedReaderLemmas.Steps.{in_step_more}
use Rattle.reader_hub.proofs.SharedReaderLemmas.Verdicts.{first_named, verdict_count-append}
use Rattle.reader_hub.specs.ReaderThreads.LastRound.{AsksUnheard, Hears, NotesAs}

-- the question that is named is the first that is open, where the core began with nothing
first_of : (core : CoreView) (q : Question) (b : Body) → IsOpen core q → slice_get core.held q.body ≡ Some b → core.base ≡ 0
    → slice_get (questions core.mode [] (told_of core)) 0 ≡ Some (named_on q b)
first_of core q b names at base =
    first_named core.mode [] (told_of core) core.held q b at (subst (λ (bs : List Body). Names core.held (Some q) (next_question core.mode bs (told_of core) 0)) (no_bodies core base) names)

-- a front of it was asked
only_first : (before now : Option (List Inquiry)) (core : CoreView) (q : Question) (b : Body) → IsOpen core q → slice_get core.held q.body ≡ Some b → core.base ≡ 0 → (n : ℕ)
    → now ≡ after before (take n (inquiry q.key b.bytes q.sig ∷ [])) → AsksOnly before now core.mode (told_of core)
only_first before now core q b names at base n is =
    only_one before now core.mode (told_of core) (inquiry q.key b.bytes q.sig) n is (open_known core.mode (told_of core) 0 (named_on q b) (first_of core q b names at base))

module _ (n : ℕ) (says : Says) where
  -- none was heard yet
  pub hears_nothing : (told : Option (List Inquiry)) (core : CoreView) → Hears n says told told core core 0
  hears_nothing told core = record {
    verdicts = [];
    behind = sym (append-nil (told_of core));
    each = All-nil _;
    inquired = none_asked told [] refl;
    follows = follows_itself core;
    only = λ base. only_none told core.mode (told_of core);
    in_step = λ base steps. steps;
  }

  -- one was heard, for which alone the verifier was asked
  pub hears_one : (before now : Option (List Inquiry)) (old new : CoreView) (q : Question) (verdict : Bool) → IsOpen old q → IsSaid says old q verdict
      → AsksAbout {T = Bool} {E = Failed} before now old q (Ok verdict) → NotesAs n old q verdict new → Hears n says before now old new 0
  hears_one before now old new q verdict names said about notes =
      let entry : Told = heard n notes.body q.key q.sig verdict in
      let asks : Inquiry = inquiry q.key notes.body.bytes q.sig in
      record {
        verdicts = entry ∷ [];
        behind = notes.behind;
        each = All-cons (IsVerdict n says) entry [] (refl, said notes.body notes.is_held) (All-nil _);
        inquired = record { all = asks ∷ []; now_is = about notes.body notes.is_held; in_order = sublist-refl (asks ∷ []); few = omega arith };
        follows = notes.follows;
        only = λ base. only_later old.mode (told_of old) (told_of new) (entry ∷ [], sym notes.behind) before now
            (only_first before now old q notes.body names notes.is_held base 1 (about notes.body notes.is_held));
        in_step = λ base steps. subst (IsInStep old.mode) (sym notes.behind) (in_step_more old.mode (told_of old) entry steps (first_of old q notes.body names notes.is_held base));
      }

  -- some behind others
  pub hears_on : (before mid now : Option (List Inquiry)) (old middle new : CoreView) → Hears n says before mid old middle 0 → Hears n says mid now middle new 0 → Hears n says before now old new 0
  hears_on before mid now old middle new a b = record {
    verdicts = a.verdicts ++ b.verdicts;
    behind = b.behind ∙ (ap (λ l. l ++ b.verdicts) a.behind ∙ append_assoc (told_of old) a.verdicts b.verdicts);
    each = All-append (IsVerdict n says) a.verdicts b.verdicts a.each b.each;
    inquired = asked_on before mid now a.verdicts b.verdicts _ _ _ (let parts = verdict_count-append a.verdicts b.verdicts in omega (arith, parts)) a.inquired b.inquired;
    follows = follows_on a.follows b.follows;
    only = λ base. only_on old.mode (told_of middle) (told_of new) (b.verdicts, sym b.behind) before mid now (a.only base)
        (subst (λ (m : Mode). AsksOnly mid now m (told_of new)) a.follows.mode (b.only (a.follows.base ∙ base)));
    in_step = λ base steps.
        subst (λ (m : Mode). IsInStep m (told_of new)) a.follows.mode
        (b.in_step (a.follows.base ∙ base) (subst (λ (m : Mode). IsInStep m (told_of middle)) (sym a.follows.mode) (a.in_step base steps)));
  }

  -- and one question of which nothing was heard
  pub hears_all_but : (before mid now : Option (List Inquiry)) (old new : CoreView) → Hears n says before mid old new 0 → AsksUnheard mid now new → Hears n says before now old new 1
  hears_all_but before mid now old new a unheard = record {
    verdicts = a.verdicts;
    behind = a.behind;
    each = a.each;
    inquired = subst (λ (l : List Told). AsksFor before now l (verdict_count a.verdicts + 1)) (append-nil a.verdicts) (asked_on before mid now a.verdicts [] _ 1 _ (omega arith) a.inquired unheard.few);
    follows = a.follows;
    only = λ base. only_on old.mode (told_of new) (told_of new) (prefix_refl (told_of new)) before mid now (a.only base)
        (subst (λ (m : Mode). AsksOnly mid now m (told_of new)) a.follows.mode (unheard.only (a.follows.base ∙ base)));
    in_step = a.in_step;
  }

-- whatever the verifier answered of an open question, it was asked that at most
pub asks_at_most : (before now : Option (List Inquiry)) (core : CoreView) (q : Question) → IsOpen core q → (result : Result Bool Failed) → AsksAbout before now core q result → AsksUnheard before now core
asks_at_most before now core q names result about = by_result result about
  where
    asked_front : (b : Body) → slice_get core.held q.body ≡ Some b → (n : ℕ) → now ≡ after before (take n (inquiry q.key b.bytes q.sig ∷ [])) → AsksUnheard before now core
    asked_front b at n is = record { few = unheard_asked before now (inquiry q.key b.bytes q.sig) n is; only = λ base. only_first before now core q b names at base n is }

    by_result : (result : Result Bool Failed) → AsksAbout before now core q result → AsksUnheard before now core
    by_result (Ok verdict) about = let found = open_question core.mode (base_of core) (told_of core) core.held q names in asked_front found.0 found.1 1 (about found.0 found.1)
    by_result (Err failed) about =
        let found = open_question core.mode (base_of core) (told_of core) core.held q names in
        let front = about found.0 found.1 in
        asked_front found.0 found.1 front.0 front.1
