-- What a verifier is asked, one question after another.
use Rattle.std.proofs.Common.{ℕ, Bool, List, [], ◌++◌, Option, Ok, take, refl, sym, ◌∙◌, ap, append_assoc}
use Rattle.std.specs.Prelude.{map, Result}
use Rattle.std.proofs.lemmas.Grind.{flat_map-append}
use Rattle.std.proofs.lemmas.List.Elements.{All-append}
use Rattle.cesr_codes.specs.declared.key.Key.{Key}
use Rattle.cesr_codes.specs.declared.sig.Sig.{Sig}
use Rattle.journal.specs.declared.journal.question.Question.{Question}
use Rattle.journal.specs.Journal.History.{Triple}
use Rattle.keri_outside.specs.declared.failed.Failed.{Failed}
use Rattle.keri_outside.specs.declared.inquiry.Inquiry.{Inquiry}
use Rattle.lists.specs.KeriSpecs.Shown.{after}
use Rattle.lists.proofs.KeriSpecsLemmas.Putting.{after-append}
use Rattle.validator_core.specs.ValidatorCore.Verdicts.{Asks, AsksAbout, IsOpen, IsSaid, IsVerdict, Notes, inquiries_in, inquiry_in, inquiry_on}
use Rattle.validator_core.specs.ValidatorCore.View.{CoreView, open_of, told_of}
use Rattle.validator_core.proofs.ValidatorCoreLemmas.OpenQuestions.{all_heard, asks_more, asks_nothing, asks_unheard, follows_on}

-- it was asked, and then further
pub asks_then : (says : Key → List ℕ → Sig → Option Bool) (before mid now : Option (List Inquiry)) (old middle new : CoreView) (unheard : List Triple)
    → Asks says before mid old middle [] → Asks says mid now middle new unheard → Asks says before now old new unheard
asks_then says before mid now old middle new unheard first then =
    let earlier : List Inquiry = inquiries_in first.verdicts in
    let last : List Inquiry = take then.asked.1.0 (map inquiry_on unheard) in
    record {
      verdicts = first.verdicts ++ then.verdicts;
      behind = then.behind ∙ (ap (λ ts. ts ++ then.verdicts) first.behind ∙ append_assoc (told_of old) first.verdicts then.verdicts);
      each = All-append (IsVerdict says) first.verdicts then.verdicts first.each then.each;
      asked = (
        earlier ++ then.asked.0,
        (
          then.asked.1.0,
          then.asked.1.1,
          ap (λ more. earlier ++ more) then.asked.1.2 ∙ (sym (append_assoc earlier (inquiries_in then.verdicts) last)
              ∙ ap (λ heard. heard ++ last) (sym (flat_map-append inquiry_in first.verdicts then.verdicts))),
        ),
        then.asked.2 ∙ (ap (λ shown. after shown then.asked.0) (all_heard before mid first.verdicts [] refl first.asked) ∙ after-append before earlier then.asked.0),
      );
      follows = follows_on first.follows then.follows;
    }

module _ (says : Key → List ℕ → Sig → Option Bool) (before now : Option (List Inquiry)) (core : CoreView) (q : Question) where
  -- it was asked an open question, and its verdict noted
  pub asks_one : (new : CoreView) (verdict : Bool) → IsSaid says core q verdict → AsksAbout {T = Bool} {E = Failed} before now core q (Ok verdict) → Notes core q verdict new → Asks says before now core new []
  asks_one new verdict said about notes = asks_more says before before now core core new q verdict (asks_nothing says before core []) said about notes

  -- or it was asked, or not, and nothing was noted
  pub asks_none : IsOpen core q → {T E : Type 0} (result : Result T E) → AsksAbout before now core q result → Asks says before now core core (open_of core)
  asks_none is_open result about = asks_unheard says before before now core core q (asks_nothing says before core []) is_open result about
