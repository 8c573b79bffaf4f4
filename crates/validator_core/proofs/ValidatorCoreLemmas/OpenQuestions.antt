-- Open questions, and what their verdicts make of what was told.
use Rattle.std.proofs.Common.{◌≡◌, ◌≢◌, ℕ, zero, suc, Bool, true, false, not, List, [], ◌∷◌, ◌++◌, Option, Some, None, refl, sym, ◌∙◌, ap, subst, arith, append-nil, append_assoc, ◌%◌, length, take, inl, inr}
use Rattle.std.specs.Prelude.{filter, slice_get, option_map, map, IfSome, Result, Ok, Err}
use Rattle.std.specs.List.{list_any}
use Rattle.std.proofs.lemmas.Bool.{cases_Bool, not-true, or_right}
use Rattle.std.proofs.Math.Seq.{take-nil}
use Rattle.std.proofs.lemmas.Grind.{flat_map-append}
use Rattle.std.proofs.lemmas.List.Elements.{All-push, All-nil}
use Rattle.lists.specs.KeriSpecs.Shown.{HasNone, Puts, after}
use Rattle.lists.proofs.KeriSpecsLemmas.Putting.{after-nil, after-append}
use Rattle.keri_outside.specs.Asked.{inquiry}
use Rattle.keri_outside.specs.declared.failed.Failed.{Failed}
use Rattle.keri_outside.specs.declared.inquiry.Inquiry.{Inquiry}
use Rattle.cesr_codes.specs.declared.key.Key.{Key}
use Rattle.cesr_codes.specs.declared.sig.Sig.{Sig}
use Rattle.journal.specs.declared.journal.mode.Mode.{Mode}
use Rattle.journal.specs.declared.journal.question.Noted.TheVariants.{New}
use Rattle.journal.specs.declared.journal.question.Question.{Question}
use Rattle.journal.specs.declared.journal.body.Body.{Body}
use Rattle.journal.specs.Journal.History.{Told, heard, Triple, same_triple, has_verdict}
use Rattle.journal.specs.Journal.Journals.{Names, asked}
use Rattle.journal.specs.Journal.Questions.{raised, questions, next_question, noted}
use Rattle.journal.proofs.JournalLemmas.Same.{same_triple_itself}
use Rattle.validator_core.specs.ValidatorCore.View.{CoreView, Follows, base_of, open_of, told_of}
use Rattle.validator_core.specs.ValidatorCore.Verdicts.{Asks, AsksAbout, AsksOpen, IsHeardAndOpen, IsSaid, IsVerdict, Notes, inquiries_in, inquiry_in, inquiry_on}

module _ {X : Type 0} (p q : X → Bool) where
  first_is : (y : X) (xs : List X) (x : X) → q x ≡ true → p y ≡ true → y ≡ x → (p x ≡ true) × (list_any q (y ∷ xs) ≡ true)
  first_is y xs x is k same = let here : q y ≡ true = subst (λ z. q z ≡ true) (sym same) is in (subst (λ z. p z ≡ true) same k, rw here refl)

  -- an element of a filtered list passes the test, and is in the list
  filtered : (xs : List X) (i : ℕ) (x : X) → q x ≡ true → slice_get (filter p xs) i ≡ Some x → (p x ≡ true) × (list_any q xs ≡ true)
  filtered [] i x is e = cc
  filtered (y ∷ xs) zero x is e = elim (cases_Bool (p y)) [
    | inl k ↦ let same : Some y ≡ Some x = rw k at e in first_is y xs x is k cc
    | inr k ↦ let rest = filtered xs zero x is (rw k at e) in (rest.0, or_right (q y) _ rest.1)
  ]
  filtered (y ∷ xs) (suc i) x is e = elim (cases_Bool (p y)) [
    | inl k ↦ let rest = filtered xs i x is (rw k at e) in (rest.0, or_right (q y) _ rest.1)
    | inr k ↦ let rest = filtered xs (suc i) x is (rw k at e) in (rest.0, or_right (q y) _ rest.1)
  ]

-- the triple of a question on its body
abbrev pub named_on : Question → Body → Triple
named_on q b = record { body = b.bytes; key = q.key; sig = q.sig }

-- a question that is open has a body that is held, and its verdict is new
pub open_question : (mode : Mode) (base : List Body) (told : List Told) (held : List Body) (q : Question) → Names held (Some q) (next_question mode base told 0)
    → (b : Body) × (slice_get held q.body ≡ Some b) × (noted mode base told (named_on q b) ≡ New)
unfolding next_question questions noted
open_question mode base told held q names = named (next_question mode base told 0) refl names
  where
    is_new : (t : Triple) → next_question mode base told 0 ≡ Some t → noted mode base told t ≡ New
    is_new t e =
        let parts = filtered (λ u. not (has_verdict told u)) (same_triple t) (raised mode base told) _ t (same_triple_itself t) e in
        let none : has_verdict told t ≡ false = not-true _ parts.0 in
        let any : list_any (same_triple t) (raised mode base told) ≡ true = parts.1 in
        rw (any, none) refl

    held_as : (t : Triple) (o : Option Body) → option_map (named_on q) o ≡ Some t
        → (b : Body) × (o ≡ Some b) × (named_on q b ≡ t)
    held_as t None e = cc
    held_as t (Some b) e = (b, refl, cc)

    named : (o : Option Triple) → next_question mode base told 0 ≡ o → Names held (Some q) o
        → (b : Body) × (slice_get held q.body ≡ Some b) × (noted mode base told (named_on q b) ≡ New)
    named None e n = absurd n
    named (Some t) e n = let found = held_as t (slice_get held q.body) n in
        (found.0, found.1, subst (λ u. noted mode base told u ≡ New) (sym found.2) (is_new t e))

nothing_at : (xs : List Triple) → slice_get xs (0 % length xs) ≡ None → xs ≡ []
nothing_at [] e = refl
nothing_at (x ∷ xs) e = let first : 0 % length (x ∷ xs) ≡ 0 = omega arith in let some : Some x ≡ None = rw first at e in cc

-- where no question is named none is open
pub none_named : (mode : Mode) (base : List Body) (told : List Told) (held : List Body) → Names held None (next_question mode base told 0) → questions mode base told ≡ []
unfolding next_question
none_named mode base told held names = nothing_at (questions mode base told) (named (next_question mode base told 0) refl names)
  where
    named : (o : Option Triple) → next_question mode base told 0 ≡ o → Names held None o
        → slice_get (questions mode base told) (0 % length (questions mode base told)) ≡ None
    named None e n = e
    named (Some t) e n = absurd n

-- a question that is named on a body is the first that is open
pub first_open : (mode : Mode) (base : List Body) (told : List Told) (held : List Body) (q : Question) → Names held (Some q) (next_question mode base told 0)
    → (questions mode base told ≢ []) × ((b : Body) → slice_get held q.body ≡ Some b → take 1 (map inquiry_on (questions mode base told)) ≡ inquiry q.key b.bytes q.sig ∷ [])
unfolding next_question
first_open mode base told held q names = named (questions mode base told) names
  where
    named : (unheard : List Triple) → Names held (Some q) (slice_get unheard (0 % length unheard))
        → (unheard ≢ []) × ((b : Body) → slice_get held q.body ≡ Some b → take 1 (map inquiry_on unheard) ≡ inquiry q.key b.bytes q.sig ∷ [])
    named [] n = absurd n
    named (t ∷ unheard) n =
        let first : 0 % length (t ∷ unheard) ≡ 0 = omega arith in
        let triple : asked held q ≡ Some t = rw first at n in
        ((λ e. cc), (λ b is. let same : Some (named_on q b) ≡ Some t = rw is at triple in let one : named_on q b ≡ t = cc in ap (λ u. inquiry_on u ∷ []) (sym one)))

-- what follows a core that follows another
pub follows_on : {old middle new : CoreView} → Follows old middle → Follows middle new → Follows old new
follows_on f g = record {
  mode = g.mode ∙ f.mode;
  limits = g.limits ∙ f.limits;
  base = g.base ∙ f.base;
  bodies = g.bodies ∙ f.bodies;
}

pub follows_itself : (core : CoreView) → Follows core core
follows_itself core = record { mode = refl; limits = refl; base = refl; bodies = refl }

-- a core that began with nothing has no bodies of before
pub no_bodies : (core : CoreView) → core.base ≡ 0 → base_of core ≡ []
no_bodies core e = ap (λ n. take n core.held) e

-- where no question is open, all that was asked was heard
pub all_heard : (before now : Option (List Inquiry)) (told : List Told) (unheard : List Triple) → unheard ≡ [] → AsksOpen before now told unheard → now ≡ after before (inquiries_in told)
all_heard before now told unheard none a =
    let front : take a.1.0 (map inquiry_on unheard) ≡ [] = rw none (take-nil a.1.0) in
    a.2 ∙ ap (after before) (a.1.2 ∙ (ap (λ more. inquiries_in told ++ more) front ∙ append-nil (inquiries_in told)))

-- and if all that was heard was asked, no more need be
pub none_besides : (before now : Option (List Inquiry)) (told : List Told) (unheard : List Triple) → now ≡ after before (inquiries_in told) → AsksOpen before now told unheard
none_besides before now told unheard all = (inquiries_in told, (0, omega arith, sym (append-nil (inquiries_in told))), all)

-- what is told where nothing was asked before
pub told_first : (before now : Option (List Inquiry)) (told : List Told) (unheard : List Triple) → HasNone before → AsksOpen before now told unheard
    → IfSome now (IsHeardAndOpen told unheard)
told_first None now told unheard none a = rw a.2 tt
told_first (Some all) now told unheard none a = let is : now ≡ Some a.0 = a.2 ∙ ap (λ first. Some (first ++ a.0)) none in rw is a.1

-- one verdict more was heard, for which alone the verifier was asked
pub asks_more : (says : Key → List ℕ → Sig → Option Bool) (before mid now : Option (List Inquiry)) (old middle new : CoreView) (q : Question) (verdict : Bool)
    → Asks says before mid old middle [] → IsSaid says middle q verdict → AsksAbout {T = Bool} {E = Failed} mid now middle q (Ok verdict) → Notes middle q verdict new
    → Asks says before now old new []
asks_more says before mid now old middle new q verdict asks said about notes =
    let more : List Told = heard 0 notes.body q.key q.sig verdict ∷ [] in
    record {
      verdicts = asks.verdicts ++ more;
      behind = notes.behind ∙ (ap (λ ts. ts ++ more) asks.behind ∙ append_assoc (told_of old) asks.verdicts more);
      each = All-push (IsVerdict says) asks.verdicts (heard 0 notes.body q.key q.sig verdict) asks.each (refl, said notes.body notes.is_held);
      asked = none_besides before now (asks.verdicts ++ more) [] (
          about notes.body notes.is_held
          ∙ (ap (λ told. after told (inquiries_in more)) (all_heard before mid asks.verdicts [] refl asks.asked)
          ∙ (after-append before (inquiries_in asks.verdicts) (inquiries_in more) ∙ ap (after before) (sym (flat_map-append inquiry_in asks.verdicts more))))
          );
      follows = follows_on asks.follows notes.follows;
    }

-- none was heard yet, and nothing was asked
pub asks_nothing : (says : Key → List ℕ → Sig → Option Bool) (before : Option (List Inquiry)) (core : CoreView) (unheard : List Triple) → Asks says before before core core unheard
asks_nothing says before core unheard = record {
  verdicts = [];
  behind = sym (append-nil (told_of core));
  each = All-nil _;
  asked = none_besides before before [] unheard (after-nil before);
  follows = follows_itself core;
}

-- the same whatever is open
pub asks_so : (says : Key → List ℕ → Sig → Option Bool) (before now : Option (List Inquiry)) (old new : CoreView) (unheard : List Triple) → Asks says before now old new []
    → Asks says before now old new unheard
asks_so says before now old new unheard asks = record {
  verdicts = asks.verdicts;
  behind = asks.behind;
  each = asks.each;
  asked = none_besides before now asks.verdicts unheard (all_heard before now asks.verdicts [] refl asks.asked);
  follows = asks.follows;
}

-- the first open question was asked too, or it wasn't, and no verdict of it was heard
pub asks_unheard : (says : Key → List ℕ → Sig → Option Bool) (before mid now : Option (List Inquiry)) (old middle : CoreView) (q : Question) → Asks says before mid old middle []
    → Names middle.held (Some q) (next_question middle.mode (base_of middle) (told_of middle) 0)
    → {T E : Type 0} (result : Result T E) → AsksAbout mid now middle q result → Asks says before now old middle (open_of middle)
asks_unheard says before mid now old middle q asks names result about = record {
  verdicts = asks.verdicts;
  behind = asks.behind;
  each = asks.each;
  asked = besides result (about found.0 found.1);
  follows = asks.follows;
}
  where
    found : (b : Body) × (slice_get middle.held q.body ≡ Some b) × (noted middle.mode (base_of middle) (told_of middle) (named_on q b) ≡ New)
    found = open_question middle.mode (base_of middle) (told_of middle) middle.held q names

    one : List Inquiry
    one = inquiry q.key found.0.bytes q.sig ∷ []

    heard_so : mid ≡ after before (inquiries_in asks.verdicts)
    heard_so = all_heard before mid asks.verdicts [] refl asks.asked

    first : take 1 (map inquiry_on (open_of middle)) ≡ one
    first = (first_open middle.mode (base_of middle) (told_of middle) middle.held q names).1 found.0 found.1

    asked_one : now ≡ after mid one → AsksOpen before now asks.verdicts (open_of middle)
    asked_one is = (
      inquiries_in asks.verdicts ++ one,
      (1, omega arith, ap (λ more. inquiries_in asks.verdicts ++ more) (sym first)),
      is ∙ (ap (λ told. after told one) heard_so ∙ after-append before (inquiries_in asks.verdicts) one),
    )

    front : (n : ℕ) → now ≡ after mid (take n one) → AsksOpen before now asks.verdicts (open_of middle)
    front zero is = none_besides before now asks.verdicts (open_of middle) (is ∙ (sym (after-nil mid) ∙ heard_so))
    front (suc n) is = asked_one (is ∙ ap (λ rest. after mid (inquiry q.key found.0.bytes q.sig ∷ rest)) (take-nil n))

    besides : {T E : Type 0} (result : Result T E) → Puts mid now result one → AsksOpen before now asks.verdicts (open_of middle)
    besides (Ok value) puts = asked_one puts
    besides (Err fault) puts = front puts.0 puts.1
