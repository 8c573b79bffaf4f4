-- Makings: one, and one behind others.
use Rattle.std.proofs.Common.{◌≡◌, ℕ, true, false, Bool, List, [], ◌∷◌, ◌++◌, Option, Some, None, Ok, Err, refl, sym, ◌∙◌, ap, append_assoc}
use Rattle.std.proofs.lemmas.Option.{none-some, same_Some}
use Rattle.run_status.specs.RunOutside.Makings.{AreMakings, Noted, some_failed}
use Rattle.run_status.specs.RunOutside.Shown.{Grows, Makes, OutsideShown, making}
use Rattle.run_status.specs.declared.run_outside.making.Making.{Making}
use Rattle.run_status.specs.declared.run_outside.making.MakingKind.{MakingKind}

noted_one : (kind : MakingKind) (name : List ℕ) (failed : Bool) (old new : Option (List Making)) → Grows old new kind name failed
    → Noted old new (making kind name failed ∷ [])
noted_one kind name failed old None g = tt
noted_one kind name failed old (Some new) g = g

-- one making that came about, and one that failed
pub one_made : {T E : Type 0} (kind : MakingKind) (name : List ℕ) (before after : OutsideShown) (it : T) → Makes {T = T} {E = E} kind name before after (Ok it)
    → AreMakings (making kind name false ∷ []) before after
one_made kind name before after it m = record { noted = noted_one kind name false before.makings after.makings m.noted; rose = λ e. cc; kept = λ e. m.cause.else_same }

pub one_failed : {T E : Type 0} (kind : MakingKind) (name : List ℕ) (before after : OutsideShown) (error : E) → Makes {T = T} {E = E} kind name before after (Err error)
    → AreMakings (making kind name true ∷ []) before after
one_failed kind name before after error m = record { noted = noted_one kind name true before.makings after.makings m.noted; rose = λ e. m.cause.failed; kept = λ e. cc }

-- makings, none of which failed, and then another
noted_more : (first : List Making) (last : Making) (old mid new : Option (List Making)) → Noted old mid first → Noted mid new (last ∷ []) → Noted old new (first ++ last ∷ [])
noted_more first last old mid None a b = tt
noted_more first last old None (Some new) a b = absurd (none-some b.0 b.1)
noted_more first last old (Some mid) (Some new) a b = (
  a.0,
  a.1,
  b.2 ∙ ap (λ (l : List Making). l ++ last ∷ []) (sym (same_Some mid b.0 b.1) ∙ a.2) ∙ append_assoc a.0 first (last ∷ []),
)

-- one that came about or failed behind those
pub then_made : (first : List Making) (kind : MakingKind) (name : List ℕ) (failed : Bool) (before mid after : OutsideShown) → some_failed first ≡ false
    → some_failed (first ++ making kind name true ∷ []) ≡ true → some_failed (first ++ making kind name false ∷ []) ≡ false
    → AreMakings first before mid → AreMakings (making kind name failed ∷ []) mid after → AreMakings (first ++ making kind name failed ∷ []) before after
then_made first kind name true before mid after none some still a b = record {
  noted = noted_more first _ before.makings mid.makings after.makings a.noted b.noted;
  rose = λ e. rw (sym (a.kept none)) (b.rose refl);
  kept = λ e. let clash : true ≡ false = sym some ∙ e in cc;
}
then_made first kind name false before mid after none some still a b = record {
  noted = noted_more first _ before.makings mid.makings after.makings a.noted b.noted;
  rose = λ e. let clash : false ≡ true = sym still ∙ e in cc;
  kept = λ e. b.kept refl ∙ a.kept none;
}
