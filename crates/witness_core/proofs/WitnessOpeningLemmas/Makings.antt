-- One making after another.
use Rattle.std.proofs.Common.{ℕ, true, false, Bool, List, [], ◌∷◌, ◌++◌, Option, Some, None, Ok, refl, sym, ◌∙◌, ap, append_assoc}
use Rattle.std.proofs.lemmas.Option.{none-some, same_Some}
use Rattle.run_status.specs.RunOutside.Makings.{AreMakings, Noted}
use Rattle.run_status.specs.RunOutside.Shown.{Grows, Makes, OutsideShown, making}
use Rattle.run_status.specs.declared.run_outside.making.Making.{Making}
use Rattle.run_status.specs.declared.run_outside.making.MakingKind.{MakingKind}

noted_one : (kind : MakingKind) (name : List ℕ) (failed : Bool) (old new : Option (List Making)) → Grows old new kind name failed
    → Noted old new (making kind name failed ∷ [])
noted_one kind name failed old None g = tt
noted_one kind name failed old (Some new) g = g

-- one that came about
pub one_made : {T E : Type 0} (kind : MakingKind) (name : List ℕ) (before after : OutsideShown) (it : T) → Makes {T = T} {E = E} kind name before after (Ok it)
    → AreMakings (making kind name false ∷ []) before after
one_made kind name before after it m = record { noted = noted_one kind name false before.makings after.makings m.noted; rose = λ e. cc; kept = λ e. m.cause.else_same }

-- one that came about, and then another
noted_two : (first second : Making) (old mid new : Option (List Making)) → Noted old mid (first ∷ []) → Noted mid new (second ∷ []) → Noted old new (first ∷ second ∷ [])
noted_two first second old mid None a b = tt
noted_two first second old None (Some new) a b = absurd (none-some b.0 b.1)
noted_two first second old (Some mid) (Some new) a b = (
  a.0,
  a.1,
  b.2 ∙ ap (λ (l : List Making). l ++ second ∷ []) (sym (same_Some mid b.0 b.1) ∙ a.2) ∙ append_assoc a.0 (first ∷ []) (second ∷ []),
)

pub two_made : (first second : MakingKind) (name other : List ℕ) (failed : Bool) (before mid after : OutsideShown) → AreMakings (making first name false ∷ []) before mid
    → AreMakings (making second other failed ∷ []) mid after → AreMakings (making first name false ∷ making second other failed ∷ []) before after
two_made first second name other true before mid after a b = record {
  noted = noted_two _ _ before.makings mid.makings after.makings a.noted b.noted;
  rose = λ e. rw (sym (a.kept refl)) (b.rose refl);
  kept = λ e. cc;
}
two_made first second name other false before mid after a b = record {
  noted = noted_two _ _ before.makings mid.makings after.makings a.noted b.noted;
  rose = λ e. cc;
  kept = λ e. b.kept refl ∙ a.kept refl;
}
