-- The event of a number that is held.
use Rattle.std.proofs.Common.{◌≡◌, ℕ, ◌<◌, true, false, List, length, Option, Some, None, is_some, Result, Ok, Err, refl, sym, ◌∙◌, ap, subst}
use Rattle.std.specs.Prelude.{option_map, slice_get, IfErr, IfNone, IfOk, IfSome, OnOk}
use Rattle.std.proofs.lemmas.Option.{slice_get_within}
use Rattle.validator_core.specs.Tables.Hints.{IsEscrow}
use Rattle.validator_core.specs.Tables.View.{waiter_at}
use Rattle.escrow.specs.Escrow.Escrow.{Escrow, held as held_by}
use Rattle.escrow.specs.declared.escrow.waiter.Waiter.{Waiter}
use Rattle.event_body.specs.declared.event_body.event.Event.{Event}
use Rattle.journal.specs.declared.journal.body.Body.{Body}
use Rattle.journal.proofs.JournalLemmas.Places.{some_at}
use Rattle.validator_core.proofs.TablesLemmas.Rows.{not_some, some_is}

-- an event that is found under a number is that of the body there
pub body_there : (held : List Body) (n : ℕ) (e : Event) → Some e ≡ option_map (λ b. b.event) (slice_get held n) → (b : Body) × (slice_get held n ≡ Some b) × (e ≡ b.event)
body_there held n e found = by (slice_get held n) found
  where
    by : (o : Option Body) → Some e ≡ option_map (λ b. b.event) o → (b : Body) × (o ≡ Some b) × (e ≡ b.event)
    by None is = absurd (not_some e (sym is))
    by (Some b) is = (b, refl, some_is e b.event is)

pub event_is : (held : List Body) (n : ℕ) (e : Event) (b : Body) → Some e ≡ option_map (λ b. b.event) (slice_get held n) → slice_get held n ≡ Some b → e ≡ b.event
event_is held n e b found at = some_is e b.event (found ∙ ap (option_map (λ b. b.event)) at)

-- and one is
pub no_event : (held : List Body) (n : ℕ) → n < length held → None ≡ option_map (λ b. b.event) (slice_get held n) → ⊥
no_event held n low none = let b = some_at held n low in not_some b.0.event (none ∙ ap (option_map (λ b. b.event)) b.1)

pub if_ok_then : {T E : Type 0} (r : Result T E) {P Q : T → Type 0} → IfOk r P → ((x : T) → P x → Q x) → IfOk r Q
if_ok_then (Ok x) h f = f x h
if_ok_then (Err e) h f = tt

pub if_ok_both : {T E : Type 0} (r : Result T E) {P Q R : T → Type 0} → IfOk r P → IfOk r Q → ((x : T) → P x → Q x → R x) → IfOk r R
if_ok_both (Ok x) h k f = f x h k
if_ok_both (Err e) h k f = tt

pub on_ok_then : {T E : Type 0} (r : Result T E) {P Q : Type 0} → OnOk r P → (P → Q) → OnOk r Q
on_ok_then (Ok x) h f = f h
on_ok_then (Err e) h f = tt

pub on_ok_both : {T E : Type 0} (r : Result T E) {P Q R : Type 0} → OnOk r P → OnOk r Q → (P → Q → R) → OnOk r R
on_ok_both (Ok x) h k f = f h k
on_ok_both (Err e) h k f = tt

pub if_some_at : {X : Type 0} (P : X → Type 0) (o : Option X) (x : X) → o ≡ Some x → IfSome o P → P x
if_some_at P None x e h = absurd (not_some x e)
if_some_at P (Some y) x e h = subst P (some_is y x e) h

pub if_none_at : {X : Type 0} {P : Type 0} (o : Option X) → o ≡ None → IfNone o P → P
if_none_at None e h = h
if_none_at (Some y) e h = absurd (not_some y (sym e))

pub if_err_then : {T E : Type 0} (r : Result T E) {P Q : E → Type 0} → IfErr r P → ((x : E) → P x → Q x) → IfErr r Q
if_err_then (Ok x) h f = tt
if_err_then (Err e) h f = f e h

-- what the escrow has is held
pub waits_held : (w : Escrow) (held : List Body) (done : List ℕ) (n : ℕ) (x : Waiter) → IsEscrow w held done → held_by n w ≡ Some x → n < length held
unfolding waiter_at
waits_held w held done n x escrow at = by (slice_get held n) refl
  where
    by : (o : Option Body) → slice_get held n ≡ o → n < length held
    by None e = (let none : None ≡ Some x = sym (escrow n ∙ ap (waiter_at done n) e) ∙ at in cc)
    by (Some b) e = slice_get_within held n b e

-- what a call that may find something found
pub looked_some : {X Y : Type 0} (f : X → Y) (o : Option X) → is_some o ≡ true → (x : X) × (o ≡ Some x)
looked_some f None h = cc
looked_some f (Some x) h = (x, refl)

pub looked_none : {X Y : Type 0} (f : X → Y) (o : Option X) → is_some o ≡ false → (y : Y) → option_map f o ≡ Some y → ⊥
looked_none f None h y e = not_some y e
looked_none f (Some x) h y e = cc
