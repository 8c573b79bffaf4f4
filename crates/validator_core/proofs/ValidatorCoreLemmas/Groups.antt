-- Which groups have signatures of the controller, and which have receipts.
use Rattle.std.proofs.Common.{◌≡◌, Bool, true, false, not, ◌&&◌, ◌||◌, List, [], ◌∷◌, map, Option, Some, None, Ok, refl, sym, ◌∙◌, ap, if◌then◌else◌}
use Rattle.std.specs.Prelude.{flat_map}
use Rattle.std.specs.Bool.{IsTrue}
use Rattle.std.specs.List.{list_any, list_all}
use Rattle.std.proofs.lemmas.List.Folds.{list_any-append, list_all-append}
use Rattle.cesr_codes.specs.declared.indexed_sig.IndexedSig.{IndexedSig}
use Rattle.cesr_stream.specs.declared.couple.Couple.{Couple}
use Rattle.cesr_stream.specs.declared.group.Group.{Group}
use Rattle.journal.specs.declared.journal.claim.Claim.TheVariants.{Controller, Witness, Couple as CoupleClaim}
use Rattle.event_body.specs.declared.event_body.event.Event.{Event}
use Rattle.event_body.specs.EventBody.Events.{is_receipt}
use Rattle.cesr_stream.specs.declared.message.Message.{Message}
use Rattle.key_state.specs.KeyStates.{first_true}
use Rattle.journal.specs.declared.journal.reply.Reason.{Reason}
use Rattle.journal.specs.declared.journal.reply.Reason.TheVariants.{TooManySigs, WrongGroup, DigestOnly, Unsigned}
use Rattle.journal.specs.Journal.Replies.{is_held, is_held_group, claims_of_group, refusal}
use Rattle.validator_core.specs.ValidatorCore.Messages.{first_refusal}

-- r says that the list is empty
abbrev pub SaysEmpty : {X : Type 0} → Bool → List X → Type 0
SaysEmpty r xs = (IsTrue r → xs ≡ []) × (xs ≡ [] → IsTrue r)

pub all_held : (sigs : List IndexedSig) → list_all is_held (map (λ s. Controller s) sigs) ≡ true
all_held [] = refl
all_held (s ∷ sigs) = all_held sigs

pub held_some : (r : Bool) (sigs : List IndexedSig) → SaysEmpty r sigs → not r ≡ list_any is_held (map (λ s. Controller s) sigs)
held_some true [] e = refl
held_some true (s ∷ sigs) e = (let h = e.0 refl in cc)
held_some false [] e = (let h = e.1 refl in cc)
held_some false (s ∷ sigs) e = refl

pub witness_some : (r : Bool) (sigs : List IndexedSig) → SaysEmpty r sigs → not r ≡ not (list_all is_held (map (λ s. Witness s) sigs))
witness_some true [] e = refl
witness_some true (s ∷ sigs) e = (let h = e.0 refl in cc)
witness_some false [] e = (let h = e.1 refl in cc)
witness_some false (s ∷ sigs) e = refl

pub couple_some : (r : Bool) (couples : List Couple) → SaysEmpty r couples → not r ≡ not (list_all is_held (map (λ c. CoupleClaim c.key c.sig) couples))
couple_some true [] e = refl
couple_some true (c ∷ couples) e = (let h = e.0 refl in cc)
couple_some false [] e = (let h = e.1 refl in cc)
couple_some false (c ∷ couples) e = refl

pub no_witness_held : (sigs : List IndexedSig) → list_any is_held (map (λ s. Witness s) sigs) ≡ false
no_witness_held [] = refl
no_witness_held (s ∷ sigs) = no_witness_held sigs

pub no_couple_held : (couples : List Couple) → list_any is_held (map (λ c. CoupleClaim c.key c.sig) couples) ≡ false
no_couple_held [] = refl
no_couple_held (c ∷ couples) = no_couple_held couples

-- over all groups
pub any_groups : (groups : List Group) → list_any (λ g. list_any is_held (claims_of_group g)) groups ≡ list_any is_held (flat_map claims_of_group groups)
any_groups [] = refl
any_groups (g ∷ groups) = ap (λ p. list_any is_held (claims_of_group g) || p) (any_groups groups) ∙ sym (list_any-append is_held (claims_of_group g) (flat_map claims_of_group groups))

pub receipts_groups : (groups : List Group) → not (list_any (λ g. not (list_all is_held (claims_of_group g))) groups) ≡ list_all is_held (flat_map claims_of_group groups)
receipts_groups [] = refl
receipts_groups (g ∷ groups) = both (list_all is_held (claims_of_group g)) _ ∙ ap (λ p. list_all is_held (claims_of_group g) && p) (receipts_groups groups)
    ∙ sym (list_all-append is_held (claims_of_group g) (flat_map claims_of_group groups))
  where
    both : (p q : Bool) → not (not p || q) ≡ (p && not q)
    both true q = refl
    both false q = refl

-- the first refusal is that of the definition
abbrev first_of : (excess receipt wrong some signed : Bool) → Option Reason
first_of true receipt wrong some signed = Some TooManySigs
first_of false true wrong some signed = if wrong then Some WrongGroup else (if some then None else Some DigestOnly)
first_of false false wrong some signed = if signed then None else Some Unsigned

as_first : (excess receipt : Bool) (groups : List Group) → first_refusal excess receipt groups
    ≡ first_of excess receipt (list_any (λ g. is_held_group g) groups) (list_any (λ g. not (list_all is_held (claims_of_group g))) groups) (list_any (λ g. list_any is_held (claims_of_group g)) groups)
as_first true receipt groups = refl
as_first false true groups = refl
as_first false false groups = refl

pub refusal_is : (m : Message) (e : Event) → first_refusal m.excess (is_receipt e) m.groups ≡ refusal m (Ok e)
unfolding refusal
refusal_is m e = as_first m.excess (is_receipt e) m.groups ∙ chain m.excess (is_receipt e) (list_any is_held_group m.groups)
    (list_any (λ g. not (list_all is_held (claims_of_group g))) m.groups) (list_all is_held (flat_map claims_of_group m.groups))
    (list_any (λ g. list_any is_held (claims_of_group g)) m.groups) (list_any is_held (flat_map claims_of_group m.groups)) (receipts_groups m.groups) (any_groups m.groups)
  where
    chain : (excess receipt wrong some none signed claimed : Bool) → not some ≡ none → signed ≡ claimed
        → first_of excess receipt wrong some signed
        ≡ (if excess then Some TooManySigs else
        (first_true ((receipt && wrong, WrongGroup) ∷ (receipt && none, DigestOnly) ∷ (not receipt && not claimed, Unsigned) ∷ [])))
    chain true receipt wrong some none signed claimed e f = refl
    chain false true true some none signed claimed e f = refl
    chain false true false true none signed claimed e f = rw (← e) refl
    chain false true false false none signed claimed e f = rw (← e) refl
    chain false false wrong some none signed true e f = rw f refl
    chain false false wrong some none signed false e f = rw f refl
