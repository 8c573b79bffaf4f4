-- The texts of messages.
use Rattle.std.proofs.Common.{◌≡◌, ℕ, Bool, true, false, List, [], ◌∷◌, ◌++◌, map, refl, sym, ◌∙◌, ap, inl, inr, append_assoc, append-nil}
use Rattle.std.specs.Prelude.{filter, flat_map, OnOk, Result, Ok, Err}
use Rattle.std.proofs.lemmas.Bool.{cases_Bool}
use Rattle.std.proofs.lemmas.List.Concat.{flat_map-append}
use Rattle.std.proofs.lemmas.List.Elements.{filter-append}
use Rattle.cesr_codes.specs.declared.indexed_sig.IndexedSig.{IndexedSig}
use Rattle.cesr_stream.specs.Written.{item_text}
use Rattle.cesr_stream.specs.declared.couple.Couple.{Couple}
use Rattle.journal.specs.Journal.Replies.{is_held}
use Rattle.journal.specs.declared.journal.claim.Claim.{Claim}
use Rattle.journal.specs.declared.journal.claim.Claim.TheVariants.{Controller, Witness, Couple as CoupleClaim}
use Rattle.export_core.specs.ExportLaws.Export.{is_couple, is_witness, ordered}
use Rattle.export_core.specs.ExportCore.Messages.{AreTexts, IsMessageText, MayBeSent, PutsMessage, claim_of, couple_group, held_group, witness_group}

-- what an answer says of success
pub on_ok_so : {T E P Q : Type 0} (r : Result T E) → OnOk r P → (P → Q) → OnOk r Q
on_ok_so (Ok x) h so = so h
on_ok_so (Err e) h so = tt

-- what is left of a part is what is left of all, or nothing
module _ {X : Type 0} (q p : X → Bool) where
  left_in : ((x : X) → p x ≡ false → q x ≡ false) → (xs : List X) → filter q (filter p xs) ≡ filter q xs
  left_in none [] = refl
  left_in none (x ∷ xs) = elim (cases_Bool (p x)) [
    | inl k ↦ (let ih = left_in none xs in rw (k, ih) refl)
    | inr k ↦ (let ih = left_in none xs in let no = none x k in rw (k, no, ih) refl)
  ]

  left_out : ((x : X) → p x ≡ true → q x ≡ false) → (xs : List X) → filter q (filter p xs) ≡ []
  left_out none [] = refl
  left_out none (x ∷ xs) = elim (cases_Bool (p x)) [
    | inl k ↦ (let ih = left_out none xs in let no = none x k in rw (k, no) ih)
    | inr k ↦ (let ih = left_out none xs in rw k ih)
  ]

-- the order of kinds leaves the claims of each kind
module _ (q : Claim → Bool) (claims : List Claim) where
  ordered_parts : filter q (ordered claims) ≡ filter q (filter is_held claims) ++ (filter q (filter is_witness claims) ++ filter q (filter is_couple claims))
  ordered_parts =
      filter-append q (filter is_held claims) (filter is_witness claims ++ filter is_couple claims)
      ∙ ap (λ more. filter q (filter is_held claims) ++ more) (filter-append q (filter is_witness claims) (filter is_couple claims))

held_witness : (c : Claim) → is_held c ≡ true → is_witness c ≡ false
held_witness (Controller s) h = refl
held_witness (Witness s) h = cc
held_witness (CoupleClaim key sig) h = cc

held_couple : (c : Claim) → is_held c ≡ true → is_couple c ≡ false
held_couple (Controller s) h = refl
held_couple (Witness s) h = cc
held_couple (CoupleClaim key sig) h = cc

witness_held : (c : Claim) → is_witness c ≡ true → is_held c ≡ false
witness_held (Controller s) h = cc
witness_held (Witness s) h = refl
witness_held (CoupleClaim key sig) h = cc

witness_couple : (c : Claim) → is_witness c ≡ true → is_couple c ≡ false
witness_couple (Controller s) h = cc
witness_couple (Witness s) h = refl
witness_couple (CoupleClaim key sig) h = cc

couple_held : (c : Claim) → is_couple c ≡ true → is_held c ≡ false
couple_held (Controller s) h = cc
couple_held (Witness s) h = cc
couple_held (CoupleClaim key sig) h = refl

couple_witness : (c : Claim) → is_couple c ≡ true → is_witness c ≡ false
couple_witness (Controller s) h = cc
couple_witness (Witness s) h = cc
couple_witness (CoupleClaim key sig) h = refl

pub ordered_held : (claims : List Claim) → filter is_held (ordered claims) ≡ filter is_held claims
ordered_held claims = ordered_parts is_held claims
    ∙ (λ i. left_in is_held is_held (λ c h. h) claims i ++ (left_out is_held is_witness witness_held claims i ++ left_out is_held is_couple couple_held claims i))
    ∙ append-nil (filter is_held claims)

pub ordered_witness : (claims : List Claim) → filter is_witness (ordered claims) ≡ filter is_witness claims
ordered_witness claims = ordered_parts is_witness claims
    ∙ (λ i. left_out is_witness is_held held_witness claims i ++ (left_in is_witness is_witness (λ c h. h) claims i ++ left_out is_witness is_couple couple_witness claims i))
    ∙ append-nil (filter is_witness claims)

pub ordered_couples : (claims : List Claim) → filter is_couple (ordered claims) ≡ filter is_couple claims
ordered_couples claims = ordered_parts is_couple claims
    ∙ (λ i. left_out is_couple is_held held_couple claims i ++ (left_out is_couple is_witness witness_couple claims i ++ left_in is_couple is_couple (λ c h. h) claims i))

-- ORDERED: and so the text
ordered_text : (bytes : List ℕ) (claims : List Claim) (text : List ℕ) → IsMessageText bytes claims text → IsMessageText bytes (ordered claims) text
ordered_text bytes claims text is = record {
  held = is.held;
  witness = is.witness;
  couples = is.couples;
  held_are = is.held_are ∙ sym (ordered_held claims);
  witness_are = is.witness_are ∙ sym (ordered_witness claims);
  couples_are = is.couples_are ∙ sym (ordered_couples claims);
  sent = is.sent;
  text_is = is.text_is;
}

pub ordered_texts : (bytes : List ℕ) (f : List Claim → List Claim) (runs : List (List Claim)) (text : List ℕ) → AreTexts bytes (map f runs) text → AreTexts bytes (map (λ run. ordered (f run)) runs) text
ordered_texts bytes f [] text are = are
ordered_texts bytes f (run ∷ runs) text are = (are.0, are.1, ordered_text bytes (f run) are.0 are.2, ordered_texts bytes f runs are.1 are.3, are.4)

-- the text of one message alone
pub one_text : (bytes : List ℕ) (claims : List Claim) (text : List ℕ) → IsMessageText bytes claims text → AreTexts bytes (claims ∷ []) text
one_text bytes claims text is = (text, [], is, refl, sym (append-nil text))

-- PARTS: the text of a message, put part by part
module _ (old bytes : List ℕ) (claims : List Claim) (held witness : List IndexedSig) (couples : List Couple)
    (held_are : map (λ s. Controller s) held ≡ filter is_held claims) (witness_are : map (λ s. Witness s) witness ≡ filter is_witness claims) (couples_are : map claim_of couples ≡ filter is_couple claims)
    (sent : MayBeSent held witness couples) where
  pub parts_put : (one two three four : List ℕ) → one ≡ old ++ bytes → two ≡ one ++ flat_map item_text (held_group held) → three ≡ two ++ flat_map item_text (witness_group witness)
      → four ≡ three ++ flat_map item_text (couple_group couples) → PutsMessage bytes claims old four
  parts_put one two three four a b c d = (
    bytes ++ flat_map item_text (held_group held ++ (witness_group witness ++ couple_group couples)),
    record { held = held; witness = witness; couples = couples; held_are = held_are; witness_are = witness_are; couples_are = couples_are; sent = sent; text_is = refl },
    d ∙ ap (λ t. t ++ flat_map item_text (couple_group couples)) (c ∙ ap (λ t. t ++ flat_map item_text (witness_group witness)) (b ∙ ap (λ t. t ++ flat_map item_text (held_group held)) a))
        ∙ append_assoc ((old ++ bytes) ++ flat_map item_text (held_group held)) (flat_map item_text (witness_group witness)) (flat_map item_text (couple_group couples))
        ∙ append_assoc (old ++ bytes) (flat_map item_text (held_group held)) (flat_map item_text (witness_group witness) ++ flat_map item_text (couple_group couples))
        ∙ append_assoc old bytes (flat_map item_text (held_group held) ++ (flat_map item_text (witness_group witness) ++ flat_map item_text (couple_group couples)))
        ∙ ap (λ more. old ++ (bytes ++ more)) (ap (λ more. flat_map item_text (held_group held) ++ more) (sym (flat_map-append item_text (witness_group witness) (couple_group couples)))
        ∙ sym (flat_map-append item_text (held_group held) (witness_group witness ++ couple_group couples))),
  )
