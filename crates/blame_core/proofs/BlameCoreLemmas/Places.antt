-- Places of events: which are the same.
use Rattle.std.proofs.Common.{◌≡◌, ℕ, Bool, true, List, [], ◌∷◌, ◌++◌, map, Some, refl, sym, ◌∙◌, ap, subst, arith, inl, inr}
use Rattle.std.specs.BTreeMap.{is_at}
use Rattle.std.specs.Cmp.{both_ways}
use Rattle.std.specs.Cmp.Lexicographic.{bytes_decides, slice_cmp, texts_ties}
use Rattle.std.specs.Map.{lookup}
use Rattle.std.specs.Ordering.{is_eq, nat_cmp, ordering_then}
use Rattle.std.specs.declared.cmp.Ordering.{Ordering}
use Rattle.std.specs.declared.cmp.Ordering.TheVariants.{Less, Equal, Greater}
use Rattle.std.proofs.lemmas.Bool.{cases_Bool}
use Rattle.std.proofs.lemmas.Bool.Decides.{nat_tests}
use Rattle.cesr_codes.specs.Spelling.{IsPrefix, prefix_text}
use Rattle.cesr_codes.specs.declared.prefix.Prefix.{Prefix}
use Rattle.cesr_codes.proofs.Same as texts
use Rattle.event_body.specs.declared.event_body.event.Event.{Event}
use Rattle.event_body.specs.EventBody.Events.{prefix_of, sn_of}
use Rattle.key_state.specs.Same.{same_prefix}
use Rattle.key_state.proofs.Same.{same_prefix_is, same_prefix_itself}
use Rattle.blame_core.specs.BlameCore.Establishments.{place_cmp, place_of}
use Rattle.blame_core.specs.declared.blame_core.place.Place.{Place}
use Rattle.key_state.proofs.Among.{Among}

-- the text finds a text
abbrev pub at_text : List ℕ → List ℕ → Bool
at_text t = is_at (slice_cmp nat_cmp t)

-- a text finds itself alone
pub text_same : (s t : List ℕ) → at_text s t ≡ true → s ≡ t
text_same s t h = (bytes_decides s t).0 (texts_ties s t ∙ h)

pub text_itself : (s : List ℕ) → at_text s s ≡ true
text_itself s = sym (texts_ties s s) ∙ (bytes_decides s s).1 refl

-- the text of a prefix finds that of the same prefix, and of no other
pub prefix_at : (p q : Prefix) → IsPrefix p → IsPrefix q → at_text (prefix_text p) (prefix_text q) ≡ same_prefix p q
prefix_at p q ip iq = both_ways (at_text (prefix_text p) (prefix_text q)) (same_prefix p q)
    (λ h.
    let same : p ≡ q = (texts.same_prefix p q [] [] ip iq (ap (λ t. t ++ []) (text_same (prefix_text p) (prefix_text q) h))).0 in
    subst (λ r. same_prefix p r ≡ true) same (same_prefix_itself p))
    (λ h. subst (λ r. at_text (prefix_text p) (prefix_text r) ≡ true) (same_prefix_is p q h) (text_itself (prefix_text p)))

then_parts : (r s : Ordering) → is_eq (ordering_then r s) ≡ true → (is_eq r ≡ true) × (is_eq s ≡ true)
then_parts Less s h = cc
then_parts Equal s h = (refl, h)
then_parts Greater s h = cc

then_from : (r s : Ordering) → is_eq r ≡ true → is_eq s ≡ true → is_eq (ordering_then r s) ≡ true
then_from Less s h k = cc
then_from Equal s h k = k
then_from Greater s h k = cc

number_same : (m n : ℕ) → is_eq (nat_cmp m n) ≡ true → m ≡ n
number_same m n h = grind (arith, nat_tests, h)

number_itself : (n : ℕ) → is_eq (nat_cmp n n) ≡ true
number_itself n = grind (arith, nat_tests)

-- a place finds itself alone
pub place_same : (k l : Place) → is_at (place_cmp k) l ≡ true → k ≡ l
place_same k l h =
    let parts = then_parts (slice_cmp nat_cmp k.prefix l.prefix) (nat_cmp k.sn l.sn) h in
    let text = text_same k.prefix l.prefix parts.0 in
    let number = number_same k.sn l.sn parts.1 in
    λ i. record { prefix = text i; sn = number i }

pub place_itself : (k : Place) → is_at (place_cmp k) k ≡ true
place_itself k = then_from (slice_cmp nat_cmp k.prefix k.prefix) (nat_cmp k.sn k.sn) (text_itself k.prefix) (number_itself k.sn)

-- events of one place have one prefix and number
pub one_place : (e f : Event) → IsPrefix (prefix_of e) → IsPrefix (prefix_of f) → place_of e ≡ place_of f
    → (prefix_of e ≡ prefix_of f) × (sn_of e ≡ sn_of f)
one_place e f ie if_ same =
    let text : prefix_text (prefix_of e) ≡ prefix_text (prefix_of f) = ap (λ k. k.prefix) same in
    ((texts.same_prefix (prefix_of e) (prefix_of f) [] [] ie if_ (ap (λ t. t ++ []) text)).0, ap (λ k. k.sn) same)

-- what is looked up is among the values
module _ {K X : Type 0} (test : K → Bool) where
  pub looked_up : (es : List (K × X)) (x : X) → lookup test es ≡ Some x → Among x (map (λ e. e.1) es)
  looked_up [] x h = cc
  looked_up (e ∷ es) x h = elim (cases_Bool (test e.0)) [
    | inl k ↦ (let here : Some e.1 ≡ Some x = rw k at h in let is : e.1 ≡ x = cc in inl is)
    | inr k ↦ (let there : lookup test es ≡ Some x = rw k at h in inr (looked_up es x there))
  ]
