-- The event seals that an event holds, by those that are listed.
use Rattle.std.proofs.Common.{◌≡◌, ℕ, true, false, ◌&&◌, ◌||◌, List, [], ◌∷◌, ◌++◌, Option, Some, None, refl, sym, ◌∙◌, ap, inl, inr}
use Rattle.std.specs.Prelude.{◌==◌, filter_map}
use Rattle.std.specs.List.{list_any}
use Rattle.std.specs.Fmt.{digits}
use Rattle.std.proofs.lemmas.Bool.{cases_Bool, and_parts, and_from}
use Rattle.cesr_codes.specs.declared.digest.Digest.{Digest}
use Rattle.cesr_codes.specs.declared.prefix.Prefix.TheVariants.{Said}
use Rattle.cesr_codes.specs.Spelling.{prefix_text, digest_text}
use Rattle.cesr_codes.proofs.Same as codes
use Rattle.json_tree.specs.declared.tree.Tree.{Tree}
use Rattle.json_tree.specs.declared.tree.Tree.TheVariants.{Str}
use Rattle.lists.specs.KeriSpecs.Hex.{hex_value}
use Rattle.sith.proofs.Numerals.{hex_is}
use Rattle.event_body.specs.declared.event_body.event.Event.{Event}
use Rattle.event_body.specs.EventBody.Events.{anchors_of}
use Rattle.key_state.specs.Same.{same_prefix, same_digest}
use Rattle.key_state.proofs.Same.{same_prefix_is, same_prefix_itself, numbers, number_itself}
use Rattle.journal.specs.Journal.Seals.{Named, members_of, seals}
use Rattle.event_backing.specs.declared.event_seal.EventSeal.{EventSeal}
use Rattle.event_backing.specs.EventSeals.{named, is_seal, holds_seal, IsEventSeal, names}
use Rattle.event_backing.specs.Texts.{string_member}
use Rattle.event_backing.specs.Listing.{Is, AreEach, AreSealsOf}
use Rattle.event_backing.proofs.SealMembers.{seal-members}

same_digest_is : (d e : Digest) → same_digest d e ≡ true → d ≡ e
same_digest_is d e h = let said : Said d ≡ Said e = same_prefix_is (Said d) (Said e) h in cc

same_text : (name p q : List ℕ) → string_member name p ≡ string_member name q → p ≡ q
same_text name p q e = let value : Str p ≡ Str q = ap (λ (m : Named). m.value) e in cc

same_texts : (a b c p s d x y z : List ℕ) → string_member a p ∷ string_member b s ∷ string_member c d ∷ [] ≡ string_member a x ∷ string_member b y ∷ string_member c z ∷ []
    → (p ≡ x) × (s ≡ y) × (d ≡ z)
same_texts a b c p s d x y z e = (same_text a p x cc, same_text b s y cc, same_text c d z cc)

-- a value is one seal at most
one_seal : (v : Tree) (s t : EventSeal) → IsEventSeal s → IsEventSeal t → is_seal s.prefix s.sn s.said v ≡ true → is_seal t.prefix t.sn t.said v ≡ true → names s.prefix s.sn s.said t ≡ true
one_seal v s t i j h k =
    let members = sym (seal-members (named t.prefix t.sn t.said) (members_of v) k) ∙ seal-members (named s.prefix s.sn s.said) (members_of v) h in
    let texts = same_texts _ _ _ (prefix_text t.prefix) (digits 16 false t.sn) (digest_text t.said) (prefix_text s.prefix) (digits 16 false s.sn) (digest_text s.said) members in
    let prefix : t.prefix ≡ s.prefix = (codes.same_prefix t.prefix s.prefix [] [] j.prefix i.prefix (ap (λ x. x ++ []) texts.0)).0 in
    let said : t.said ≡ s.said = (codes.same_digest t.said s.said [] [] j.said i.said (ap (λ x. x ++ []) texts.2)).0 in
    let one : t.sn ≡ s.sn = sym (hex_is t.sn j.sn).1 ∙ (λ l. hex_value (texts.1 l)) ∙ (hex_is s.sn i.sn).1 in
    and_from _ _
    (and_from _ _ (ap (λ p. same_prefix p s.prefix) prefix ∙ same_prefix_itself s.prefix) (ap (λ n. n == s.sn) one ∙ number_itself s.sn))
    (ap (λ d. same_digest d s.said) said ∙ same_prefix_itself (Said s.said))

-- what a value is tells whether it is the seal of these
some_seal : (v : Tree) (s t : EventSeal) → IsEventSeal s → Is v (Some t) → is_seal s.prefix s.sn s.said v ≡ names s.prefix s.sn s.said t
some_seal v s t i is = elim (cases_Bool (names s.prefix s.sn s.said t)) [
  | inl y ↦
      let two = and_parts (same_prefix t.prefix s.prefix && (t.sn == s.sn)) (same_digest t.said s.said) y in
      let one = and_parts (same_prefix t.prefix s.prefix) (t.sn == s.sn) two.0 in
      let prefix = sym (same_prefix_is t.prefix s.prefix one.0) in
      let sn = sym (numbers t.sn s.sn one.1) in
      let said = sym (same_digest_is t.said s.said two.1) in
      (λ l. is_seal (prefix l) (sn l) (said l) v) ∙ is.1 ∙ sym y
  | inr n ↦ elim (cases_Bool (is_seal s.prefix s.sn s.said v)) [
    | inl h ↦ cc (one_seal v s t i is.0 h is.1)
    | inr f ↦ f ∙ sym n
  ]
]

other_value : (v : Tree) (s : EventSeal) → IsEventSeal s → Is v None → is_seal s.prefix s.sn s.said v ≡ false
other_value v s i is = elim (cases_Bool (is_seal s.prefix s.sn s.said v)) [ inl h ↦ absurd (is s i h) | inr f ↦ f ]

each-held : (values : List Tree) (found : List (Option EventSeal)) (s : EventSeal) → AreEach values found → IsEventSeal s
    → list_any (is_seal s.prefix s.sn s.said) values ≡ list_any (names s.prefix s.sn s.said) (filter_map (λ f. f) found)
each-held [] [] s all i = refl
each-held [] (f ∷ found) s all i = absurd all
each-held (v ∷ values) [] s all i = absurd all
each-held (v ∷ values) (None ∷ found) s all i = let other = other_value v s i all.0 in rw other (each-held values found s all.1 i)
each-held (v ∷ values) (Some t ∷ found) s all i = let here = some_seal v s t i all.0 in let rest = each-held values found s all.1 i in λ l. here l || rest l

-- the seals that are listed are those that are held
pub listed-held : (event : Event) (listed : List EventSeal) (seal : EventSeal) → AreSealsOf (anchors_of event) listed → IsEventSeal seal
    → holds_seal event seal.prefix seal.sn seal.said ≡ list_any (names seal.prefix seal.sn seal.said) listed
unfolding seals
listed-held event listed seal those i = each-held (anchors_of event) those.found seal those.each i ∙ ap (list_any (names seal.prefix seal.sn seal.said)) (sym those.those)
