-- The members of an event seal.
use Rattle.std.proofs.Common.{◌≡◌, ◌≢◌, ℕ, true, false, ◌&&◌, List, [], ◌∷◌, Option, Some, None, get_or, refl, ◌∙◌, ap, inl, inr, rules}
use Rattle.std.specs.Prelude.{map, bytes_eq, codes, IfNone}
use Rattle.std.specs.List.{list_any}
use Rattle.std.specs.Fmt.{digits}
use Rattle.std.specs.Cmp.Lexicographic.{bytes_decides}
use Rattle.std.proofs.lemmas.Bool.{cases_Bool, and_parts}
use Rattle.cesr_codes.specs.Spelling.{prefix_text, digest_text}
use Rattle.json_tree.specs.declared.tree.Tree.{Tree, Null, Bool as TreeBool, Number, Str, List', Object', Row_of-Member, end_of-Member, more_of-Member, items-the_row-Member, the_lemmas}
use Rattle.json_tree.specs.declared.tree.Tree.TheVariants.{Object as TreeObject}
use Rattle.json_tree.specs.declared.tree.Member.{Member}
use Rattle.event_body.specs.EventBody.Events.{prefix_of, sn_of, said_of, anchors_of}
use Rattle.event_body.specs.declared.event_body.event.Event.{Event}
use Rattle.journal.specs.Journal.Seals.{Named, named_values, members_of, is_string, are_seal, seals}
use Rattle.event_backing.specs.Texts.{named_value, string_member, seal_members}
use Rattle.event_backing.specs.EventSeals.{named, holds_seal}
use Rattle.event_backing.specs.Listing.{Is}

named-row : {m : _} (row : Row_of-Member m) → named_values row ≡ map named_value (items-the_row-Member m row)
named-row end_of-Member = refl
named-row (more_of-Member name value rest) = ap (λ all. record { name = name; value = value } ∷ all) (named-row rest)

-- an object's members
pub members_of-object : (all : List Member) → members_of (TreeObject all) ≡ map named_value all
members_of-object all = search (rules, named-row, the_lemmas)

-- what a member is whose name and text pass
string_is : (name text n : List ℕ) (t : Tree) → is_string name text (record { name = n; value = t }) ≡ true → (n ≡ name) × (t ≡ Str text)
string_is name text n (Str u) h =
    let parts = and_parts (bytes_eq n name) (bytes_eq u text) h in
    ((bytes_decides n name).0 parts.0, ap (λ v. Str v) ((bytes_decides u text).0 parts.1))
string_is name text n Null h = cc ((and_parts (bytes_eq n name) false h).1)
string_is name text n (TreeBool b) h = cc ((and_parts (bytes_eq n name) false h).1)
string_is name text n (Number u) h = cc ((and_parts (bytes_eq n name) false h).1)
string_is name text n (List' shape all) h = cc ((and_parts (bytes_eq n name) false h).1)
string_is name text n (Object' shape all) h = cc ((and_parts (bytes_eq n name) false h).1)

string_member_is : (name text : List ℕ) (m : Named) → is_string name text m ≡ true → m ≡ string_member name text
string_member_is name text m h = let e = string_is name text m.name m.value h in λ i. record { name = e.0 i; value = e.1 i }

-- the members of a seal are strings with its texts
pub seal-members : (e : Event) (ms : List Named) → are_seal e ms ≡ true → ms ≡ seal_members (prefix_text (prefix_of e)) (digits 16 false (sn_of e)) (digest_text (said_of e))
seal-members e [] h = cc
seal-members e (i ∷ []) h = cc
seal-members e (i ∷ s ∷ []) h = cc
seal-members e (i ∷ s ∷ d ∷ []) h =
    let first = is_string (codes "i") (prefix_text (prefix_of e)) i in
    let second = is_string (codes "s") (digits 16 false (sn_of e)) s in
    let third = is_string (codes "d") (digest_text (said_of e)) d in
    let two = and_parts (first && second) third h in
    let one = and_parts first second two.0 in
    let prefix = string_member_is (codes "i") (prefix_text (prefix_of e)) i one.0 in
    let sn = string_member_is (codes "s") (digits 16 false (sn_of e)) s one.1 in
    let said = string_member_is (codes "d") (digest_text (said_of e)) d two.1 in
    λ j. prefix j ∷ sn j ∷ said j ∷ []
seal-members e (i ∷ s ∷ d ∷ m ∷ ms) h = cc

-- what isn't three such strings is no seal
pub are_seal-other : (e : Event) (ms : List Named) → ((prefix sn said : List ℕ) → ms ≢ seal_members prefix sn said) → are_seal e ms ≡ false
are_seal-other e ms other = elim (cases_Bool (are_seal e ms)) [
  | inl h ↦ absurd (other _ _ _ (seal-members e ms h))
  | inr h ↦ h
]

-- a seal names the event by its identifier, number and digest alone
are_seal-named : (e : Event) (ms : List Named) → are_seal e ms ≡ are_seal (named (prefix_of e) (sn_of e) (said_of e)) ms
are_seal-named e [] = refl
are_seal-named e (i ∷ []) = refl
are_seal-named e (i ∷ s ∷ []) = refl
are_seal-named e (i ∷ s ∷ d ∷ []) = refl
are_seal-named e (i ∷ s ∷ d ∷ m ∷ ms) = refl

pub seals-named : (holder e : Event) → seals holder e ≡ holds_seal holder (prefix_of e) (sn_of e) (said_of e)
unfolding seals
seals-named holder e = λ j. list_any (λ t. are_seal-named e (members_of t) j) (anchors_of holder)

-- the member at each place
pub first-member : (ms : List Member) (p s d : List ℕ) (m : Member) → map named_value ms ≡ seal_members p s d → m ≡ get_or ms 0 m → named_value m ≡ string_member (codes "i") p
first-member [] p s d m e at = cc
first-member (x ∷ ms) p s d m e at = ap named_value at ∙ cc

pub second-member : (ms : List Member) (p s d : List ℕ) (m : Member) → map named_value ms ≡ seal_members p s d → m ≡ get_or ms 1 m → named_value m ≡ string_member (codes "s") s
second-member [] p s d m e at = cc
second-member (x ∷ []) p s d m e at = cc
second-member (x ∷ y ∷ ms) p s d m e at = ap named_value at ∙ cc

pub third-member : (ms : List Member) (p s d : List ℕ) (m : Member) → map named_value ms ≡ seal_members p s d → m ≡ get_or ms 2 m → named_value m ≡ string_member (codes "d") d
third-member [] p s d m e at = cc
third-member (x ∷ []) p s d m e at = cc
third-member (x ∷ y ∷ []) p s d m e at = cc
third-member (x ∷ y ∷ z ∷ ms) p s d m e at = ap named_value at ∙ cc

-- whatever the answer, where the fact holds
pub none-from : {X : Type 0} {P : Type 0} (r : Option X) → P → IfNone r P
none-from None h = h
none-from (Some x) h = tt

-- what a value without three such strings is
pub no_texts : (v : Tree) → ((p s d : List ℕ) → members_of v ≢ seal_members p s d) → Is v None
no_texts v none = λ seal is h. none _ _ _ (seal-members (named seal.prefix seal.sn seal.said) (members_of v) h)
