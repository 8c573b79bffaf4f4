-- The claims that are read in place of those that were written: as many, and the same where their raw bytes are bytes.
use Rattle.std.proofs.Common.{◌≡◌, ◌≤◌, ◌||◌, List, [], ◌∷◌, ◌++◌, length, map, refl, sym, ◌∙◌, ap, subst, arith, append-nil, length-append}
use Rattle.std.specs.Prelude.{All, flat_map, sum_by}
use Rattle.std.specs.List.{list_any}
use Rattle.std.proofs.lemmas.List.{length-map}
use Rattle.std.proofs.lemmas.List.Concat.{flat_map-append}
use Rattle.std.proofs.lemmas.List.Elements.{All-cons, All-head, All-nil, All-tail}
use Rattle.std.proofs.lemmas.List.Folds.{list_any-append}
use Rattle.std.proofs.lemmas.List.Sums.{sum_by-append, sum_by-cons}
use Rattle.cesr_codes.specs.Indexed.{IsIndexed, indexed_text}
use Rattle.cesr_codes.specs.declared.indexed_sig.IndexedSig.{IndexedSig}
use Rattle.cesr_stream.specs.Groups.{elements_of}
use Rattle.cesr_stream.specs.Items.{Placed}
use Rattle.cesr_stream.specs.Messages.{begun_by, groups_before_body, groups_with, messages}
use Rattle.cesr_stream.specs.Texts.{SpellsItem, couple_text, group_text}
use Rattle.cesr_stream.specs.Written.{IsCouple}
use Rattle.cesr_stream.specs.declared.couple.Couple.{Couple}
use Rattle.cesr_stream.specs.declared.group.Group.{Group}
use Rattle.cesr_stream.specs.declared.group.Group.TheVariants.{Controller as ControllerGroup, Witness as WitnessGroup, Couples}
use Rattle.cesr_stream.specs.declared.item.Item.{Item}
use Rattle.cesr_stream.specs.declared.item.Item.TheVariants.{Group as GroupItem}
use Rattle.cesr_stream.proofs.SameItems.{same_item}
use Rattle.journal.specs.Journal.Replies.{claims_of_group, is_held}
use Rattle.journal.specs.declared.journal.claim.Claim.{Claim}
use Rattle.journal.specs.declared.journal.claim.Claim.TheVariants.{Controller, Witness}
use Rattle.export_core.specs.ExportCore.Messages.{claim_of, couple_group, held_group, witness_group}
use Rattle.export_core.specs.ExportCore.Retelling.{HasRawBytes}
use Rattle.export_core.proofs.ExportCoreLemmas.Alike.{AreAlike, as_many, couple_sizes, couples_alike, held_alike, indexed_sizes, witness_alike}

-- what is so of all of two lists is so of all of each
all_front : {X : Type 0} (P : X → Type 0) (xs ys : List X) → All P (xs ++ ys) → All P xs
all_front P [] ys all = All-nil P
all_front P (x ∷ xs) ys all = All-cons P x xs (All-head P x (xs ++ ys) all) (all_front P xs ys (All-tail P x (xs ++ ys) all))

all_behind : {X : Type 0} (P : X → Type 0) (xs ys : List X) → All P (xs ++ ys) → All P ys
all_behind P [] ys all = all
all_behind P (x ∷ xs) ys all = all_behind P xs ys (All-tail P x (xs ++ ys) all)

-- LIKE: the groups have as many claims, one of the controller where these have one, and the same ones where their raw
-- bytes are bytes.
pub record IsLike (claims : List Claim) (groups : List Group) : Type 0 where
  pub many : sum_by elements_of groups ≡ length claims
  pub held : list_any is_held (flat_map claims_of_group groups) ≡ list_any is_held claims
  pub same : All HasRawBytes (flat_map claims_of_group groups) → flat_map claims_of_group groups ≡ claims

nothing_like : IsLike [] []
nothing_like = record { many = refl; held = refl; same = λ raw. refl }

pub like_both : (claims more : List Claim) (groups later : List Group) → IsLike claims groups → IsLike more later
    → IsLike (claims ++ more) (groups ++ later)
like_both claims more groups later one two = record {
  many = omega (arith, sum_by-append elements_of groups later, length-append claims more, one.many, two.many);
  held = ap (list_any is_held) parts ∙ list_any-append is_held (flat_map claims_of_group groups) (flat_map claims_of_group later)
      ∙ (λ i. one.held i || two.held i) ∙ sym (list_any-append is_held claims more);
  same = λ raw. let both = subst (All HasRawBytes) parts raw in
      parts ∙ (λ i. one.same (all_front HasRawBytes (flat_map claims_of_group groups) (flat_map claims_of_group later) both) i
      ++ two.same (all_behind HasRawBytes (flat_map claims_of_group groups) (flat_map claims_of_group later) both) i);
}
  where
    parts : flat_map claims_of_group (groups ++ later) ≡ flat_map claims_of_group groups ++ flat_map claims_of_group later
    parts = flat_map-append claims_of_group groups later

-- the claims of a kind
module _ {E : Type 0} (claim : E → Claim) (IsValue : E → Type 0) (raw : (e : E) → HasRawBytes (claim e) → IsValue e)
    (alike : (e f : E) → is_held (claim e) ≡ is_held (claim f))
    (group : List E → Group) (claims_are : (es : List E) → claims_of_group (group es) ≡ map claim es) (count : (es : List E) → elements_of (group es) ≡ length es) where
  any : (es fs : List E) → length es ≡ length fs → list_any is_held (map claim es) ≡ list_any is_held (map claim fs)
  any [] [] same = refl
  any [] (f ∷ fs) same = absurd (omega (arith, same))
  any (e ∷ es) [] same = absurd (omega (arith, same))
  any (e ∷ es) (f ∷ fs) same = (λ i. alike e f i || any es fs (omega (arith, same)) i)

  values : (es : List E) → All HasRawBytes (map claim es) → All IsValue es
  values [] all = All-nil IsValue
  values (e ∷ es) all = All-cons IsValue e es (raw e (All-head HasRawBytes (claim e) (map claim es) all))
      (values es (All-tail HasRawBytes (claim e) (map claim es) all))

  group_like : (xs ys : List E) → length ys ≡ length xs → (All IsValue ys → ys ≡ xs) → IsLike (map claim xs) (group ys ∷ [])
  group_like xs ys many same = record {
    many = omega (arith, sum_by-cons elements_of (group ys) [], count ys, many, length-map xs claim);
    held = ap (list_any is_held) alone ∙ any ys xs many;
    same = λ all. alone ∙ ap (map claim) (same (values ys (subst (All HasRawBytes) alone all)));
  }
    where
      alone : flat_map claims_of_group (group ys ∷ []) ≡ map claim ys
      alone = append-nil (claims_of_group (group ys)) ∙ claims_are ys

-- what is read of a group of these claims, and of the items behind it
pub record ReadsLike (claims : List Claim) (more : List Item) (ps : List Placed) : Type 0 where
  pub groups : List Group
  pub rest : List Placed
  pub like : IsLike claims groups
  pub goes_on : groups_before_body ps ≡ groups ++ groups_before_body rest
  pub later : messages 1024 ps ≡ messages 1024 rest
  pub alike : AreAlike more (map (λ p. p.item) rest)

no_group : (more : List Item) (ps : List Placed) → AreAlike more (map (λ p. p.item) ps) → ReadsLike [] more ps
no_group more ps alike = record { groups = []; rest = ps; like = nothing_like; goes_on = refl; later = refl; alike = alike }

one_group : (claims : List Claim) (more : List Item) (p : Placed) (ps : List Placed) (group : Group) → p.item ≡ GroupItem group → IsLike claims (group ∷ [])
    → AreAlike more (map (λ p. p.item) ps) → ReadsLike claims more (p ∷ ps)
one_group claims more p ps group is like alike = record {
  groups = group ∷ [];
  rest = ps;
  like = like;
  goes_on = ap (λ i. groups_with i (groups_before_body ps)) is;
  later = ap (λ i. begun_by 1024 p.place i (groups_before_body ps) ++ messages 1024 ps) is;
  alike = alike;
}

held_same : (xs ys : List IndexedSig) → All IsIndexed xs → length xs ≤ 1024 → group_text (ControllerGroup xs) ≡ group_text (ControllerGroup ys)
    → All IsIndexed ys → ys ≡ xs
held_same xs ys raw few e valid =
    let same : GroupItem (ControllerGroup ys) ≡ GroupItem (ControllerGroup xs)
    = same_item (GroupItem (ControllerGroup xs)) (GroupItem (ControllerGroup ys)) raw valid (omega (arith, few)) e in cc same

witness_same : (xs ys : List IndexedSig) → All IsIndexed xs → length xs ≤ 1024 → group_text (WitnessGroup xs) ≡ group_text (WitnessGroup ys)
    → All IsIndexed ys → ys ≡ xs
witness_same xs ys raw few e valid =
    let same : GroupItem (WitnessGroup ys) ≡ GroupItem (WitnessGroup xs)
    = same_item (GroupItem (WitnessGroup xs)) (GroupItem (WitnessGroup ys)) raw valid (omega (arith, few)) e in cc same

couples_same : (xs ys : List Couple) → All IsCouple xs → length xs ≤ 1024 → group_text (Couples xs) ≡ group_text (Couples ys)
    → All IsCouple ys → ys ≡ xs
couples_same xs ys raw few e valid =
    let same : GroupItem (Couples ys) ≡ GroupItem (Couples xs)
    = same_item (GroupItem (Couples xs)) (GroupItem (Couples ys)) raw valid (omega (arith, few)) e in cc same

pub held_like : (xs : List IndexedSig) (more : List Item) (ps : List Placed) → All IsIndexed xs → length xs ≤ 1024
    → AreAlike (held_group xs ++ more) (map (λ p. p.item) ps) → ReadsLike (map (λ s. Controller s) xs) more ps
held_like [] more ps raw few alike = no_group more ps alike
held_like (x ∷ xs) more [] raw few alike = absurd alike
held_like (x ∷ xs) more (p ∷ ps) raw few alike =
    let y = held_alike (x ∷ xs) p.item alike.0 in
    let e : group_text (ControllerGroup (x ∷ xs)) ≡ group_text (ControllerGroup y.0) = subst (SpellsItem (group_text (ControllerGroup (x ∷ xs)))) y.1 alike.0 in
    one_group (map (λ s. Controller s) (x ∷ xs)) more p ps (ControllerGroup y.0) y.1
    (group_like (λ s. Controller s) IsIndexed (λ s h. h) (λ s t. refl) (λ es. ControllerGroup es) (λ es. refl) (λ es. refl) (x ∷ xs) y.0
    (as_many indexed_text indexed_sizes 65 (x ∷ xs) y.0 few e) (held_same (x ∷ xs) y.0 raw few e)) alike.1

pub witness_like : (xs : List IndexedSig) (more : List Item) (ps : List Placed) → All IsIndexed xs → length xs ≤ 1024
    → AreAlike (witness_group xs ++ more) (map (λ p. p.item) ps) → ReadsLike (map (λ s. Witness s) xs) more ps
witness_like [] more ps raw few alike = no_group more ps alike
witness_like (x ∷ xs) more [] raw few alike = absurd alike
witness_like (x ∷ xs) more (p ∷ ps) raw few alike =
    let y = witness_alike (x ∷ xs) p.item alike.0 in
    let e : group_text (WitnessGroup (x ∷ xs)) ≡ group_text (WitnessGroup y.0) = subst (SpellsItem (group_text (WitnessGroup (x ∷ xs)))) y.1 alike.0 in
    one_group (map (λ s. Witness s) (x ∷ xs)) more p ps (WitnessGroup y.0) y.1
    (group_like (λ s. Witness s) IsIndexed (λ s h. h) (λ s t. refl) (λ es. WitnessGroup es) (λ es. refl) (λ es. refl) (x ∷ xs) y.0
    (as_many indexed_text indexed_sizes 66 (x ∷ xs) y.0 few e) (witness_same (x ∷ xs) y.0 raw few e)) alike.1

pub couples_like : (xs : List Couple) (more : List Item) (ps : List Placed) → All IsCouple xs → length xs ≤ 1024
    → AreAlike (couple_group xs ++ more) (map (λ p. p.item) ps) → ReadsLike (map claim_of xs) more ps
couples_like [] more ps raw few alike = no_group more ps alike
couples_like (x ∷ xs) more [] raw few alike = absurd alike
couples_like (x ∷ xs) more (p ∷ ps) raw few alike =
    let y = couples_alike (x ∷ xs) p.item alike.0 in
    let e : group_text (Couples (x ∷ xs)) ≡ group_text (Couples y.0) = subst (SpellsItem (group_text (Couples (x ∷ xs)))) y.1 alike.0 in
    one_group (map claim_of (x ∷ xs)) more p ps (Couples y.0) y.1
    (group_like claim_of IsCouple (λ c h. h) (λ c d. refl) (λ es. Couples es) (λ es. refl) (λ es. refl) (x ∷ xs) y.0
    (as_many couple_text couple_sizes 67 (x ∷ xs) y.0 few e) (couples_same (x ∷ xs) y.0 raw few e)) alike.1
