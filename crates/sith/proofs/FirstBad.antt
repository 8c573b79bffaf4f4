-- The first text that spells no weight, where weights are read one by one.
use Rattle.std.proofs.Common.{◌≡◌, ◌≢◌, ℕ, ◌+◌, ◌<◌, ◌≤◌, min, take, drop, get_or, append-nil, List, [], ◌∷◌, ◌++◌, length, map, refl, sym, ap, subst, ◌∙◌, arith, append_assoc, length-append}
use Rattle.std.specs.List.{AllByRecursion, flat_map}
use Rattle.std.proofs.lemmas.List.{map-append, take_all}
use Rattle.std.proofs.lemmas.List.Concat.{flat_map-append}
use Rattle.json_tree.specs.declared.tree.Tree.{Tree}
use Rattle.json_tree.specs.declared.tree.Member.{Member}
use Rattle.json_tree.specs.declared.tree.Tree.TheVariants.{Str, List as TreeList, Object as TreeObject}
use Rattle.sith.specs.declared.weight.Weight.{Weight}
use Rattle.sith.specs.declared.term.Term.{Term}
use Rattle.sith.specs.declared.term.Term.TheVariants.{Single, Group}
use Rattle.sith.specs.declared.sith_fault.SithFault.{SithFault}
use Rattle.sith.specs.declared.sith_fault.SithFault.TheVariants.{Form, BadWeight, OutOfRange, TooFine, Unreachable, OutOfMemory}
use Rattle.sith.specs.Weights.{IsWeight}
use Rattle.sith.specs.Terms.{weights_in}
use Rattle.sith.specs.Thresholds.{weight_text, weight_value, term_value, clause_value, clause_weights, Written, single, group, texts_value, written_value, written_clause, texts_of, clause_texts, IsFirstBad, IsWeightFault}
use Rattle.sith.proofs.Lists.{All-append, All-parts, taken, split}
use Rattle.sith.proofs.Values.{text_injective, list_injective, object_or_text, same_member}

pub bad_front : (start n : ℕ) (texts more : List (List ℕ)) → IsFirstBad start n texts → IsFirstBad start n (texts ++ more)
bad_front start n texts more b = record {
  before = b.before;
  bad = b.bad;
  behind = b.behind ++ more;
  are = ap (λ l. l ++ more) b.are ∙ append_assoc (map weight_text b.before) (b.bad ∷ b.behind) more;
  weights = b.weights;
  none = b.none;
  number = b.number;
}

pub bad_behind : (start middle n : ℕ) (weights : List Weight) (texts : List (List ℕ)) → AllByRecursion IsWeight weights → middle ≡ min (start + length weights) 65535 → IsFirstBad middle n texts → IsFirstBad start n (map weight_text weights ++ texts)
bad_behind start middle n weights texts all counted b = record {
  before = weights ++ b.before;
  bad = b.bad;
  behind = b.behind;
  are = ap (λ l. map weight_text weights ++ l) b.are ∙ sym (append_assoc (map weight_text weights) (map weight_text b.before) (b.bad ∷ b.behind)) ∙ ap (λ l. l ++ b.bad ∷ b.behind) (sym (map-append weight_text weights b.before));
  weights = All-append IsWeight weights b.before all b.weights;
  none = b.none;
  number = omega (arith, b.number, counted, length-append weights b.before);
}

-- values that are read one by one, each with weights whose texts stand in it
module _ {A W : Type 0} (f : A → Tree) (value : W → Tree) (texts : W → List (List ℕ)) (weights : A → List Weight) (same : (a : A) (w : W) → f a ≡ value w → texts w ≡ map weight_text (weights a)) where
  pub texts_are : (found : List A) (ws : List W) → map f found ≡ map value ws → flat_map texts ws ≡ map weight_text (flat_map weights found)
  texts_are [] [] e = refl
  texts_are [] (w ∷ ws) e = cc e
  texts_are (a ∷ found) [] e = cc e
  texts_are (a ∷ found) (w ∷ ws) e =
      let first : f a ≡ value w = cc e in
      let rest : map f found ≡ map value ws = cc e in
      ap (λ l. l ++ flat_map texts ws) (same a w first) ∙ ap (λ l. map weight_text (weights a) ++ l) (texts_are found ws rest) ∙ sym (map-append weight_text (weights a) (flat_map weights found))

  -- what is bad in the next is the first that is bad in all
  pub bad_next : (found : List A) (ws : List W) (tree : Tree) (behind trees : List Tree) (start middle n : ℕ) → trees ≡ map f found ++ tree ∷ behind → trees ≡ map value ws → AllByRecursion IsWeight (flat_map weights found) → middle ≡ min (start + length (flat_map weights found)) 65535
      → ((w : W) → tree ≡ value w → IsFirstBad middle n (texts w)) → IsFirstBad start n (flat_map texts ws)
  bad_next [] [] tree behind trees start middle n split are all counted here = cc (split, are)
  bad_next [] (w ∷ ws) tree behind trees start middle n split are all counted here =
      let first : tree ≡ value w = cc (split, are) in
      bad_behind start middle n [] (texts w ++ flat_map texts ws) tt counted (bad_front middle n (texts w) (flat_map texts ws) (here w first))
  bad_next (a ∷ found) [] tree behind trees start middle n split are all counted here = cc (split, are)
  bad_next (a ∷ found) (w ∷ ws) tree behind trees start middle n split are all counted here =
      let first : f a ≡ value w = cc (split, are) in
      let rest : map f found ++ tree ∷ behind ≡ map value ws = cc (split, are) in
      let parts = All-parts IsWeight (weights a) (flat_map weights found) all in
      let next = min (start + length (weights a)) 65535 in
      let later = bad_next found ws tree behind (map f found ++ tree ∷ behind) next middle n refl rest parts.1 (omega (arith, counted, length-append (weights a) (flat_map weights found))) here in
      subst (λ l. IsFirstBad start n (l ++ flat_map texts ws)) (sym (same a w first)) (bad_behind start next n (weights a) (flat_map texts ws) parts.0 refl later)

  -- the values so far are those of what was found, and the next weight has this number
  pub record HasRead (found : List A) (i : ℕ) (trees : List Tree) (start number : ℕ) : Type 0 where
    pub are : map f found ≡ take i trees
    pub held : AllByRecursion IsWeight (flat_map weights found)
    pub counted : number ≡ min (start + length (flat_map weights found)) 65535

  pub read_none : (found : List A) (trees : List Tree) (number : ℕ) → found ≡ [] → number ≤ 65535 → HasRead found 0 trees number number
  read_none found trees number none few = record {
    are = ap (map f) none;
    held = subst (λ l. AllByRecursion IsWeight (flat_map weights l)) (sym none) tt;
    counted = omega (arith, few, ap (λ l. length (flat_map weights l)) none);
  }

  module _ (found : List A) (i : ℕ) (trees : List Tree) (start number : ℕ) (read : HasRead found i trees start number) where
    module _ (tree : Tree) (within : i < length trees) (is : tree ≡ get_or trees i tree) where
      -- one more
      pub read_more : (a : A) (now : List A) (next : ℕ) → AllByRecursion IsWeight (weights a) → tree ≡ f a → next ≡ min (number + length (weights a)) 65535 → now ≡ found ++ a ∷ [] → HasRead now (i + 1) trees start next
      read_more a now next all spelled counts pushed =
          let more : flat_map weights now ≡ flat_map weights found ++ weights a = ap (flat_map weights) pushed ∙ flat_map-append weights found (a ∷ []) ∙ ap (λ l. flat_map weights found ++ l) (append-nil (weights a)) in
          record {
            are = ap (map f) pushed ∙ map-append f found (a ∷ []) ∙ ap (λ l. l ++ f a ∷ []) read.are ∙ ap (λ t. take i trees ++ t ∷ []) (sym spelled) ∙ sym (taken trees i tree within is);
            held = subst (AllByRecursion IsWeight) (sym more) (All-append IsWeight (flat_map weights found) (weights a) read.held all);
            counted = omega (arith, counts, read.counted, ap length more, length-append (flat_map weights found) (weights a));
          }

      -- a fault in the next is one in all
      pub fault_next : (fault : SithFault) → IsWeightFault value texts tree number fault → IsWeightFault (λ (ws : List W). TreeList (map value ws)) (λ ws. flat_map texts ws) (TreeList trees) start fault
      fault_next (BadWeight n) bad = λ ws written.
          bad_next found ws tree (drop (i + 1) trees) trees start number n (split trees i tree within is ∙ ap (λ l. l ++ tree ∷ drop (i + 1) trees) (sym read.are)) (list_injective trees (map value ws) written) read.held read.counted bad
      fault_next OutOfMemory bad = tt
      fault_next Form bad = bad
      fault_next OutOfRange bad = bad
      fault_next TooFine bad = bad
      fault_next Unreachable bad = bad

    pub read_all : length trees ≤ i → AllByRecursion IsWeight (flat_map weights found) × (trees ≡ map f found)
    read_all last = (read.held, sym (read.are ∙ take_all i trees last))

pub single_same : (w : Weight) (text : List ℕ) → weight_value w ≡ Str text → text ∷ [] ≡ map weight_text (w ∷ [])
single_same w text e = ap (λ t. t ∷ []) (sym (text_injective (weight_text w) text e))

pub strings_are : (weights : List Weight) (texts : List (List ℕ)) → map weight_value weights ≡ map (λ text. Str text) texts → texts ≡ map weight_text weights
strings_are [] [] e = refl
strings_are [] (t ∷ texts) e = cc e
strings_are (w ∷ weights) [] e = cc e
strings_are (w ∷ weights) (t ∷ texts) e =
    let first : weight_value w ≡ Str t = cc e in
    let rest : map weight_value weights ≡ map (λ text. Str text) texts = cc e in
    ap (λ h. h ∷ texts) (sym (text_injective (weight_text w) t first)) ∙ ap (λ l. weight_text w ∷ l) (strings_are weights texts rest)

pub term_same : (term : Term) (w : Written) → term_value term ≡ written_value w → texts_of w ≡ map weight_text (weights_in term)
term_same (Single weight) (single text) e = single_same weight text e
term_same (Single weight) (group outer inner) e = absurd (object_or_text _ (weight_text weight) (sym e))
term_same (Group weight weights) (single text) e = absurd (object_or_text _ text e)
term_same (Group weight weights) (group outer inner) e =
    let both = same_member (weight_text weight) outer (TreeList (map weight_value weights)) (texts_value inner) e in
    ap (λ t. t ∷ inner) (sym both.0) ∙ ap (λ l. weight_text weight ∷ l) (strings_are weights inner (list_injective (map weight_value weights) (map (λ text. Str text) inner) both.1))

pub clause_same : (terms : List Term) (ws : List Written) → clause_value terms ≡ written_clause ws → clause_texts ws ≡ map weight_text (clause_weights terms)
clause_same terms ws e = texts_are term_value written_value texts_of weights_in term_same terms ws (list_injective (map term_value terms) (map written_value ws) e)

-- lists of one each
pub singles : {A : Type 0} (xs : List A) → flat_map (λ (x : A). x ∷ []) xs ≡ xs
singles [] = refl
singles (x ∷ xs) = ap (λ l. x ∷ l) (singles xs)

-- the weights of a group, whose texts are its strings
pub weights_fault : (tree : Tree) (start : ℕ) (fault : SithFault) → IsWeightFault texts_value (λ ts. flat_map (λ (t : List ℕ). t ∷ []) ts) tree start fault → IsWeightFault texts_value (λ ts. ts) tree start fault
weights_fault tree start (BadWeight n) bad = λ ts is. subst (IsFirstBad start n) (singles ts) (bad ts is)
weights_fault tree start OutOfMemory bad = tt
weights_fault tree start Form bad = bad
weights_fault tree start OutOfRange bad = bad
weights_fault tree start TooFine bad = bad
weights_fault tree start Unreachable bad = bad

-- a text that spells no weight
pub bad_alone : (number : ℕ) (text : List ℕ) → number ≤ 65535 → ((w : Weight) → IsWeight w → text ≢ weight_text w) → (t : List ℕ) → Str text ≡ Str t → IsFirstBad number number (t ∷ [])
bad_alone number text few none t is = record {
  before = [];
  bad = t;
  behind = [];
  are = refl;
  weights = tt;
  none = λ w good e. none w good (text_injective text t is ∙ e);
  number = omega (arith, few);
}

module _ (member : Member) (number : ℕ) where
  -- a fault in a group's outer weight, and in its inner ones
  pub outer_fault : (fault : SithFault) → IsWeightFault (λ (t : List ℕ). Str t) (λ t. t ∷ []) (Str member.name) number fault → IsWeightFault written_value texts_of (TreeObject (member ∷ [])) number fault
  outer_fault (BadWeight n) bad = λ w is. outer_bad w is
    where
      outer_bad : (w : Written) → TreeObject (member ∷ []) ≡ written_value w → IsFirstBad number n (texts_of w)
      outer_bad (single text) is = absurd (object_or_text (member ∷ []) text is)
      outer_bad (group outer inner) is = bad_front number n (outer ∷ []) inner (bad outer (ap (λ t. Str t) (same_member member.name outer member.value (texts_value inner) is).0))
  outer_fault OutOfMemory bad = tt
  outer_fault Form bad = bad
  outer_fault OutOfRange bad = bad
  outer_fault TooFine bad = bad
  outer_fault Unreachable bad = bad

  pub inner_fault : (weight : Weight) (next : ℕ) (fault : SithFault) → IsWeight weight → member.name ≡ weight_text weight → next ≡ min (number + 1) 65535 → IsWeightFault texts_value (λ ts. ts) member.value next fault → IsWeightFault written_value texts_of (TreeObject (member ∷ [])) number fault
  inner_fault weight next (BadWeight n) held spelled counts bad = λ w is. inner_bad w is
    where
      inner_bad : (w : Written) → TreeObject (member ∷ []) ≡ written_value w → IsFirstBad number n (texts_of w)
      inner_bad (single text) is = absurd (object_or_text (member ∷ []) text is)
      inner_bad (group outer inner) is =
          let both = same_member member.name outer member.value (texts_value inner) is in
          subst (λ t. IsFirstBad number n (t ∷ inner)) (sym spelled ∙ both.0) (bad_behind number next n (weight ∷ []) inner (held, tt) counts (bad inner both.1))
  inner_fault weight next OutOfMemory held spelled counts bad = tt
  inner_fault weight next Form held spelled counts bad = bad
  inner_fault weight next OutOfRange held spelled counts bad = bad
  inner_fault weight next TooFine held spelled counts bad = bad
  inner_fault weight next Unreachable held spelled counts bad = bad

-- a fault in a single weight
pub single_fault : (text : List ℕ) (number : ℕ) (fault : SithFault) → IsWeightFault (λ (t : List ℕ). Str t) (λ t. t ∷ []) (Str text) number fault → IsWeightFault written_value texts_of (Str text) number fault
single_fault text number (BadWeight n) bad = λ w is. single_bad w is
  where
    single_bad : (w : Written) → Str text ≡ written_value w → IsFirstBad number n (texts_of w)
    single_bad (single t) is = bad t is
    single_bad (group outer inner) is = absurd (object_or_text _ text (sym is))
single_fault text number OutOfMemory bad = tt
single_fault text number Form bad = bad
single_fault text number OutOfRange bad = bad
single_fault text number TooFine bad = bad
single_fault text number Unreachable bad = bad
