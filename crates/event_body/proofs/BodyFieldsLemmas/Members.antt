-- The further fields of a body, one after the other.
use Rattle.std.proofs.Common.{◌≡◌, ◌≢◌, ℕ, zero, suc, ◌+◌, ◌<◌, ◌≤◌, List, [], ◌∷◌, ◌++◌, length, take, drop, get_or, refl, sym, ap, ◌∙◌, subst, arith, append_assoc, append-nil, drop-cons, codes}
use Rattle.std.specs.List.{AllByRecursion}
use Rattle.std.proofs.lemmas.List.{append_cancel_left, take_more, drop_all}
use Rattle.json_tree.specs.declared.tree.Tree.{Tree}
use Rattle.json_tree.specs.Spelling.{spelling}
use Rattle.event_body.specs.declared.body_fields.field.Field.{Field}
use Rattle.event_body.specs.BodyFields.Maps.{form_of}
use Rattle.event_body.specs.BodyFields.Forms.{IsOfForm}
use Rattle.event_body.specs.BodyFields.Bodies.{name_text, member_text, members_text, AreOfForms, Begins}
use Rattle.event_body.proofs.BodyFieldsLemmas.Depths.{IsValue, form_value, same_value}

member_whole : (field : Field) (value : Tree) (rest : List ℕ) → member_text field value ++ rest ≡ name_text field ++ (spelling value ++ rest)
member_whole field value rest = append_assoc (name_text field) (spelling value) rest

-- what stands in a field is one value
same_member : (field : Field) (a b : Tree) (r s : List ℕ) → IsValue a → IsValue b → member_text field a ++ r ≡ member_text field b ++ s → (a ≡ b) × (r ≡ s)
same_member field a b r s ia ib e = same_value a b r s ia ib (append_cancel_left (name_text field) _ _ (sym (member_whole field a r) ∙ e ∙ member_whole field b s))

-- what stands in fields is one list of as many values
pub same_members : (fields : List Field) (vs ws : List Tree) (r s : List ℕ) → AllByRecursion IsValue vs → AllByRecursion IsValue ws → length vs ≡ length fields → length ws ≡ length fields
    → members_text fields vs ++ r ≡ members_text fields ws ++ s → vs ≡ ws
same_members [] [] [] r s iv iw lv lw e = refl
same_members [] [] (w ∷ ws) r s iv iw lv lw e = absurd (omega (arith, lw))
same_members [] (v ∷ vs) ws r s iv iw lv lw e = absurd (omega (arith, lv))
same_members (field ∷ fields) [] ws r s iv iw lv lw e = absurd (omega (arith, lv))
same_members (field ∷ fields) (v ∷ vs) [] r s iv iw lv lw e = absurd (omega (arith, lw))
same_members (field ∷ fields) (v ∷ vs) (w ∷ ws) r s iv iw lv lw e =
    let same = same_member field v w (members_text fields vs ++ r) (members_text fields ws ++ s) iv.0 iw.0
    (sym (append_assoc (member_text field v) (members_text fields vs) r) ∙ e ∙ append_assoc (member_text field w) (members_text fields ws) s) in
    cc (same.0, same_members fields vs ws r s iv.1 iw.1 (omega (arith, lv)) (omega (arith, lw)) same.1)

-- values of the forms are as many, and strings and lists of JSON
pub forms_values : (fields : List Field) (values : List Tree) → AreOfForms fields values → AllByRecursion IsValue values × (length values ≡ length fields)
forms_values [] [] forms = (tt, refl)
forms_values [] (value ∷ values) forms = absurd forms
forms_values (field ∷ fields) [] forms = absurd forms
forms_values (field ∷ fields) (value ∷ values) forms =
    let rest = forms_values fields values forms.1 in
    ((form_value (form_of field) value forms.0, rest.0), omega (arith, rest.1))

-- one more field
forms_push : (fields : List Field) (values : List Tree) (field : Field) (value : Tree) → AreOfForms fields values → IsOfForm (form_of field) value → AreOfForms (fields ++ field ∷ []) (values ++ value ∷ [])
forms_push [] [] field value forms is = (is, tt)
forms_push [] (v ∷ values) field value forms is = absurd forms
forms_push (f ∷ fields) [] field value forms is = absurd forms
forms_push (f ∷ fields) (v ∷ values) field value forms is = (forms.0, forms_push fields values field value forms.1 is)

text_push : (fields : List Field) (values : List Tree) (field : Field) (value : Tree) (rest : List ℕ) → AreOfForms fields values
    → members_text fields values ++ (member_text field value ++ rest) ≡ members_text (fields ++ field ∷ []) (values ++ value ∷ []) ++ rest
text_push [] [] field value rest forms = ap (λ x. x ++ rest) (sym (append-nil (member_text field value)))
text_push [] (v ∷ values) field value rest forms = absurd forms
text_push (f ∷ fields) [] field value rest forms = absurd forms
text_push (f ∷ fields) (v ∷ values) field value rest forms =
    append_assoc (member_text f v) (members_text fields values) (member_text field value ++ rest)
    ∙ ap (λ x. member_text f v ++ x) (text_push fields values field value rest forms.1)
    ∙ sym (append_assoc (member_text f v) (members_text (fields ++ field ∷ []) (values ++ value ∷ [])) rest)

module _ (fields : List Field) (i : ℕ) (values : List Tree) (bytes left : List ℕ) (forms : AreOfForms (take i fields) values) (at : bytes ≡ members_text (take i fields) values ++ left) where
  pub one_more : (now : List Tree) (d : Field) (value : Tree) (rest : List ℕ) → i < length fields → now ≡ values ++ value ∷ []
      → IsOfForm (form_of (get_or fields i d)) value → left ≡ member_text (get_or fields i d) value ++ rest → AreOfForms (take (i + 1) fields) now × (bytes ≡ members_text (take (i + 1) fields) now ++ rest)
  one_more now d value rest lt pushed is next =
      let field : Field = get_or fields i d in
      let taken : take (i + 1) fields ≡ take i fields ++ field ∷ [] = take_more fields i d lt in
      let all = forms_push (take i fields) values field value forms is in
      let text = at ∙ ap (λ x. members_text (take i fields) values ++ x) next ∙ text_push (take i fields) values field value rest forms in
      rw (taken, pushed) (all, text)

-- where the next field doesn't stand behind so many, no more than these stand
pub stops : (fields : List Field) (i : ℕ) (values : List Tree) (bytes left : List ℕ) → i ≤ length fields → AreOfForms (take i fields) values
    → bytes ≡ members_text (take i fields) values ++ left → ¬ Begins 1 (drop i fields) left → Begins i fields bytes × ¬ Begins (suc i) fields bytes
stops [] zero [] bytes left le forms at none = (tt, λ stand. none (subst (Begins 1 []) at stand))
stops [] zero (v ∷ values) bytes left le forms at none = absurd forms
stops [] (suc i) values bytes left le forms at none = absurd (omega (arith, le))
stops (field ∷ fields) zero [] bytes left le forms at none = (tt, λ stand. none (subst (Begins 1 (field ∷ fields)) at stand))
stops (field ∷ fields) zero (v ∷ values) bytes left le forms at none = absurd forms
stops (field ∷ fields) (suc i) [] bytes left le forms at none = absurd forms
stops (field ∷ fields) (suc i) (value ∷ values) bytes left le forms at none =
    let rest : List ℕ = members_text (take i fields) values ++ left in
    let front : bytes ≡ member_text field value ++ rest = at ∙ append_assoc (member_text field value) (members_text (take i fields) values) left in
    let behind = stops fields i values rest left (omega (arith, le)) forms.1 refl none in
    ((value, rest, forms.0, front, behind.0), λ more. behind.1 (subst (Begins (suc i) fields) (same_member field more.0 value more.1 rest (form_value (form_of field) more.0 more.2) (form_value (form_of field) value forms.0) (sym more.3 ∙ front)).1 more.4))

-- the next field doesn't stand, and behind the last one the end doesn't
pub no_next : (fields : List Field) (i : ℕ) (d : Field) (left : List ℕ) → i < length fields
    → ((value : Tree) (rest : List ℕ) → IsOfForm (form_of (get_or fields i d)) value → left ≢ member_text (get_or fields i d) value ++ rest) → ¬ Begins 1 (drop i fields) left
no_next fields i d left lt none stand =
    let found = subst (λ fs. Begins 1 fs left) (drop-cons fields i d lt) stand in
    none found.0 found.1 found.2 found.3

pub no_end : (fields : List Field) (i : ℕ) (left : List ℕ) → length fields ≤ i → left ≢ codes "}" → ¬ Begins 1 (drop i fields) left
no_end fields i left all none stand = none (subst (λ fs. Begins 1 fs left) (drop_all i fields all) stand)

-- where all fields and the end stand, any number of them does
pub all_begin : (fields : List Field) (values : List Tree) (n : ℕ) → AreOfForms fields values → Begins n fields (members_text fields values ++ codes "}")
all_begin fields values zero forms = tt
all_begin [] [] (suc n) forms = refl
all_begin [] (v ∷ values) (suc n) forms = absurd forms
all_begin (field ∷ fields) [] (suc n) forms = absurd forms
all_begin (field ∷ fields) (v ∷ values) (suc n) forms =
    (v, members_text fields values ++ codes "}", forms.0, append_assoc (member_text field v) (members_text fields values) (codes "}"), all_begin fields values n forms.1)
