-- Names are told apart by their texts, and hold no space.
use Rattle.std.proofs.Common.{◌≡◌, ℕ, List, [], ◌∷◌, ◌++◌, refl, sym, ap, subst, ◌∙◌, unwrap_or}
use Rattle.std.specs.List.{find}
use Rattle.std.specs.Str.{bytes_eq}
use Rattle.controller_core.specs.declared.plan_text.kind.Kind.{Kind}
use Rattle.controller_core.specs.declared.plan_text.name.Name.{Name}
use Rattle.controller_core.specs.declared.plan_text.name.Name.TheVariants.{Prefix, Code, Kt, Nt, Key, Next, Cut, Add, Bt, Trait, Seal, Di, Sign, Reuse}
use Rattle.controller_core.specs.declared.plan_text.entry.Entry.{Entry}
use Rattle.controller_core.specs.PlanText.Lines.{Splits}
use Rattle.controller_core.specs.PlanText.Entries.{name_text, Says, IsLine}
use Rattle.controller_core.proofs.PlanTextLemmas.Parts.{Lacks, parts_of, whole}

abbrev names : List Name
names = Prefix ∷ Code ∷ Kt ∷ Nt ∷ Key ∷ Next ∷ Cut ∷ Add ∷ Bt ∷ Trait ∷ Seal ∷ Di ∷ Sign ∷ Reuse ∷ []

-- the name of a text
abbrev name_of : List ℕ → Name
name_of text = unwrap_or (find (λ name. bytes_eq (name_text name) text) names) Prefix

name_of-name_text : (name : Name) → name_of (name_text name) ≡ name
name_of-name_text Prefix = refl
name_of-name_text Code = refl
name_of-name_text Kt = refl
name_of-name_text Nt = refl
name_of-name_text Key = refl
name_of-name_text Next = refl
name_of-name_text Cut = refl
name_of-name_text Add = refl
name_of-name_text Bt = refl
name_of-name_text Trait = refl
name_of-name_text Seal = refl
name_of-name_text Di = refl
name_of-name_text Sign = refl
name_of-name_text Reuse = refl

lacks_space : (name : Name) → Lacks 32 (name_text name)
lacks_space Prefix = refl
lacks_space Code = refl
lacks_space Kt = refl
lacks_space Nt = refl
lacks_space Key = refl
lacks_space Next = refl
lacks_space Cut = refl
lacks_space Add = refl
lacks_space Bt = refl
lacks_space Trait = refl
lacks_space Seal = refl
lacks_space Di = refl
lacks_space Sign = refl
lacks_space Reuse = refl

same_name : (a b : Name) → name_text a ≡ name_text b → a ≡ b
same_name a b e = sym (name_of-name_text a) ∙ ap name_of e ∙ name_of-name_text b

-- a line that spells an entry has the name and the value that stand round its first space
pub says_of : (kind : Kind) (line front value : List ℕ) (name : Name) → Splits 32 line front value → front ≡ name_text name → (entry : Entry) → IsLine kind line entry → Says kind name value entry
says_of kind line front value name parts named entry is =
    let both = parts_of 32 line front value (name_text is.name) is.value (lacks_space is.name) is.whole parts in
    subst (λ v. Says kind name v entry) (sym both.1) (subst (λ n. Says kind n is.value entry) (same_name is.name name (sym both.0 ∙ named)) is.says)

-- a name and its value round the first space make a line
pub line_of : (kind : Kind) (line front value : List ℕ) (name : Name) → Splits 32 line front value → front ≡ name_text name → (entry : Entry) → Says kind name value entry → IsLine kind line entry
line_of kind line front value name parts named entry says =
    record { name = name; value = value; whole = whole 32 line front value parts ∙ ap (λ l. l ++ 32 ∷ value) named; says = says }
