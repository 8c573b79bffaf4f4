-- What was read, step by step.
use Rattle.std.proofs.Common.{◌≡◌, ◌≢◌, ℕ, ◌+◌, ◌≤◌, List, [], ◌∷◌, ◌++◌, map, inl, inr, refl, sym, ap, subst, ◌∙◌, arith}
use Rattle.std.specs.Prelude.{Result, IsErrAnd, IfErr}
use Rattle.std.proofs.lemmas.Result.{err_from_is_err_and}
use Rattle.std.specs.List.{AllByRecursion}
use Rattle.json_tree.specs.declared.tree.Tree.{Tree}
use Rattle.json_tree.specs.declared.tree.Tree.TheVariants.{List as TreeList, Object as TreeObject}
use Rattle.json_tree.specs.declared.tree.Member.{Member}
use Rattle.json_tree.specs.Spelling.{spelling, separated, IsJson, IsJsonMember, member_text, Fits, FitsMember}
use Rattle.json_tree.specs.Reading.{ReadsValue, NoValue, ReadsItems, NoItems, ReadsName, ReadsMember, NoMember}
use Rattle.json_tree.proofs.StringParts.{string_unique}
use Rattle.json_tree.proofs.Items.{with_commas, pushed, closed, All-push, refused_items, neither, EndsItem}
use Rattle.json_tree.proofs.Trees.{deepest, deepest_in, nesting-list, nesting-object, IsJson-from_list, IsJson-from_object}
use Rattle.json_tree.proofs.Unique.{unique, one_value, one_member, member_unique, ends_before, ends_item, list_whole, object_whole, member_whole, behind_byte}
use Rattle.json_tree.proofs.Refusals.{none_list, none_object}

-- what is said of an error holds of the one that a `?` hands on
pub IfErr-handed_on : {T E : Type 0} (r : Result T E) (e : E) (P : E → Type 0) → IsErrAnd r (λ y. y ≡ e) → P e → IfErr r P
IfErr-handed_on r e P is p = let same = err_from_is_err_and r is in rw (same.1, same.2) p

all_json : (n : ℕ) (trees : List Tree) → AllByRecursion (Fits n) trees → AllByRecursion IsJson trees × (deepest trees ≤ n)
all_json n [] fit = (tt, omega arith)
all_json n (t ∷ trees) fit =
    let rest = all_json n trees fit.1 in
    ((fit.0.0, rest.0), omega (arith, fit.0.1, rest.1))

all_json_members : (n : ℕ) (named : List Member) → AllByRecursion (FitsMember n) named → AllByRecursion IsJsonMember named × (deepest_in named ≤ n)
all_json_members n [] fit = (tt, omega arith)
all_json_members n (m ∷ named) fit =
    let rest = all_json_members n named fit.1 in
    (((fit.0.0, fit.0.1.0), rest.0), omega (arith, fit.0.1.1, rest.1))

-- a list
pub reads_list : (below depth : ℕ) → below + 1 ≡ depth → (bytes : List ℕ) (trees : List Tree) (rest : List ℕ) → ReadsItems (Fits below) spelling 93 bytes trees rest → ReadsValue depth (91 ∷ bytes) (TreeList trees) rest
reads_list below depth is bytes trees rest r =
    let all = all_json below trees r.each in
    record {
      fits = (IsJson-from_list trees all.0, omega (arith, all.1, nesting-list trees));
      whole = ap (λ l. 91 ∷ l) r.whole ∙ sym (list_whole trees rest);
      longest = tt;
    }

pub refuses_list : (below depth : ℕ) → below + 1 ≡ depth → (bytes : List ℕ) → NoItems (Fits below) spelling 93 bytes → NoValue depth (91 ∷ bytes)
refuses_list below depth is bytes none = subst (λ d. NoValue d (91 ∷ bytes)) is (none_list below bytes none)

pub reads_object : (below depth : ℕ) → below + 1 ≡ depth → (bytes : List ℕ) (named : List Member) (rest : List ℕ) → ReadsItems (FitsMember below) member_text 125 bytes named rest → ReadsValue depth (123 ∷ bytes) (TreeObject named) rest
reads_object below depth is bytes named rest r =
    let all = all_json_members below named r.each in
    record {
      fits = (IsJson-from_object named all.0, omega (arith, all.1, nesting-object named));
      whole = ap (λ l. 123 ∷ l) r.whole ∙ sym (object_whole named rest);
      longest = tt;
    }

pub refuses_object : (below depth : ℕ) → below + 1 ≡ depth → (bytes : List ℕ) → NoItems (FitsMember below) member_text 125 bytes → NoValue depth (123 ∷ bytes)
refuses_object below depth is bytes none = subst (λ d. NoValue d (123 ∷ bytes)) is (none_object below bytes none)

behind_58 : (x y : List ℕ) → 58 ∷ x ≡ 58 ∷ y → x ≡ y
behind_58 x y e = cc

pub refuses_member : (depth : ℕ) (bytes name behind : List ℕ) → ReadsName bytes name behind → NoValue depth behind → NoMember depth bytes
refuses_member depth bytes name behind n none member rest fits e =
    let whole = behind_byte 34 _ _ (sym n.whole ∙ e ∙ member_whole member rest) in
    let same = string_unique name member.name (58 ∷ behind) (58 ∷ (spelling member.value ++ rest)) n.string fits.0 whole in
    none member.value rest fits.1 (behind_58 _ _ same.1)

-- what a list or an object says of its items while they are read
pub refuses_values : (depth : ℕ) (read : List Tree) (bytes left : List ℕ) → AllByRecursion (Fits depth) read → bytes ≡ with_commas (map spelling read) ++ left → ((rest : List ℕ) → bytes ≢ 93 ∷ rest) → ((item : Tree) (more : List ℕ) → Fits depth item → EndsItem 93 more → left ≢ spelling item ++ more) → NoItems (Fits depth) spelling 93 bytes
refuses_values depth read bytes left each whole some none =
    refused_items (Fits depth) spelling 93 (λ is. omega (arith, is)) (one_value depth (unique depth) 93 (inr refl)) read bytes left each whole some none

pub refuses_members : (depth : ℕ) (read : List Member) (bytes left : List ℕ) → AllByRecursion (FitsMember depth) read → bytes ≡ with_commas (map member_text read) ++ left → ((rest : List ℕ) → bytes ≢ 125 ∷ rest) → ((item : Member) (more : List ℕ) → FitsMember depth item → EndsItem 125 more → left ≢ member_text item ++ more) → NoItems (FitsMember depth) member_text 125 bytes
refuses_members depth read bytes left each whole some none =
    refused_items (FitsMember depth) member_text 125 (λ is. omega (arith, is)) (one_member depth (unique depth) 125 (inl (omega arith))) read bytes left each whole some none

-- a value stands, and neither a comma nor the closing byte behind it
pub no_end : (depth : ℕ) (left : List ℕ) (value : Tree) (rest : List ℕ) → ReadsValue depth left value rest → ((more : List ℕ) → rest ≢ 44 ∷ more) → ((more : List ℕ) → rest ≢ 93 ∷ more) → (item : Tree) (more : List ℕ) → Fits depth item → EndsItem 93 more → left ≢ spelling item ++ more
no_end depth left value rest r no_comma no_close item more fits ends e =
    let same = unique depth item value more rest fits r.fits (ends_before item more (ends_item 93 (inr refl) more ends)) r.longest (sym e ∙ r.whole) in
    neither 93 rest (subst (EndsItem 93) same.1 ends) no_comma no_close

pub no_member_end : (depth : ℕ) (left : List ℕ) (value : Member) (rest : List ℕ) → ReadsMember depth left value rest → ((more : List ℕ) → rest ≢ 44 ∷ more) → ((more : List ℕ) → rest ≢ 125 ∷ more) → (item : Member) (more : List ℕ) → FitsMember depth item → EndsItem 125 more → left ≢ member_text item ++ more
no_member_end depth left value rest r no_comma no_close item more fits ends e =
    let same = member_unique depth (unique depth) item value more rest fits r.fits (ends_before item.value more (ends_item 125 (inl (omega arith)) more ends)) r.longest (sym e ∙ r.whole) in
    neither 125 rest (subst (EndsItem 125) same.1 ends) no_comma no_close

module _ {A : Type 0} (Good : A → Type 0) (text : A → List ℕ) (close : ℕ) where
  -- one more item, with a comma behind it
  pub more_items : (read now : List A) (item : A) (bytes left rest more : List ℕ) → now ≡ read ++ item ∷ [] → AllByRecursion Good read → Good item → bytes ≡ with_commas (map text read) ++ left → left ≡ text item ++ rest → rest ≡ 44 ∷ more
      → AllByRecursion Good now × (bytes ≡ with_commas (map text now) ++ more)
  more_items read now item bytes left rest more is each good whole stands comma = (
    subst (AllByRecursion Good) (sym is) (All-push Good read item each good),
    pushed text read item bytes left more whole (stands ∙ ap (λ l. text item ++ l) comma) ∙ ap (λ l. with_commas (map text l) ++ more) (sym is),
  )

  -- the last item, with the closing byte behind it
  pub last_item : (read now : List A) (item : A) (bytes left rest end : List ℕ) → now ≡ read ++ item ∷ [] → AllByRecursion Good read → Good item → bytes ≡ with_commas (map text read) ++ left → left ≡ text item ++ rest → rest ≡ close ∷ end → ReadsItems Good text close bytes now end
  last_item read now item bytes left rest end is each good whole stands closing = record {
    each = subst (AllByRecursion Good) (sym is) (All-push Good read item each good);
    whole = closed text close read item bytes left end whole (stands ∙ ap (λ l. text item ++ l) closing) ∙ ap (λ l. separated (map text l) ++ close ∷ end) (sym is);
  }
