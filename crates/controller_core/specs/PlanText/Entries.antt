-- The lines of a plan (a format of this project): a name, a space and a value, which has one spelling. Primitives are those
-- of CESR, JSON values those of RFC 8259, and thresholds those of KERI.
use Rattle.std.specs.Prelude.{◌≡◌, ℕ, ◌^◌, ◌<◌, ◌≤◌, List, [], ◌∷◌, ◌++◌, length, codes, ⊤, Option, Some, None}
use Rattle.std.specs.Fmt.{decimal}
use Rattle.lists.specs.KeriSpecs.Hex.{IsHexOf}
use Rattle.cesr_codes.specs.declared.digest.Digest.{Digest}
use Rattle.cesr_codes.specs.declared.digest.DigestCode.{DigestCode}
use Rattle.cesr_codes.specs.declared.key.Key.{Key}
use Rattle.cesr_codes.specs.declared.prefix.Prefix.{Prefix}
use Rattle.cesr_codes.specs.Spelling.{IsDigest, IsKey, IsPrefix, digest_code, digest_text, key_text, prefix_text}
use Rattle.json_tree.specs.declared.tree.Tree.{Tree}
use Rattle.json_tree.specs.declared.tree.Tree.TheVariants.{Str}
use Rattle.json_tree.specs.Spelling.{Fits, spelling}
use Rattle.sith.specs.declared.threshold.Threshold.{Threshold}
use Rattle.sith.specs.Thresholds.{Spells}
use Rattle.controller_core.specs.declared.controller_core.slot.Slot.{Slot}
use Rattle.controller_core.specs.declared.plan_text.kind.Kind.{Kind}
use Rattle.controller_core.specs.declared.plan_text.kind.Kind.TheVariants.{Icp, Dip, Rot, Drt, Ixn}
use Rattle.controller_core.specs.declared.plan_text.name.Name.{Name}
use Rattle.controller_core.specs.declared.plan_text.name.Name.TheVariants as name
use Rattle.controller_core.specs.declared.plan_text.given_prefix.GivenPrefix.{GivenPrefix}
use Rattle.controller_core.specs.declared.plan_text.given_prefix.GivenPrefix.TheVariants.{Said, Basic, Of}
use Rattle.controller_core.specs.declared.plan_text.entry.Entry.{Entry}
use Rattle.controller_core.specs.declared.plan_text.entry.Entry.TheVariants as entry
use Rattle.controller_core.specs.PlanText.Lines.{HasLine}

-- the first line
abbrev pub kind_line : Kind → List ℕ
kind_line Icp = codes "kind icp"
kind_line Dip = codes "kind dip"
kind_line Rot = codes "kind rot"
kind_line Drt = codes "kind drt"
kind_line Ixn = codes "kind ixn"

abbrev pub name_text : Name → List ℕ
name_text name.Prefix = codes "prefix"
name_text name.Code = codes "code"
name_text name.Kt = codes "kt"
name_text name.Nt = codes "nt"
name_text name.Key = codes "key"
name_text name.Next = codes "next"
name_text name.Cut = codes "cut"
name_text name.Add = codes "add"
name_text name.Bt = codes "bt"
name_text name.Trait = codes "trait"
name_text name.Seal = codes "seal"
name_text name.Di = codes "di"
name_text name.Sign = codes "sign"
name_text name.Reuse = codes "reuse"

-- an inception's prefix is its digest or its first key
abbrev pub IsWord : GivenPrefix → List ℕ → Type 0
IsWord Said value = value ≡ codes "said"
IsWord Basic value = value ≡ codes "basic"
IsWord (Of prefix) value = ⊥

-- another event's is that of its identifier
abbrev pub IsIdentifier : GivenPrefix → List ℕ → Type 0
IsIdentifier (Of prefix) value = IsPrefix prefix × (value ≡ prefix_text prefix)
IsIdentifier Said value = ⊥
IsIdentifier Basic value = ⊥

-- a delegated inception's is always its digest, so that none is given
abbrev pub IsGiven : Kind → GivenPrefix → List ℕ → Type 0
IsGiven Icp given value = IsWord given value
IsGiven Dip given value = ⊥
IsGiven Rot given value = IsIdentifier given value
IsGiven Drt given value = IsIdentifier given value
IsGiven Ixn given value = IsIdentifier given value

-- a JSON value of RFC 8259 without white space, which nests at most 8 deep
abbrev pub IsJsonValue : Tree → List ℕ → Type 0
IsJsonValue tree value = Fits 8 tree × (value ≡ spelling tree)

-- a text has at most 16 digits
abbrev pub IsShort : Tree → Type 0
IsShort (Str digits) = length digits ≤ 16
IsShort _ = ⊤

unfoldable pub IsThresholdText : Threshold → List ℕ → Type 0
IsThresholdText threshold value = (tree : Tree) × IsJsonValue tree value × IsShort tree × Spells threshold tree

abbrev pub IsTraitText : List ℕ → List ℕ → Type 0
IsTraitText text value = IsJsonValue (Str text) value

-- a number in at most 16 lower-case hexadecimal digits, without leading zeros
abbrev pub IsNumberText : ℕ → List ℕ → Type 0
IsNumberText n value = IsHexOf n value × (length value ≤ 16)

-- an index, a space, and the other index or a hyphen for none: each in decimal, and at most 65,535
abbrev pub ondex_text : Option ℕ → List ℕ
ondex_text None = codes "-"
ondex_text (Some ondex) = decimal ondex

abbrev pub slot_text : Slot → List ℕ
slot_text slot = decimal slot.index ++ 32 ∷ ondex_text slot.ondex

abbrev pub IsOndex : Option ℕ → Type 0
IsOndex None = ⊤
IsOndex (Some ondex) = ondex < 2 ^ 16

abbrev pub IsSlot : Slot → Type 0
IsSlot slot = (slot.index < 2 ^ 16) × IsOndex slot.ondex

-- in a plan of this kind the value that is spelled so under the name gives the entry
abbrev pub Says : Kind → Name → List ℕ → Entry → Type 0
Says kind name.Prefix value is = (given : GivenPrefix) × IsGiven kind given value × (is ≡ entry.Prefix given)
Says kind name.Code value is = (code : DigestCode) × (value ≡ digest_code code ∷ []) × (is ≡ entry.Code code)
Says kind name.Kt value is = (threshold : Threshold) × IsThresholdText threshold value × (is ≡ entry.Kt threshold)
Says kind name.Nt value is = (threshold : Threshold) × IsThresholdText threshold value × (is ≡ entry.Nt threshold)
Says kind name.Key value is = (key : Key) × IsKey key × (value ≡ key_text key) × (is ≡ entry.Key key)
Says kind name.Next value is = (digest : Digest) × IsDigest digest × (value ≡ digest_text digest) × (is ≡ entry.Next digest)
Says kind name.Cut value is = (key : Key) × IsKey key × (value ≡ key_text key) × (is ≡ entry.Cut key)
Says kind name.Add value is = (key : Key) × IsKey key × (value ≡ key_text key) × (is ≡ entry.Add key)
Says kind name.Bt value is = (n : ℕ) × IsNumberText n value × (is ≡ entry.Bt n)
Says kind name.Trait value is = (text : List ℕ) × IsTraitText text value × (is ≡ entry.Trait text)
Says kind name.Seal value is = (tree : Tree) × IsJsonValue tree value × (is ≡ entry.Seal tree)
Says kind name.Di value is = (prefix : Prefix) × IsPrefix prefix × (value ≡ prefix_text prefix) × (is ≡ entry.Di prefix)
Says kind name.Sign value is = (slot : Slot) × IsSlot slot × (value ≡ slot_text slot) × (is ≡ entry.Sign slot)
Says kind name.Reuse value is = (value ≡ codes "yes") × (is ≡ entry.Reuse)

-- in a plan of this kind the line spells the entry
pub record IsLine (kind : Kind) (line : List ℕ) (is : Entry) : Type 0 where
  pub name : Name
  pub value : List ℕ
  pub whole : line ≡ name_text name ++ 32 ∷ value
  pub says : Says kind name value is

-- the text's first line spells the entry, and the rest stands behind it
pub record BeginsEntry (kind : Kind) (is : Entry) (text rest : List ℕ) : Type 0 where
  pub line : List ℕ
  pub first : HasLine text line rest
  pub spells : IsLine kind line is

-- lines that spell the entries in order stand at the front of the text, and the rest behind them
abbrev pub AreLines : Kind → List Entry → List ℕ → List ℕ → Type 0
AreLines kind [] text rest = rest ≡ text
AreLines kind (first ∷ entries) text rest = (behind : List ℕ) × BeginsEntry kind first text behind × AreLines kind entries behind rest
