-- Plans that are being read: what the lines so far give.
use Rattle.std.specs.Prelude.{◌≡◌, ℕ, List, [], ◌∷◌, ◌++◌, ⊤}
use Rattle.std.specs.Option.{option_to_list}
use Rattle.std.specs.declared.cmp.Ordering.{Ordering}
use Rattle.std.specs.declared.cmp.Ord as ord
use Rattle.cesr_codes.specs.contracts.digest.DigestOrd.TheImpl as digest_order
use Rattle.cesr_codes.specs.declared.digest.Digest.{Digest}
use Rattle.controller_core.specs.declared.plan_text.kind.Kind.{Kind}
use Rattle.controller_core.specs.declared.plan_text.entry.Entry.{Entry}
use Rattle.controller_core.specs.declared.plan_text.entry.Entry.TheVariants as entry
use Rattle.controller_core.specs.declared.plan_text.draft.Draft.{Draft}
use Rattle.controller_core.specs.declared.plan_text.promise.Promise.{Promise}
use Rattle.controller_core.specs.PlanText.Lines.{HasLine}
use Rattle.controller_core.specs.PlanText.Entries.{IsLine}
use Rattle.controller_core.specs.PlanText.Sheets.{Sheet, IsOnce}
use denote.Param as param

-- the order of digests
abbrev pub digest_cmp : Digest → Digest → Ordering
digest_cmp = param.read (ord.Ghosts.cmp {X-1 = Digest}) digest_order.ghosts

abbrev pub empty : Sheet
empty = record { prefixes = []; digest_codes = []; kts = []; nts = []; keys = []; nexts = []; cuts = []; adds = []; toads = []; traits = []; seals = []; delegators = []; slots = []; promises = []; reuses = [] }

-- a promise in a line is kept with it, unless a line `reuse yes` stands before it
abbrev pub kept : List ⊤ → ℕ → Digest → List Promise
kept [] number digest = record { line = number; digest = digest } ∷ []
kept (first ∷ others) number digest = []

-- one entry more, behind the others, in the line of this number
abbrev pub push : ℕ → Entry → Sheet → Sheet
push number (entry.Prefix given) sheet = record sheet { prefixes = sheet.prefixes ++ given ∷ [] }
push number (entry.Code code) sheet = record sheet { digest_codes = sheet.digest_codes ++ code ∷ [] }
push number (entry.Kt threshold) sheet = record sheet { kts = sheet.kts ++ threshold ∷ [] }
push number (entry.Nt threshold) sheet = record sheet { nts = sheet.nts ++ threshold ∷ [] }
push number (entry.Key key) sheet = record sheet { keys = sheet.keys ++ key ∷ [] }
push number (entry.Next digest) sheet = record sheet { nexts = sheet.nexts ++ digest ∷ []; promises = sheet.promises ++ kept sheet.reuses number digest }
push number (entry.Cut key) sheet = record sheet { cuts = sheet.cuts ++ key ∷ [] }
push number (entry.Add key) sheet = record sheet { adds = sheet.adds ++ key ∷ [] }
push number (entry.Bt toad) sheet = record sheet { toads = sheet.toads ++ toad ∷ [] }
push number (entry.Trait text) sheet = record sheet { traits = sheet.traits ++ text ∷ [] }
push number (entry.Seal tree) sheet = record sheet { seals = sheet.seals ++ tree ∷ [] }
push number (entry.Di prefix) sheet = record sheet { delegators = sheet.delegators ++ prefix ∷ [] }
push number (entry.Sign slot) sheet = record sheet { slots = sheet.slots ++ slot ∷ [] }
push number entry.Reuse sheet = record sheet { reuses = sheet.reuses ++ tt ∷ [] }

-- what a draft holds
abbrev pub sheet : Draft → Sheet
sheet draft = record {
  prefixes = option_to_list draft.prefix;
  digest_codes = option_to_list draft.code;
  kts = option_to_list draft.kt;
  nts = option_to_list draft.nt;
  keys = draft.keys;
  nexts = draft.next;
  cuts = draft.cuts;
  adds = draft.adds;
  toads = option_to_list draft.toad;
  traits = draft.traits;
  seals = draft.anchors;
  delegators = option_to_list draft.delegator;
  slots = draft.signers;
  promises = draft.promises;
  reuses = option_to_list draft.reuse;
}

-- the text's first line, of this number, spells one entry and no other, which comes to the sheet
pub record TakesLine (kind : Kind) (number : ℕ) (text rest : List ℕ) (old new : Sheet) : Type 0 where
  pub is : Entry
  pub line : List ℕ
  pub first : HasLine text line rest
  pub spells : IsLine kind line is
  pub one : (other : Entry) → IsLine kind line other → other ≡ is
  pub pushed : new ≡ push number is old

-- no entry that may come to the sheet stands in the text's first line
abbrev pub IsRefusedLine : Kind → ℕ → List ℕ → Sheet → Type 0
IsRefusedLine kind number text old = (is : Entry) (line rest : List ℕ) → HasLine text line rest → IsLine kind line is → ¬ IsOnce (push number is old)
