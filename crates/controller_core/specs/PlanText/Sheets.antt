-- What entries give: the values of each name, in order.
use Rattle.std.specs.Prelude.{ℕ, ◌≤◌, List, length, Option, Some, None, ⊤, is_some, option_map}
use Rattle.std.specs.List.{before_first, enumerate_from, filter_map}
use Rattle.cesr_codes.specs.declared.digest.Digest.{Digest}
use Rattle.cesr_codes.specs.declared.digest.DigestCode.{DigestCode}
use Rattle.cesr_codes.specs.declared.key.Key.{Key}
use Rattle.cesr_codes.specs.declared.prefix.Prefix.{Prefix}
use Rattle.json_tree.specs.declared.tree.Tree.{Tree}
use Rattle.sith.specs.declared.threshold.Threshold.{Threshold}
use Rattle.controller_core.specs.declared.controller_core.slot.Slot.{Slot}
use Rattle.controller_core.specs.declared.plan_text.given_prefix.GivenPrefix.{GivenPrefix}
use Rattle.controller_core.specs.declared.plan_text.entry.Entry.{Entry}
use Rattle.controller_core.specs.declared.plan_text.entry.Entry.TheVariants as entry
use Rattle.controller_core.specs.declared.plan_text.promise.Promise.{Promise}

pub record Sheet : Type 0 where
  pub prefixes : List GivenPrefix
  pub digest_codes : List DigestCode
  pub kts : List Threshold
  pub nts : List Threshold
  pub keys : List Key
  pub nexts : List Digest
  pub cuts : List Key
  pub adds : List Key
  pub toads : List ℕ
  pub traits : List (List ℕ)
  pub seals : List Tree
  pub delegators : List Prefix
  pub slots : List Slot
  pub promises : List Promise
  pub reuses : List ⊤

-- the value that an entry of one name has
abbrev pub prefix_in : Entry → Option GivenPrefix
prefix_in (entry.Prefix given) = Some given
prefix_in _ = None

abbrev pub code_in : Entry → Option DigestCode
code_in (entry.Code code) = Some code
code_in _ = None

abbrev pub kt_in : Entry → Option Threshold
kt_in (entry.Kt threshold) = Some threshold
kt_in _ = None

abbrev pub nt_in : Entry → Option Threshold
nt_in (entry.Nt threshold) = Some threshold
nt_in _ = None

abbrev pub key_in : Entry → Option Key
key_in (entry.Key key) = Some key
key_in _ = None

abbrev pub next_in : Entry → Option Digest
next_in (entry.Next digest) = Some digest
next_in _ = None

abbrev pub cut_in : Entry → Option Key
cut_in (entry.Cut key) = Some key
cut_in _ = None

abbrev pub add_in : Entry → Option Key
add_in (entry.Add key) = Some key
add_in _ = None

abbrev pub toad_in : Entry → Option ℕ
toad_in (entry.Bt toad) = Some toad
toad_in _ = None

abbrev pub trait_in : Entry → Option (List ℕ)
trait_in (entry.Trait text) = Some text
trait_in _ = None

abbrev pub seal_in : Entry → Option Tree
seal_in (entry.Seal tree) = Some tree
seal_in _ = None

abbrev pub delegator_in : Entry → Option Prefix
delegator_in (entry.Di prefix) = Some prefix
delegator_in _ = None

abbrev pub slot_in : Entry → Option Slot
slot_in (entry.Sign slot) = Some slot
slot_in _ = None

abbrev pub reuse_in : Entry → Option ⊤
reuse_in entry.Reuse = Some tt
reuse_in _ = None

-- the promise of a next key that the entry of a line is
abbrev pub promise_in : ℕ × Entry → Option Promise
promise_in line = option_map (λ digest. record { line = line.0; digest = digest }) (next_in line.1)

-- the promises that stand before a line `reuse yes`, each with its line, where the first entry stands in this one
abbrev pub promises_from : ℕ → List Entry → List Promise
promises_from number entries = filter_map promise_in (enumerate_from number (before_first (λ is. is_some (reuse_in is)) entries))

-- the values of the entries of each name, in order; the first entry stands in line 2, behind the kind's
abbrev pub sheet_of : List Entry → Sheet
sheet_of entries = record {
  prefixes = filter_map prefix_in entries;
  digest_codes = filter_map code_in entries;
  kts = filter_map kt_in entries;
  nts = filter_map nt_in entries;
  keys = filter_map key_in entries;
  nexts = filter_map next_in entries;
  cuts = filter_map cut_in entries;
  adds = filter_map add_in entries;
  toads = filter_map toad_in entries;
  traits = filter_map trait_in entries;
  seals = filter_map seal_in entries;
  delegators = filter_map delegator_in entries;
  slots = filter_map slot_in entries;
  promises = promises_from 2 entries;
  reuses = filter_map reuse_in entries;
}

-- each name that isn't of a list comes at most once
pub record IsOnce (sheet : Sheet) : Type 0 where
  pub prefix : length sheet.prefixes ≤ 1
  pub code : length sheet.digest_codes ≤ 1
  pub kt : length sheet.kts ≤ 1
  pub nt : length sheet.nts ≤ 1
  pub toad : length sheet.toads ≤ 1
  pub delegator : length sheet.delegators ≤ 1
  pub reuse : length sheet.reuses ≤ 1
