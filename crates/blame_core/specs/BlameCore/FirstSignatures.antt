-- Where the first good signatures of keys came.
use Rattle.std.specs.Prelude.{ℕ, Bool, ◌&&◌, nat_le, List, Option, Some, None, slice_get, if◌then◌else◌}
use Rattle.std.specs.BTreeMap.{is_at}
use Rattle.std.specs.declared.cmp.Ordering.{Ordering}
use Rattle.std.specs.declared.cmp.Ord as ord
use Rattle.cesr_codes.specs.contracts.key.KeyOrd.TheImpl as key_order
use Rattle.cesr_codes.specs.contracts.sig.SigOrd.TheImpl as sig_order
use Rattle.cesr_codes.specs.declared.key.Key.{Key}
use Rattle.cesr_codes.specs.declared.sig.Sig.{Sig}
use Rattle.key_state.specs.Same.{same_key, same_sig}
use Rattle.blame_core.specs.declared.blame_core.signed.Signed.{Signed}
use denote.Param as param

-- the orders of keys and of signatures
abbrev pub key_cmp : Key → Key → Ordering
key_cmp = param.read (ord.Ghosts.cmp {X-1 = Key}) key_order.ghosts

abbrev pub sig_cmp : Sig → Sig → Ordering
sig_cmp = param.read (ord.Ghosts.cmp {X-1 = Sig}) sig_order.ghosts

-- it is this key's signature
abbrev pub is_signed : Key → Sig → Signed → Bool
is_signed key sig s = same_key key s.key && same_sig sig s.sig

-- the lesser of two places, where there are two
abbrev pub earlier : Option ℕ → Option ℕ → Option ℕ
earlier None other = other
earlier (Some i) None = Some i
earlier (Some i) (Some j) = if nat_le i j then Some i else Some j

-- the place of a signature, if it is of this key
abbrev pub place_for : Signed → (Sig → Option ℕ) → Key → Option ℕ
place_for s place key = if is_at (key_cmp s.key) key then place s.sig else None

-- what stands at a place, where there is one
abbrev pub at_place : {X : Type 0} → List X → Option ℕ → Option X
at_place xs None = None
at_place xs (Some i) = slice_get xs i
