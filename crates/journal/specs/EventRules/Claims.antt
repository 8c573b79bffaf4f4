-- Which claims on an event are good, by what verifiers say of their signatures.
use Rattle.std.specs.Prelude.{Bool, false, ◌&&◌, Option, Some, None}
use Rattle.cesr_codes.specs.declared.indexed_sig.IndexedSig.{IndexedSig}
use Rattle.cesr_codes.specs.declared.key.Key.{Key}
use Rattle.cesr_codes.specs.declared.sig.Sig.{Sig}
use Rattle.journal.specs.declared.journal.claim.Claim.{Claim}
use Rattle.journal.specs.declared.journal.claim.Claim.TheVariants.{Controller, Witness, Couple}
use Rattle.journal.specs.Journal.History.{claimed_key, claimed_sig}
use Rattle.key_state.specs.Exposure.{Rules}
use Rattle.key_state.specs.Same.{same_key}

-- a verifier says yes of the key's signature, where there is a key
abbrev pub is_yes : (Key → Sig → Bool) → Option Key → Sig → Bool
is_yes says None sig = false
is_yes says (Some key) sig = says key sig

-- the claim's signature has a yes, by the rules of its event
abbrev pub is_good : (Key → Sig → Bool) → Rules → Claim → Bool
is_good says rules c = is_yes says (claimed_key rules c) (claimed_sig c)

-- the claim is a good signature of the controller that passes a test
abbrev pub is_held_so : (Key → Sig → Bool) → Rules → (IndexedSig → Bool) → Claim → Bool
is_held_so says rules test (Controller s) = is_good says rules (Controller s) && test s
is_held_so says rules test (Witness s) = false
is_held_so says rules test (Couple key sig) = false

-- the claim is a signature of the controller that passes a test
abbrev pub is_held_as : (IndexedSig → Bool) → Claim → Bool
is_held_as test (Controller s) = test s
is_held_as test (Witness s) = false
is_held_as test (Couple key sig) = false

-- the signature passes a test, where there is one
abbrev pub passes : (IndexedSig → Bool) → Option IndexedSig → Bool
passes test None = false
passes test (Some s) = test s

-- it is this key, where there is one
abbrev pub has_this : Option Key → Key → Bool
has_this None key = false
has_this (Some held) key = same_key held key

-- the key passes a test, where there is one
abbrev pub is_so : (Key → Bool) → Option Key → Bool
is_so test None = false
is_so test (Some key) = test key
