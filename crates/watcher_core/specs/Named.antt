-- The evidence of bodies by what a core answers of their numbers.
use Rattle.std.specs.Prelude.{◌≡◌, ℕ, List, [], ◌∷◌, ◌++◌, flat_map, All, Option, Some, None}
use Rattle.cesr_codes.specs.declared.indexed_sig.IndexedSig.{IndexedSig}
use Rattle.cesr_codes.specs.Indexed.{IsIndexed}
use Rattle.cesr_stream.specs.Written.{item_text}
use Rattle.key_state.specs.Same.{distinct}
use Rattle.journal.specs.Journal.Replies.{same_indexed}
use Rattle.journal.specs.declared.journal.body.Body.{Body}
use Rattle.validator_core.specs.ValidatorCore.View.{CoreView}
use Rattle.validator_core.specs.ValidatorCore.Signatures.{good_on}
use Rattle.watcher_core.specs.Evidence.{items_with}

-- the good signatures that the core answers, each at its first coming
abbrev pub firsts_on : CoreView → Body → List IndexedSig
firsts_on core b = distinct same_indexed (good_on core b)

-- the text of a body with them
abbrev pub text_on : CoreView → Body → List ℕ
text_on core b = flat_map item_text (items_with b.bytes (firsts_on core b))

-- the text of the bodies comes behind what was there, and the raw bytes of their signatures are bytes
pub record PutsBodies (core : CoreView) (bodies : List Body) (old new : List ℕ) : Type 0 where
  pub text : new ≡ old ++ flat_map (text_on core) bodies
  pub raw : All (λ b. All IsIndexed (firsts_on core b)) bodies

-- the body, where there is one
abbrev pub PutsBody : CoreView → Option Body → List ℕ → List ℕ → Type 0
PutsBody core None old new = new ≡ old
PutsBody core (Some b) old new = PutsBodies core (b ∷ []) old new
