-- The codes of each type and their rows of the code table, what their indices are, and that no two of one character are the same.
use Rattle.std.proofs.Common.{◌≡◌, ℕ, ◌+◌, ◌*◌, Bool, true, false, List, [], ◌∷◌, slice_index, codes, Option, None, Some, refl, lit≤}
use Rattle.lists.specs.KeriSpecs.Base64.{digit_of}
use Rattle.std.proofs.lemmas.Bool.{eqb-false}
use Rattle.cesr_codes.specs.declared.digest.DigestCode.{DigestCode}
use Rattle.cesr_codes.specs.declared.digest.DigestCode.TheVariants.{Blake3, Sha256}
use Rattle.cesr_codes.specs.declared.key.KeyCode.{KeyCode}
use Rattle.cesr_codes.specs.declared.key.KeyCode.TheVariants.{Fixed, Rotating}
use Rattle.cesr_codes.specs.declared.indexed_code.IndexedCode.{IndexedCode}
use Rattle.cesr_codes.specs.declared.indexed_code.IndexedCode.TheVariants.{Both, Current, BigBoth, BigCurrent}
use Rattle.cesr_codes.specs.Reading.{HasSizes}
use Rattle.cesr_codes.specs.Spelling.{key_code, digest_code}
use Rattle.cesr_codes.specs.Table.{Layout, layout}

abbrev pub key_layout : KeyCode → Layout
key_layout code = layout (key_code code ∷ []) 0 43 32

abbrev pub digest_layout : DigestCode → Layout
digest_layout code = layout (digest_code code ∷ []) 0 43 32

abbrev pub sig_layout : Layout
sig_layout = layout (codes "0B") 0 86 64

abbrev pub number_layout : Layout
number_layout = layout (codes "0A") 0 22 16

abbrev pub indexed_layout : IndexedCode → Layout
indexed_layout Both = layout (codes "A") 1 86 64
indexed_layout Current = layout (codes "B") 1 86 64
indexed_layout BigBoth = layout (codes "2A") 4 86 64
indexed_layout BigCurrent = layout (codes "2B") 4 86 64

abbrev pub is_big : IndexedCode → Bool
is_big Both = false
is_big Current = false
is_big BigBoth = true
is_big BigCurrent = true

-- the number of two digits of a text
abbrev two_digits : List ℕ → ℕ → ℕ
two_digits text place = digit_of (slice_index text place) * 64 + digit_of (slice_index text (place + 1))

-- the index and the other index that stand behind a code
abbrev pub AreIndices : IndexedCode → List ℕ → ℕ → Option ℕ → Type 0
AreIndices Both text index ondex = (index ≡ digit_of (slice_index text 1)) × (ondex ≡ Some index)
AreIndices Current text index ondex = (index ≡ digit_of (slice_index text 1)) × (ondex ≡ None)
AreIndices BigBoth text index ondex = (index ≡ two_digits text 2) × (ondex ≡ Some (two_digits text 4))
AreIndices BigCurrent text index ondex = (index ≡ two_digits text 2) × (ondex ≡ None)

pub number_sizes : HasSizes 16 number_layout
number_sizes = record { raw = refl; digits = refl; few = lit≤ tt; short_head = lit≤ tt }

pub sig_sizes : HasSizes 64 sig_layout
sig_sizes = record { raw = refl; digits = refl; few = lit≤ tt; short_head = lit≤ tt }

pub indexed_sizes : (code : IndexedCode) → HasSizes 64 (indexed_layout code)
indexed_sizes Both = record { raw = refl; digits = refl; few = lit≤ tt; short_head = lit≤ tt }
indexed_sizes Current = record { raw = refl; digits = refl; few = lit≤ tt; short_head = lit≤ tt }
indexed_sizes BigBoth = record { raw = refl; digits = refl; few = lit≤ tt; short_head = lit≤ tt }
indexed_sizes BigCurrent = record { raw = refl; digits = refl; few = lit≤ tt; short_head = lit≤ tt }

pub key_sizes : (code : KeyCode) → HasSizes 32 (key_layout code)
key_sizes code = record { raw = refl; digits = refl; few = lit≤ tt; short_head = lit≤ tt }

pub digest_sizes : (code : DigestCode) → HasSizes 32 (digest_layout code)
digest_sizes code = record { raw = refl; digits = refl; few = lit≤ tt; short_head = lit≤ tt }

pub same_key_code : (a b : KeyCode) → key_code a ≡ key_code b → a ≡ b
same_key_code Fixed Fixed e = refl
same_key_code Rotating Rotating e = refl
same_key_code Fixed Rotating e = absurd (eqb-false 66 68 refl e)
same_key_code Rotating Fixed e = absurd (eqb-false 68 66 refl e)

pub same_digest_code : (a b : DigestCode) → digest_code a ≡ digest_code b → a ≡ b
same_digest_code Blake3 Blake3 e = refl
same_digest_code Sha256 Sha256 e = refl
same_digest_code Blake3 Sha256 e = absurd (eqb-false 69 73 refl e)
same_digest_code Sha256 Blake3 e = absurd (eqb-false 73 69 refl e)

pub apart : (key : KeyCode) (digest : DigestCode) → key_code key ≡ digest_code digest → ⊥
apart Fixed Blake3 e = eqb-false 66 69 refl e
apart Fixed Sha256 e = eqb-false 66 73 refl e
apart Rotating Blake3 e = eqb-false 68 69 refl e
apart Rotating Sha256 e = eqb-false 68 73 refl e
