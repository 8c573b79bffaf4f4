-- How primitives are spelled (CESR: code table, and conversion by left-padding).
use Rattle.std.specs.Prelude.{ℕ, ◌^◌, ◌<◌, List, ◌∷◌, ◌++◌, codes}
use Rattle.lists.specs.KeriSpecs.Base64.{base64_text, whole_number, AreBytes}
use Rattle.cesr_codes.specs.declared.digest.DigestCode.{DigestCode}
use Rattle.cesr_codes.specs.declared.digest.DigestCode.TheVariants.{Blake3, Sha256}
use Rattle.cesr_codes.specs.declared.digest.Digest.{Digest}
use Rattle.cesr_codes.specs.declared.key.KeyCode.{KeyCode}
use Rattle.cesr_codes.specs.declared.key.KeyCode.TheVariants.{Fixed, Rotating}
use Rattle.cesr_codes.specs.declared.key.Key.{Key}
use Rattle.cesr_codes.specs.declared.prefix.Prefix.{Prefix}
use Rattle.cesr_codes.specs.declared.prefix.Prefix.TheVariants.{Basic, Said}
use Rattle.cesr_codes.specs.declared.number.Number.{Number}
use Rattle.cesr_codes.specs.declared.sig.Sig.{Sig}

-- a code of one character, and the 43 digits of 32 raw bytes read as one number
abbrev pub primitive_text : ℕ → List ℕ → List ℕ
primitive_text code raw = code ∷ base64_text 43 (whole_number raw)

-- `B` is an Ed25519 key that can't be rotated, `D` one that can
abbrev pub key_code : KeyCode → ℕ
key_code Fixed = 66
key_code Rotating = 68

abbrev pub key_text : Key → List ℕ
key_text key = primitive_text (key_code key.code) key.raw

-- a key has 32 raw bytes
abbrev pub IsKey : Key → Type 0
IsKey key = AreBytes 32 key.raw

-- `E` is a Blake3-256 digest, `I` a SHA2-256 digest
abbrev pub digest_code : DigestCode → ℕ
digest_code Blake3 = 69
digest_code Sha256 = 73

abbrev pub digest_text : Digest → List ℕ
digest_text digest = primitive_text (digest_code digest.code) digest.raw

-- a digest has 32 raw bytes
abbrev pub IsDigest : Digest → Type 0
IsDigest digest = AreBytes 32 digest.raw

abbrev pub prefix_text : Prefix → List ℕ
prefix_text (Basic key) = key_text key
prefix_text (Said digest) = digest_text digest

abbrev pub IsPrefix : Prefix → Type 0
IsPrefix (Basic key) = IsKey key
IsPrefix (Said digest) = IsDigest digest

-- `0B` is an Ed25519 signature: 86 digits of 64 raw bytes
abbrev pub sig_text : Sig → List ℕ
sig_text sig = codes "0B" ++ base64_text 86 (whole_number sig.raw)

-- a signature has 64 raw bytes
abbrev pub IsSig : Sig → Type 0
IsSig sig = AreBytes 64 sig.raw

-- `0A` is a number: 22 digits
abbrev pub number_text : Number → List ℕ
number_text number = codes "0A" ++ base64_text 22 number.value

-- a number has 128 bits
abbrev pub IsNumber : Number → Type 0
IsNumber number = number.value < 2 ^ 128
