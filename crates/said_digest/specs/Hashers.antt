-- What the hasher of a code holds.
use Rattle.std.specs.Prelude.{ℕ, List}
use Rattle.blake3_hash.specs.Hasher as blake3
use Rattle.sha2.specs.Hashers.{Holds256}
use Rattle.cesr_codes.specs.declared.digest.DigestCode.{DigestCode}
use Rattle.cesr_codes.specs.declared.digest.DigestCode.TheVariants.{Blake3, Sha256}
use Rattle.said_digest.specs.declared.coded_hasher.CodedHasher.{CodedHasher}
use Rattle.said_digest.specs.declared.coded_hasher.CodedHasher.TheVariants.{Blake3 as Blake3Hasher, Sha256 as Sha256Hasher}

-- how many bytes the hasher was given, where their number is bounded; that of SHA2-256 takes any
abbrev pub counted : CodedHasher → ℕ
counted (Blake3Hasher hasher) = blake3.total hasher
counted (Sha256Hasher hasher) = 0

-- it is the hasher of the code, and holds the bytes
abbrev pub Holds : DigestCode → CodedHasher → List ℕ → Type 0
Holds Blake3 (Blake3Hasher hasher) bytes = blake3.Holds hasher bytes
Holds Sha256 (Sha256Hasher hasher) bytes = Holds256 hasher bytes
Holds Blake3 (Sha256Hasher hasher) bytes = ⊥
Holds Sha256 (Blake3Hasher hasher) bytes = ⊥
