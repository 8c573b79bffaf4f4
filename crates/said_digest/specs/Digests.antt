-- Digests by their code.
use Rattle.std.specs.Prelude.{ℕ, List}
use Rattle.blake3_hash.specs.Tree.{blake3}
use Rattle.sha2.specs.Sha256.{sha256}
use Rattle.cesr_codes.specs.declared.digest.Digest.{Digest}
use Rattle.cesr_codes.specs.declared.digest.DigestCode.{DigestCode}
use Rattle.cesr_codes.specs.declared.digest.DigestCode.TheVariants.{Blake3, Sha256}
use Rattle.said_digest.specs.Replaced.{replaced}

-- the function of each code (the BLAKE3 specification; FIPS 180-4)
abbrev pub raw_digest : DigestCode → List ℕ → List ℕ
raw_digest Blake3 bytes = blake3 bytes
raw_digest Sha256 bytes = sha256 bytes

-- the digest of bytes
abbrev pub digest_of : DigestCode → List ℕ → Digest
digest_of code bytes = record { code = code; raw = raw_digest code bytes }

-- the digest of bytes that hold it themselves at the places, where placeholders stand for it
-- (KERI: self-addressing identifiers)
unfoldable pub said : DigestCode → List ℕ → List ℕ → Digest
said code bytes places = digest_of code (replaced bytes places)
