-- The keys of made logs, and the digests that commit to them (own).
use Rattle.std.specs.Prelude.{ℕ, List, ◌++◌, codes}
use Rattle.std.specs.Fmt.{decimal}
use Rattle.sha2.specs.Sha256.{sha256}
use Rattle.cesr_codes.specs.Spelling.{key_text}
use Rattle.cesr_codes.specs.declared.digest.Digest.{Digest}
use Rattle.cesr_codes.specs.declared.digest.DigestCode.TheVariants.{Blake3}
use Rattle.cesr_codes.specs.declared.key.Key.{Key}
use Rattle.cesr_codes.specs.declared.key.KeyCode.TheVariants.{Fixed, Rotating}
use Rattle.said_digest.specs.Digests.{digest_of}

-- a word and three decimal numbers, with single spaces
abbrev pub key_name : List ℕ → ℕ → ℕ → ℕ → List ℕ
key_name word seed log number = word ++ (codes " " ++ (decimal seed ++ (codes " " ++ (decimal log ++ (codes " " ++ decimal number)))))

-- the signing key of a number in a log: its raw bytes are the SHA2-256 of its name
abbrev pub log_key : ℕ → ℕ → ℕ → Key
log_key seed log number = record { code = Rotating; raw = sha256 (key_name (codes "key") seed log number) }

-- the witness of a number, whose key can't be rotated
abbrev pub log_witness : ℕ → ℕ → ℕ → Key
log_witness seed log number = record { code = Fixed; raw = sha256 (key_name (codes "wit") seed log number) }

-- the digest of a signing key's 44 characters, by which an event names it before it signs
abbrev pub key_digest : ℕ → ℕ → ℕ → Digest
key_digest seed log number = digest_of Blake3 (key_text (log_key seed log number))
