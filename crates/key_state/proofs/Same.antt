-- The tests of equality of keys, signatures and identifiers decide equality.
use Rattle.std.proofs.Common.{◌≡◌, ℕ, true, refl, ap, arith}
use Rattle.std.specs.Prelude.{bytes_eq, ◌==◌}
use Rattle.std.specs.Cmp.Lexicographic.{bytes_decides}
use Rattle.std.proofs.lemmas.Bool.Decides.{Decides-eqb}
use Rattle.std.proofs.lemmas.Bool.{and_parts, and_from}
use Rattle.cesr_codes.specs.Spelling.{key_code, digest_code}
use Rattle.cesr_codes.specs.declared.digest.DigestCode.{DigestCode}
use Rattle.cesr_codes.specs.declared.digest.DigestCode.TheVariants.{Blake3, Sha256}
use Rattle.cesr_codes.specs.declared.prefix.Prefix.{Prefix}
use Rattle.cesr_codes.specs.declared.prefix.Prefix.TheVariants.{Basic, Said}
use Rattle.cesr_codes.specs.declared.key.Key.{Key}
use Rattle.cesr_codes.specs.declared.key.KeyCode.{KeyCode}
use Rattle.cesr_codes.specs.declared.key.KeyCode.TheVariants.{Fixed, Rotating}
use Rattle.cesr_codes.specs.declared.sig.Sig.{Sig}
use Rattle.key_state.specs.Same.{same_key, same_sig, same_prefix}

-- numbers
pub numbers : (m n : ℕ) → (m == n) ≡ true → m ≡ n
numbers m n h = (Decides-eqb m n).0 h

pub number_itself : (n : ℕ) → (n == n) ≡ true
number_itself n = (Decides-eqb n n).1 refl

one_code : (c d : KeyCode) → key_code c ≡ key_code d → c ≡ d
one_code Fixed Fixed h = refl
one_code Fixed Rotating h = absurd (omega (arith, h))
one_code Rotating Fixed h = absurd (omega (arith, h))
one_code Rotating Rotating h = refl

pub same_key_is : (k l : Key) → same_key k l ≡ true → k ≡ l
same_key_is k l h =
    let parts = and_parts (key_code k.code == key_code l.code) (bytes_eq k.raw l.raw) h in
    let code = one_code k.code l.code (numbers _ _ parts.0) in
    let raw = (bytes_decides k.raw l.raw).0 parts.1 in
    λ i. record { code = code i; raw = raw i }

pub same_key_itself : (k : Key) → same_key k k ≡ true
same_key_itself k = and_from _ _ (number_itself (key_code k.code)) ((bytes_decides k.raw k.raw).1 refl)

pub same_sig_is : (s t : Sig) → same_sig s t ≡ true → s ≡ t
same_sig_is s t h = let raw = (bytes_decides s.raw t.raw).0 h in λ i. record { raw = raw i }

pub same_sig_itself : (s : Sig) → same_sig s s ≡ true
same_sig_itself s = (bytes_decides s.raw s.raw).1 refl

one_digest_code : (c d : DigestCode) → digest_code c ≡ digest_code d → c ≡ d
one_digest_code Blake3 Blake3 h = refl
one_digest_code Blake3 Sha256 h = absurd (omega (arith, h))
one_digest_code Sha256 Blake3 h = absurd (omega (arith, h))
one_digest_code Sha256 Sha256 h = refl

pub same_prefix_itself : (p : Prefix) → same_prefix p p ≡ true
same_prefix_itself (Basic k) = same_key_itself k
same_prefix_itself (Said d) = and_from _ _ (number_itself (digest_code d.code)) ((bytes_decides d.raw d.raw).1 refl)

pub same_prefix_is : (p q : Prefix) → same_prefix p q ≡ true → p ≡ q
same_prefix_is (Basic k) (Basic l) h = ap (λ k. Basic k) (same_key_is k l h)
same_prefix_is (Basic k) (Said e) h = cc
same_prefix_is (Said d) (Basic l) h = cc
same_prefix_is (Said d) (Said e) h =
    let parts = and_parts (digest_code d.code == digest_code e.code) (bytes_eq d.raw e.raw) h in
    let code = one_digest_code d.code e.code (numbers _ _ parts.0) in
    let raw = (bytes_decides d.raw e.raw).0 parts.1 in
    λ i. Said (record { code = code i; raw = raw i })
