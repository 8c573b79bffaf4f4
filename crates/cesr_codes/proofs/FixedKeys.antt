-- Keys that can't be rotated are the same where they are as keys.
use Rattle.std.proofs.Common.{◌≡◌, ℕ, length, Ok, Result, sym, ap, ◌∙◌, subst}
use Rattle.std.proofs.Props.{props}
use Rattle.cesr_codes.specs.declared.code_fault.CodeFault.{CodeFault}
use Rattle.cesr_codes.specs.declared.fixed_key.FixedKey.{FixedKey}
use Rattle.cesr_codes.specs.declared.key.Key.{Key}
use Rattle.cesr_codes.specs.declared.key.KeyCode.{KeyCode}
use Rattle.cesr_codes.specs.declared.key.KeyCode.TheVariants.{Fixed}
use Rattle.cesr_codes.specs.Spelling.{key_text}
use Rattle.cesr_codes.proofs.Same.{length-key_text}

made : (key : Key) → key.code ≡ Fixed → FixedKey
made key fixed = record { key = key; fixed = fixed }

pub one_proof : (code : KeyCode) → IsProp (code ≡ Fixed)
one_proof code = hlevel props

same_made : (p q : Key) (f : p.code ≡ Fixed) (g : q.code ≡ Fixed) → p ≡ q → made p f ≡ made q g
same_made p q f g e = subst (λ (x : Key). (h : x.code ≡ Fixed) → made p f ≡ made x h) e (λ h. ap (made p) (one_proof p.code f h)) g

pub same_fixed : (a b : FixedKey) → a.key ≡ b.key → a ≡ b
unfolding made
same_fixed a b e = same_made a.key b.key a.fixed b.fixed e

-- what is read is that key, if it is as a key
pub same_read : (found value : FixedKey) (count : ℕ) → ◌≡◌ {A = Result (Key × ℕ) CodeFault} (Ok (found.key, count)) (Ok (value.key, 44))
    → ◌≡◌ {A = Result (FixedKey × ℕ) CodeFault} (Ok (found, count)) (Ok (value, length (key_text value.key)))
same_read found value count e =
    let both : ◌≡◌ {A = Key × ℕ} (found.key, count) (value.key, 44) = cc e in
    let same = same_fixed found value (ap (λ (p : Key × ℕ). p.0) both) in
    let sized = ap (λ (p : Key × ℕ). p.1) both ∙ sym (length-key_text value.key) in
    λ i. Ok (same i, sized i)
