-- Signatures: what stands at the front, that it is good, and that it is the only one.
use Rattle.std.proofs.Common.{◌≡◌, ℕ, List, [], ◌∷◌, ◌++◌, length, codes, refl, sym, ap, ◌∙◌, arith, Some}
use Rattle.std.proofs.lemmas.Bool.{le-ltb}
use Rattle.lists.specs.KeriSpecs.Base64.{whole_number, base64_text}
use Rattle.cesr_codes.specs.declared.sig.Sig.{Sig}
use Rattle.cesr_codes.specs.Codes.{sig_layout}
use Rattle.cesr_codes.specs.Reading.{IsAtFront, IsCoded}
use Rattle.cesr_codes.specs.Spelling.{sig_text, IsSig}
use Rattle.cesr_codes.specs.Table.{good, verdict, layout_verdict, sig_layouts}
use Rattle.cesr_codes.proofs.Numbers.{bytes_low, length-base64_text}
use Rattle.cesr_codes.proofs.Front.{parts, coded_good}

pub length-sig_text : (sig : Sig) → length (sig_text sig) ≡ 88
length-sig_text sig = omega (arith, length-base64_text 86 (whole_number sig.raw))

pub stands_sig : (text : List ℕ) (sig : Sig) → IsCoded sig_layouts sig_layout text sig.raw → IsAtFront sig_text IsSig text sig 88
stands_sig text sig coded = record {
  valid = coded.whole.bytes;
  counted = sym (length-sig_text sig);
  enough = coded.enough;
  front = parts sig_layouts sig_layout text sig.raw coded;
}

sig_judged : (xs : List ℕ) → verdict sig_layouts (48 ∷ 66 ∷ xs) ≡ layout_verdict (Some sig_layout) (48 ∷ 66 ∷ xs)
sig_judged xs = rw (le-ltb (length (48 ∷ 66 ∷ xs)) 2 (omega arith)) refl

pub good_sig : (sig : Sig) (rest : List ℕ) → IsSig sig → verdict sig_layouts (sig_text sig ++ rest) ≡ good (length (sig_text sig))
good_sig sig rest valid =
    sig_judged (base64_text 86 (whole_number sig.raw) ++ rest)
    ∙ coded_good (codes "0B") [] 0 86 64 (whole_number sig.raw) rest refl refl (bytes_low 64 sig.raw valid) (omega (arith, bytes_low 64 sig.raw valid)) refl
    ∙ ap good (sym (length-sig_text sig))
