use Rattle.std.proofs.Common.{◌≡◌, ◌-◌, ◌^◌, ◌<◌, ◌∷◌, length, ap, ◌∙◌, arith}
use Rattle.std.proofs.Math.Nat.{mod-eq_of_lt}
use Rattle.lists.specs.KeriSpecs.Base64.{base64_text, whole_number}
use Rattle.cesr_codes.proofs.Figures.{number-high}
use Rattle.cesr_codes.proofs.number.Number.write.Goals as goal

pub returns : goal.returns
returns c =
    let count : length c.args.out.now - 2 ≡ 22 = omega (arith, c.told-out) in
    let low : c.args.self.now.value < 256 ^ 16 = omega arith in
    c.write.ensures
    ∙ ap (λ k. 48 ∷ 65 ∷ base64_text k (whole_number c.to_be_bytes-raw.result)) count
    ∙ ap (λ n. 48 ∷ 65 ∷ base64_text 22 n) (ap whole_number c.to_be_bytes-raw.ensures ∙ number-high 16 c.args.self.now.value ∙ mod-eq_of_lt low)
