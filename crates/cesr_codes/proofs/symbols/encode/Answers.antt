use Rattle.std.proofs.Common.{◌-◌, length, drop, refl, arith, ◌∙◌, length-drop}
use Rattle.std.proofs.lemmas.List.{take_all}
use Rattle.cesr_codes.proofs.Groups.{encoded_last}
use Rattle.cesr_codes.proofs.symbols.encode.Goals as goal

pub returns : goal.returns
returns c =
    c.copy_from_slice.ensures.after
    ∙ take_all _ (drop (88 - length c.args.out.now) c.encode_groups-symbols.result) (omega (arith, length-drop (88 - length c.args.out.now) c.encode_groups-symbols.result, c.encode_groups-symbols.type_inv))
    ∙ encoded_last 22 (length c.args.out.now) c.args.raw.now c.with_zeros.result c.encode_groups-symbols.result (refl, λ i. (c.type_inv.raw i).fits) c.requires.bytes c.requires.symbols c.with_zeros.ensures c.encode_groups-symbols.ensures
