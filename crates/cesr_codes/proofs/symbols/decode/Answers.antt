use Rattle.std.proofs.Common.{◌==◌, ◌+◌, ◌-◌, ◌*◌, ◌/◌, length, sym, ap, ◌∙◌, arith}
use Rattle.std.specs.List.{list_all}
use Rattle.lists.specs.KeriSpecs.Base64.{is_character}
use Rattle.cesr_codes.proofs.Decoded.{characters-zeros, last_symbols, is_held, is_large}
use Rattle.cesr_codes.proofs.symbols.decode.Goals as goal

pub returns-then-not-decode_groups : goal.returns-then-not-decode_groups
returns-then-not-decode_groups c =
    let front = last_symbols c.args.digits.now c.with_first_symbols-symbols.result _ c.requires.symbols c.with_first_symbols-symbols.ensures c.split_at.ensures.back in
    sym (characters-zeros (4 * ((length c.args.digits.now + 3) / 4) - length c.args.digits.now) c.args.digits.now) ∙ ap (list_all is_character) (sym front) ∙ c.decode_groups.ensures.bad (cc)

pub returns-then-are_zeros : goal.returns-then-are_zeros
returns-then-are_zeros c =
    let front = last_symbols c.args.digits.now c.with_first_symbols-symbols.result _ c.requires.symbols c.with_first_symbols-symbols.ensures c.split_at.ensures.back in
    let got = c.decode_groups.ensures.decoded c.if-not-decode_groups.false in
    is_held ((length c.args.digits.now + 3) / 4) c.args.digits.now _ _ (omega arith) front got.0 got.1 (length c.args.raw.now) c.requires.bytes c.copy_from_slice.new.self c.copy_from_slice.auto.self
    (c.copy_from_slice.ensures.after ∙ c.split_at-2.ensures.back) (ap (list_all (λ byte. byte == 0)) (sym c.split_at-2.ensures.front) ∙ sym c.are_zeros.ensures ∙ c.if-are_zeros.true)

pub returns-else-are_zeros : goal.returns-else-are_zeros
returns-else-are_zeros c =
    let front = last_symbols c.args.digits.now c.with_first_symbols-symbols.result _ c.requires.symbols c.with_first_symbols-symbols.ensures c.split_at.ensures.back in
    let got = c.decode_groups.ensures.decoded c.if-not-decode_groups.false in
    is_large ((length c.args.digits.now + 3) / 4) c.args.digits.now _ _ (omega arith) front got.0 got.1 (length c.args.raw.now) c.requires.bytes c.copy_from_slice.new.self c.copy_from_slice.auto.self
    (c.copy_from_slice.ensures.after ∙ c.split_at-2.ensures.back) (ap (list_all (λ byte. byte == 0)) (sym c.split_at-2.ensures.front) ∙ sym c.are_zeros.ensures ∙ c.if-are_zeros.false)
