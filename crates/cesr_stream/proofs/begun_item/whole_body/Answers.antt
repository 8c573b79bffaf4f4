use Rattle.std.proofs.Common.{◌∙◌, sym, subst}
use Rattle.cesr_stream.specs.declared.item.Item.TheVariants.{Body}
use Rattle.cesr_stream.specs.Begun.{IsItemAt, sized_part}
use Rattle.cesr_stream.proofs.BegunItems.{body_whole}
use Rattle.cesr_stream.proofs.begun_item.whole_body.Goals as goal

pub returns-clause-ok : goal.returns-clause-ok
returns-clause-ok c =
    let bytes = c.args.bytes.now in
    subst (λ text. IsItemAt (sized_part c.args.size bytes) bytes (Body text, c.args.size)) (sym (c.from_vec-body.ensures ∙ c.in_ok-from_slice.ensures.items))
    (body_whole bytes c.args.size c.requires.read c.requires.there)
