use Rattle.std.proofs.Common.{◌≡◌, refl, subst}
use Rattle.lists.specs.KeriSpecs.Shown.{Puts}
use Rattle.cesr_stream.specs.Domains.{item_in_domain}
use Rattle.cesr_stream.specs.declared.item.Item.{Item}
use Rattle.cesr_stream.specs.declared.item.Item.TheVariants.{Body, Group as GroupItem, Wrapped}
use Rattle.cesr_binary.specs.BinaryDomain.{binary_of}
use Rattle.cesr_binary.specs.Wire.{item_binary}
use Rattle.cesr_binary.proofs.Wires.{read_binary, same_binary}
use Rattle.cesr_binary.proofs.write.write_binary.Goals as goal

in_domain : (item : Item) → item_in_domain binary_of item ≡ item_binary item
in_domain (Body bytes) = refl
in_domain (GroupItem group) = refl
in_domain (Wrapped groups) = refl

pub returns-clause-written : goal.returns-clause-written
returns-clause-written g c =
    subst (Puts (g.S.Sink.written c.args.sink.now) (g.S.Sink.written c.write_in_domain.new.sink) c.write_in_domain.result)
    (in_domain c.args.item.now) c.write_in_domain.ensures.written

pub returns-clause-read : goal.returns-clause-read
returns-clause-read g c = λ limit begun rest valid may. read_binary limit begun c.args.item.now rest valid c.requires may

pub returns-clause-only : goal.returns-clause-only
returns-clause-only g c = λ other valid other_valid spelled. same_binary c.args.item.now other valid other_valid c.requires spelled
