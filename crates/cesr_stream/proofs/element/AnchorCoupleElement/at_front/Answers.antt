use Rattle.cesr_stream.specs.Front.{anchor_part}
use Rattle.cesr_stream.proofs.Fronts.{whole_stays, holds_anchor}
use Rattle.cesr_stream.proofs.element.AnchorCoupleElement.at_front.Goals as goal

pub returns-in-Ok-clause-stays : goal.returns-in-Ok-clause-stays
returns-in-Ok-clause-stays c = λ more.
    let found = rw c.in-Ok.is at c.read_pair.ensures in
    whole_stays 68 anchor_part holds_anchor c.args.room c.args.bytes.now more c.in-Ok.length found.0
