use Rattle.cesr_stream.specs.Front.{couple_part}
use Rattle.cesr_stream.proofs.Fronts.{whole_stays, holds_couple}
use Rattle.cesr_stream.proofs.element.CoupleElement.at_front.Goals as goal

pub returns-in-Ok-clause-stays : goal.returns-in-Ok-clause-stays
returns-in-Ok-clause-stays c = λ more.
    let found = rw c.in-Ok.is at c.read_pair.ensures in
    whole_stays 132 couple_part holds_couple c.args.room c.args.bytes.now more c.in-Ok.length found.0
