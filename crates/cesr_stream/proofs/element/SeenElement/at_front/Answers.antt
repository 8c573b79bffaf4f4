use Rattle.cesr_stream.specs.Front.{seen_part}
use Rattle.cesr_stream.proofs.Fronts.{whole_stays, holds_seen}
use Rattle.cesr_stream.proofs.element.SeenElement.at_front.Goals as goal

pub returns-in-Ok-clause-stays : goal.returns-in-Ok-clause-stays
returns-in-Ok-clause-stays c = λ more.
    let found = rw c.in-Ok.is at c.read_pair.ensures in
    whole_stays 60 seen_part holds_seen c.args.room c.args.bytes.now more c.in-Ok.length found.0
