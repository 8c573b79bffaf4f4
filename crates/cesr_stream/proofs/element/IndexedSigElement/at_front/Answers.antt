use Rattle.cesr_codes.specs.Indexed.{indexed_text}
use Rattle.cesr_stream.specs.Front.{signature_part}
use Rattle.cesr_stream.proofs.Fronts.{holds_signature}
use Rattle.cesr_stream.proofs.ReadElements.{found_stays}
use Rattle.cesr_stream.proofs.element.IndexedSigElement.at_front.Goals as goal

pub returns-clause-stays : goal.returns-clause-stays
returns-clause-stays c = found_stays (signature_part c.args.room) (holds_signature.stays c.args.room) indexed_text c.args.bytes.now c.read_primitive.result c.read_primitive.ensures
