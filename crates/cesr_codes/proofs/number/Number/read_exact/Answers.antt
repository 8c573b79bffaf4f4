use Rattle.cesr_codes.proofs.Figures.{stands_number}
use Rattle.cesr_codes.proofs.number.Number.read_exact.Goals as goal

pub returns : goal.returns
returns c = (c.in_ok-read.ensures.judged, stands_number c.args.bytes.now c.read.new.raw c.from_be_bytes-value.result c.in_ok-read.ensures c.from_be_bytes-value.ensures)
