use Rattle.cesr_codes.specs.Spelling.{digest_code}
use Rattle.cesr_codes.specs.Table.{digest_layouts}
use Rattle.cesr_codes.proofs.Basic.{stands_coded}
use Rattle.cesr_codes.proofs.digest.Digest.read_exact.Goals as goal

pub returns : goal.returns
returns c =
    let stands = stands_coded digest_layouts (digest_code c.in_ok-code.code) c.args.bytes.now c.read.new.raw c.in_ok-code.ensures in
    (c.in_ok-code.ensures.judged, record { valid = stands.valid; counted = stands.counted; enough = stands.enough; front = stands.front })
