use Rattle.cesr_codes.specs.Spelling.{digest_text, IsDigest}
use Rattle.cesr_codes.specs.Table.{digest_layouts, verdict}
use Rattle.cesr_codes.proofs.Basic.{good_digest, length-digest_text}
use Rattle.cesr_codes.proofs.Front.{whole}
use Rattle.cesr_codes.proofs.Same.{same_digest}
use Rattle.cesr_codes.proofs.digest.Digest.read.Goals as goal

pub returns-clause-whole : goal.returns-clause-whole
returns-clause-whole c = λ digest rest valid e.
    whole (verdict digest_layouts) digest_text IsDigest same_digest good_digest c.args.bytes.now c.read_exact.result digest rest 44 c.read_exact.ensures valid (length-digest_text digest) e
