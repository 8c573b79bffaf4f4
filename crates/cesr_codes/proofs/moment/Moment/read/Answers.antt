use Rattle.cesr_codes.specs.Dates.{moment_verdict}
use Rattle.cesr_codes.specs.Moments.{moment_text, IsMoment}
use Rattle.cesr_codes.proofs.Dates.{good_moment, length-moment_text, same_moment}
use Rattle.cesr_codes.proofs.Front.{whole}
use Rattle.cesr_codes.proofs.moment.Moment.read.Goals as goal

pub returns-clause-whole : goal.returns-clause-whole
returns-clause-whole c = λ moment rest valid e.
    whole moment_verdict moment_text IsMoment same_moment good_moment c.args.bytes.now c.read_exact.result moment rest 36 c.read_exact.ensures valid (length-moment_text moment) e
