use Rattle.std.proofs.Common.{◌≡◌, ap, ◌∙◌}
use Rattle.std.specs.BTreeSet.{contains}
use Rattle.cesr_codes.specs.Spelling.{key_text}
use Rattle.cesr_codes.specs.declared.digest.DigestCode.TheVariants.{Blake3, Sha256}
use Rattle.said_digest.specs.Digests.{digest_of}
use Rattle.controller_core.specs.PlanText.Drafts.{digest_cmp}
use Rattle.controller_core.proofs.PlanTextLemmas.Reuse.{both}
use Rattle.controller_core.proofs.plan_text.reuse.put_commitments.Goals as goal

pub returns : goal.returns
returns c =
    let one : c.digest_of.result ≡ digest_of Blake3 (key_text c.args.key.now) = c.digest_of.ensures.digest ∙ ap (digest_of Blake3) c.write.ensures in
    let other : c.digest_of-2.result ≡ digest_of Sha256 (key_text c.args.key.now) = c.digest_of-2.ensures.digest ∙ ap (digest_of Sha256) c.write.ensures in
    both c.args.key.now c.digest_of.result c.digest_of-2.result one other (contains digest_cmp c.args.known.now) (contains digest_cmp c.put.new.known) (contains digest_cmp c.put-2.new.known)
    c.in_ok-put.ensures.put c.in_ok-put-2.ensures.put
