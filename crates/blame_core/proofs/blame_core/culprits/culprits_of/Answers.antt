use Rattle.std.proofs.Common.{◌≡◌, ◌++◌, ◌∷◌, ◌+◌, [], Bool, true, false, get_or, not, take, refl, sym, ◌∙◌, subst}
use Rattle.std.specs.BTreeSet.{contains}
use Rattle.std.proofs.lemmas.List.{take_more}
use Rattle.cesr_codes.specs.declared.key.Key.{Key}
use Rattle.cesr_codes.specs.declared.key.KeyCode.TheVariants.{Fixed}
use Rattle.key_state.specs.Same.{distinct}
use Rattle.blame_core.specs.BlameCore.Culprits.{HasKeys, culprit_of}
use Rattle.blame_core.specs.BlameCore.FirstSignatures.{key_cmp}
use Rattle.blame_core.specs.BlameCore.Signatures.{signature_by}
use Rattle.blame_core.proofs.BlameCoreLemmas.BothSigned.{new_member, old_member}
use Rattle.blame_core.proofs.BlameCoreLemmas.KeyPlaces.{set_more}
use Rattle.blame_core.proofs.blame_core.culprits.culprits_of.Goals as goal
use Rattle.blame_core.proofs.blame_core.culprits.culprits_of.Goals.{then-branch+in_ok-add_culprit, else-branch}

not_true : (b : Bool) → not b ≡ true → b ≡ false
not_true true h = cc
not_true false h = refl

not_false : (b : Bool) → not b ≡ false → b ≡ true
not_false true h = refl
not_false false h = cc

pub loop-key-init : goal.loop-key-init
unfolding distinct
loop-key-init c = record { culprits = c.new-culprits.ensures; seen = λ k. rw c.new-seen.ensures.empty refl }

pub loop-key-preserved : goal.loop-key-preserved
loop-key-preserved c =
    let f = culprit_of c.args.others.now (signature_by c.args.one.now) (signature_by c.args.other.now) in
    let ws = c.args.witnesses.now in
    let i = c.loop-key.key-index in
    let none : Key = record { code = Fixed; raw = [] } in
    let key = get_or ws i none in
    let so_far = take i ws in
    let more : take (i + 1) ws ≡ so_far ++ key ∷ [] = take_more ws i none c.loop-key-test.true in
    let was = c.loop-key.invariant in
    let known = contains key_cmp c.loop-key.seen key in
    let added = c.in_ok-insert.ensures.added in
    record {
      culprits = elim c.if-branch.branch [
        | then-branch+in_ok-add_culprit w ↦ w.culprits-is ∙ w.in_ok-add_culprit.ensures c.args.others.now c.in_ok-others.ensures
            ∙ new_member f so_far key known (was.seen key) c.loop-key.culprits was.culprits (not_true known (sym added ∙ w.if-branch.true)) (take (i + 1) ws) more
        | else-branch w ↦ w.culprits-is
            ∙ old_member f so_far key known (was.seen key) c.loop-key.culprits was.culprits (not_false known (sym added ∙ w.if-branch.false)) (take (i + 1) ws) more
      ];
      seen = subst (λ ks. HasKeys ks c.insert.new.self) (sym more) (set_more so_far key c.loop-key.seen c.insert.new.self was.seen c.in_ok-insert.ensures.updates.0);
    }
