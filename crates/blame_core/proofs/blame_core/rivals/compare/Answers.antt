use Rattle.std.proofs.Common.{refl, sym, ◌∙◌, ap}
use Rattle.std.specs.Prelude.{filter_map, slice_get}
use Rattle.std.specs.Cmp.Lexicographic.{bytes_decides}
use Rattle.event_body.specs.EventBody.Events.{prefix_of, sn_of}
use Rattle.key_state.specs.Same.{distinct, same_key}
use Rattle.blame_core.specs.BlameCore.Culprits.{culprit_of}
use Rattle.blame_core.proofs.BlameCoreLemmas.Chosen.{bytes_are, event_is}
use Rattle.blame_core.proofs.blame_core.rivals.compare.Goals as goal

pub returns : goal.returns
returns c = λ b d at there.
    let first = c.args.first.now in let second = c.args.second.now in
    let text = c.in-Some-Some.text.now in let rival = c.in-Some.rival.now in
    let mine = bytes_are (slice_get first.held c.args.one.now.number) text b c.in-Some-Some.ensures.body at in
    let its = bytes_are (slice_get second.held c.args.other.now.number) rival d c.in-Some.ensures.body there in
    let event = event_is (slice_get first.held c.args.one.now.number) c.in-Some-Some.event.now b c.in-Some-Some.ensures' at in
    let f = c.in_ok-ones.ensures b at in
    let g = c.in_ok-others.ensures d there in
    record {
      differ = λ same. (let equal = (bytes_decides text rival).1 (mine ∙ same ∙ sym its) in cc (equal, c.is_same.ensures, c.if-is_same.false));
      prefix = c.prefix.ensures ∙ ap prefix_of event;
      sn = c.sn.ensures ∙ ap sn_of event;
      one_is = refl;
      other_is = refl;
      culprits = c.in_ok-culprits.ensures ∙ (λ i. filter_map (culprit_of (c.as_slice-2.ensures i) (λ key. f key i) (λ key. g key i)) (distinct same_key (c.as_slice.ensures i)));
    }
