use Rattle.std.proofs.Common.{◌∷◌, [], arith, subst}
use Rattle.sith.specs.Thresholds.{Spells}
use Rattle.event_body.proofs.EventBodyLemmas.Values.{values_held}
use Rattle.event_body.proofs.event_body.rotation_of.rotation.Goals as goal

pub returns-clause-ranges : goal.returns-clause-ranges
returns-clause-ranges c =
    let set = c.in_ok-set.ensures.values in
    let from_anchors = c.requires.forms.1.1.1.1.1.1.1.1.1.1.1 in
    record {
      said_held = c.digest_in.ensures.valid;
      prefix_held = c.prefix_in.ensures.valid;
      sn_held = omega arith;
      prior_held = c.digest_in-2.ensures.valid;
      kt_read = set.kt_read;
      kt_spelled = subst (Spells c.in_ok-set.set.kt) set.kt_is set.kt_spells;
      keys_held = set.keys_held;
      nt_read = set.nt_read;
      nt_spelled = subst (Spells c.in_ok-set.set.nt) set.nt_is set.nt_spells;
      next_held = set.next_held;
      toad_held = omega arith;
      cuts_held = c.in_ok-cuts.ensures.valid.0;
      cuts_fixed = c.in_ok-cuts.ensures.valid.1;
      adds_held = c.in_ok-adds.ensures.valid.0;
      adds_fixed = c.in_ok-adds.ensures.valid.1;
      anchors_held = values_held _ c.in_ok-anchors.anchors from_anchors.0 c.in_ok-anchors.ensures;
    }

pub returns-clause-parts : goal.returns-clause-parts
returns-clause-parts c =
    let set = c.in_ok-set.ensures.values in
    λ i. c.digest_in.ensures.value i ∷ c.prefix_in.ensures.value i ∷ c.later_number.ensures i ∷ c.digest_in-2.ensures.value i ∷ set.kt_is i ∷ set.keys_are i ∷ set.nt_is i ∷ set.next_are i
    ∷ c.number.ensures i ∷ c.in_ok-cuts.ensures.value i ∷ c.in_ok-adds.ensures.value i ∷ c.in_ok-anchors.ensures i ∷ []
