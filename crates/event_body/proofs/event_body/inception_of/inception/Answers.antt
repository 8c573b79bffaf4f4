use Rattle.std.proofs.Common.{◌≡◌, ◌∷◌, arith, subst, ◌∙◌}
use Rattle.sith.specs.Thresholds.{Spells}
use Rattle.event_body.specs.BodyFields.Forms.{number_value}
use Rattle.event_body.specs.EventBody.Spelling.{delegator_values}
use Rattle.event_body.proofs.EventBodyLemmas.Values.{strings_held, values_held, zero_written}
use Rattle.event_body.proofs.event_body.inception_of.inception.Goals as goal

pub returns-clause-ranges : goal.returns-clause-ranges
returns-clause-ranges c =
    let set = c.in_ok-set.ensures.values in
    let from_traits = c.requires.forms.1.1.1.1.1.1.1.1.1 in
    record {
      said_held = c.digest_in.ensures.valid;
      prefix_held = c.prefix_in.ensures.valid;
      kt_read = set.kt_read;
      kt_spelled = subst (Spells c.in_ok-set.set.kt) set.kt_is set.kt_spells;
      keys_held = set.keys_held;
      nt_read = set.nt_read;
      nt_spelled = subst (Spells c.in_ok-set.set.nt) set.nt_is set.nt_spells;
      next_held = set.next_held;
      toad_held = omega arith;
      list_held = c.in_ok-list.ensures.valid.0;
      list_fixed = c.in_ok-list.ensures.valid.1;
      traits_held = strings_held _ c.in_ok-traits.traits from_traits.0 c.in_ok-traits.ensures;
      anchors_held = values_held _ c.in_ok-anchors.anchors from_traits.1.0 c.in_ok-anchors.ensures;
      delegator_held = c.requires.delegator;
    }

pub returns-clause-parts : goal.returns-clause-parts
returns-clause-parts c =
    let set = c.in_ok-set.ensures.values in
    let first : c.args.values.now.first.now ≡ number_value 0 = c.requires.forms.1.1.0 ∙ zero_written in
    λ i. c.digest_in.ensures.value i ∷ c.prefix_in.ensures.value i ∷ first i ∷ set.kt_is i ∷ set.keys_are i ∷ set.nt_is i ∷ set.next_are i ∷ c.number.ensures i ∷ c.in_ok-list.ensures.value i
    ∷ c.in_ok-traits.ensures i ∷ c.in_ok-anchors.ensures i ∷ delegator_values c.args.delegator
