use Rattle.std.proofs.Common.{ap, length, sym, subst, eq-eqb, ◌∙◌, []}
use Rattle.sith.specs.Rules.{IsReadFor}
use Rattle.sith.proofs.Values.{list_injective}
use Rattle.event_body.specs.BodyFields.Forms.{key_value, digest_value}
use Rattle.event_body.proofs.EventBodyLemmas.Values.{length_listed}
use Rattle.event_body.proofs.event_body.key_set.key_set.Goals as goal

pub returns-clause-values : goal.returns-clause-values
returns-clause-values c = record {
  kt_is = c.in_ok-kt.ensures.value;
  kt_spells = c.in_ok-kt.ensures.spelled;
  kt_read = subst (IsReadFor c.in_ok-kt.kt) (length_listed key_value _ _ (sym c.members_in-members.ensures ∙ c.in_ok-keys.ensures.value)) c.in_ok-kt.ensures.read;
  keys_are = c.in_ok-keys.ensures.value;
  keys_held = c.in_ok-keys.ensures.valid;
  nt_is = c.in_ok-nt.ensures.value;
  nt_spells = c.in_ok-nt.ensures.spelled;
  nt_read = subst (IsReadFor c.in_ok-nt.nt) (length_listed digest_value _ _ (sym c.members_in.ensures ∙ c.in_ok-next.ensures.value)) c.in_ok-nt.ensures.read;
  next_are = c.in_ok-next.ensures.value;
  next_held = c.in_ok-next.ensures.valid;
}

pub returns-clause-thresholds : goal.returns-clause-thresholds
returns-clause-thresholds c = (
  λ none. let empty = eq-eqb _ 0 (ap length (list_injective c.members_in-members.result.now [] (sym c.members_in-members.ensures ∙ none))) in cc (empty, c.is_empty.ensures, c.if-is_empty.false),
  (c.in_ok-kt.kt, c.members_in-members.result.now, c.in_ok-kt.ensures.spelled, c.members_in-members.ensures, c.in_ok-kt.ensures.read),
  (c.in_ok-nt.nt, c.members_in.result.now, c.in_ok-nt.ensures.spelled, c.members_in.ensures, c.in_ok-nt.ensures.read),
)
