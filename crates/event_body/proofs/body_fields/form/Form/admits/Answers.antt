use Rattle.std.proofs.Common.{refl}
use Rattle.cesr_codes.specs.Spelling.{digest_text, key_text, IsDigest, IsKey}
use Rattle.event_body.proofs.BodyFieldsLemmas.Lists.{through, held_there, held_back, fixed_there, fixed_back, strings_there, strings_back, values_there}
use Rattle.event_body.proofs.body_fields.form.Form.admits.Goals as goal

pub returns-in-Keys : goal.returns-in-Keys
returns-in-Keys c = rw c.in-Keys.is (through _ c.is_list_of.ensures (held_there key_text IsKey _) (held_back key_text IsKey _))

pub returns-in-FixedKeys : goal.returns-in-FixedKeys
returns-in-FixedKeys c = rw c.in-FixedKeys.is (through _ c.is_list_of-in-FixedKeys.ensures (fixed_there _) (fixed_back _))

pub returns-in-Digests : goal.returns-in-Digests
returns-in-Digests c = rw c.in-Digests.is (through _ c.is_list_of-in-Digests.ensures (held_there digest_text IsDigest _) (held_back digest_text IsDigest _))

pub returns-in-Strings : goal.returns-in-Strings
returns-in-Strings c = rw c.in-Strings.is (through _ c.is_string_list.ensures (strings_there _ c.requires.0) (strings_back _))

pub returns-in-List : goal.returns-in-List
returns-in-List c = rw c.in-Values.is (λ yes. values_there _ _ (rw c.in-Values.is at c.requires) c.in-List.is, λ is. refl)
