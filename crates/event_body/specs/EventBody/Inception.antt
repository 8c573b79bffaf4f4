-- The inception of an identifier with one key, of which no one is witness.
use Rattle.std.specs.Prelude.{[], ◌∷◌}
use Rattle.std.specs.declared.option.Option.TheVariants.{None}
use Rattle.cesr_codes.specs.declared.digest.Digest.{Digest}
use Rattle.cesr_codes.specs.declared.key.Key.{Key}
use Rattle.cesr_codes.specs.declared.prefix.Prefix.TheVariants.{Said}
use Rattle.sith.specs.declared.threshold.Threshold.TheVariants.{Count}
use Rattle.event_body.specs.declared.event_body.inception.Inception.{Inception}

-- one key and one next key, each with the threshold 1, and nothing else; the prefix is the digest
abbrev pub one_key_inception : Digest → Key → Digest → Inception
one_key_inception said key next = record {
  said = said;
  prefix = Said said;
  kt = Count 1;
  keys = key ∷ [];
  nt = Count 1;
  next = next ∷ [];
  toad = 0;
  list = [];
  traits = [];
  anchors = [];
  delegator = None;
}
