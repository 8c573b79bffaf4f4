-- Two inceptions of one identifier, whole: of the same keys, each with one witness that isn't the other's. That they are
-- spelled is shown by rows of the program of rows, and is a premise here.
use Rattle.std.proofs.Common.{ℕ, List, [], ◌∷◌, None, replicate, codes}
use Rattle.cesr_codes.specs.declared.digest.Digest.{Digest}
use Rattle.cesr_codes.specs.declared.digest.DigestCode.TheVariants.{Blake3}
use Rattle.cesr_codes.specs.declared.key.Key.{Key}
use Rattle.cesr_codes.specs.declared.key.KeyCode.TheVariants.{Fixed, Rotating}
use Rattle.cesr_codes.specs.declared.prefix.Prefix.TheVariants.{Basic}
use Rattle.sith.specs.declared.threshold.Threshold.TheVariants.{Count}
use Rattle.event_body.specs.declared.event_body.inception.Inception.{Inception}

abbrev pub controller : Key
controller = record { code = Rotating; raw = replicate 32 9 }

abbrev pub witness : ℕ → Key
witness n = record { code = Fixed; raw = replicate 32 n }

-- an inception that wants the receipt of its one witness, and has no next keys
abbrev pub inception : Digest → Key → Inception
inception said witness = record {
  said = said;
  prefix = Basic controller;
  kt = Count 1;
  keys = controller ∷ [];
  nt = Count 0;
  next = [];
  toad = 1;
  list = witness ∷ [];
  traits = [];
  anchors = [];
  delegator = None;
}

abbrev pub first_said : Digest
first_said = record {
  code = Blake3;
  raw =
      0xCE ∷ 0x5F ∷ 0xE2 ∷ 0x01 ∷ 0x11 ∷ 0x61 ∷ 0xC9 ∷ 0x86 ∷
      0x90 ∷ 0x62 ∷ 0xEF ∷ 0x95 ∷ 0xDD ∷ 0x32 ∷ 0x5B ∷ 0x30 ∷
      0x6C ∷ 0x07 ∷ 0xC2 ∷ 0x49 ∷ 0xC0 ∷ 0x51 ∷ 0xC2 ∷ 0xD0 ∷
      0xA0 ∷ 0x81 ∷ 0xD3 ∷ 0xB7 ∷ 0x36 ∷ 0x5A ∷ 0x52 ∷ 0xF1 ∷ [];
}

abbrev pub second_said : Digest
second_said = record {
  code = Blake3;
  raw =
      0x07 ∷ 0xA4 ∷ 0xF1 ∷ 0xAB ∷ 0xCC ∷ 0xEE ∷ 0x33 ∷ 0x4E ∷
      0x55 ∷ 0xE7 ∷ 0xF9 ∷ 0x7E ∷ 0xF5 ∷ 0x48 ∷ 0x67 ∷ 0xD9 ∷
      0x29 ∷ 0xE5 ∷ 0xA3 ∷ 0x7F ∷ 0xFC ∷ 0xFA ∷ 0x43 ∷ 0x75 ∷
      0x8B ∷ 0x9F ∷ 0x64 ∷ 0xF1 ∷ 0x5B ∷ 0x59 ∷ 0x36 ∷ 0x4A ∷ [];
}

abbrev pub first_bytes : List ℕ
first_bytes = codes "{\"v\":\"KERI10JSON00012b_\",\"t\":\"icp\",\"d\":\"EM5f4gERYcmGkGLvld0yWzBsB8JJwFHC0KCB07c2WlLx\",\"i\":\"DAkJCQkJCQkJCQkJCQkJCQkJCQkJCQkJCQkJCQkJCQkJ\",\"s\":\"0\",\"kt\":\"1\",\"k\":[\"DAkJCQkJCQkJCQkJCQkJCQkJCQkJCQkJCQkJCQkJCQkJ\"],\"nt\":\"0\",\"n\":[],\"bt\":\"1\",\"b\":[\"BAEBAQEBAQEBAQEBAQEBAQEBAQEBAQEBAQEBAQEBAQEB\"],\"c\":[],\"a\":[]}"

abbrev pub second_bytes : List ℕ
second_bytes = codes "{\"v\":\"KERI10JSON00012b_\",\"t\":\"icp\",\"d\":\"EAek8avM7jNOVef5fvVIZ9kp5aN__PpDdYufZPFbWTZK\",\"i\":\"DAkJCQkJCQkJCQkJCQkJCQkJCQkJCQkJCQkJCQkJCQkJ\",\"s\":\"0\",\"kt\":\"1\",\"k\":[\"DAkJCQkJCQkJCQkJCQkJCQkJCQkJCQkJCQkJCQkJCQkJ\"],\"nt\":\"0\",\"n\":[],\"bt\":\"1\",\"b\":[\"BAICAgICAgICAgICAgICAgICAgICAgICAgICAgICAgIC\"],\"c\":[],\"a\":[]}"
