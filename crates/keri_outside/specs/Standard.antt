-- The limits of the program.
use Rattle.std.specs.Prelude.{◌≡◌, ◌^◌}
use Rattle.keri_outside.specs.declared.limits.Limits.{Limits}

-- the limits are the program's
pub record IsStandard (limits : Limits) : Type 0 where
  pub body : limits.body ≡ 65535
  pub messages : limits.messages ≡ 1048576
  pub body_bytes : limits.body_bytes ≡ 536870912
  pub signatures : limits.signatures ≡ 2097152
  pub message_signatures : limits.message_signatures ≡ 1024
  pub stream_bytes : limits.stream_bytes ≡ 4294967296
  pub turns : limits.turns ≡ 2 ^ 62
  pub records : limits.records ≡ 1048576
  pub shelf_bytes : limits.shelf_bytes ≡ 1073741824
