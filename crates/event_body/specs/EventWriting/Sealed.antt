-- Events with the digest of their own text (KERI: self-addressing identifiers).
use Rattle.cesr_codes.specs.declared.digest.Digest.{Digest}
use Rattle.cesr_codes.specs.declared.digest.DigestCode.{DigestCode}
use Rattle.cesr_codes.specs.declared.prefix.Prefix.{Prefix}
use Rattle.cesr_codes.specs.declared.prefix.Prefix.TheVariants.{Basic, Said}
use Rattle.said_digest.specs.Digests.{digest_of}
use Rattle.event_body.specs.declared.event_body.event.Event.{Event}
use Rattle.event_body.specs.declared.event_body.event.Event.TheVariants.{Icp, Rot, Ixn, Dip, Drt, Rct}
use Rattle.event_body.specs.EventBody.Rules.{digested_text}

-- a prefix that is a digest becomes this one, and a key stays
abbrev pub sealed_prefix : Prefix → Digest → Prefix
sealed_prefix (Basic key) digest = Basic key
sealed_prefix (Said other) digest = Said digest

-- The event with this digest. An inception's prefix that is a digest is its own. A receipt's is that of another event,
-- and stays.
abbrev pub with_digest : Digest → Event → Event
with_digest digest (Icp e) = Icp (record e { said = digest; prefix = sealed_prefix e.prefix digest })
with_digest digest (Rot e) = Rot (record e { said = digest })
with_digest digest (Ixn e) = Ixn (record e { said = digest })
with_digest digest (Dip e) = Dip (record e { said = digest; prefix = sealed_prefix e.prefix digest })
with_digest digest (Drt e) = Drt (record e { said = digest })
with_digest digest (Rct receipt) = Rct receipt

-- the digest of its text with placeholders
abbrev pub digest_in : DigestCode → Event → Digest
digest_in code event = digest_of code (digested_text event)

-- the event with the digest of its own text
abbrev pub sealed_event : DigestCode → Event → Event
sealed_event code event = with_digest (digest_in code event) event
