-- The lines that are written: words that are parted by one space, and a line feed.
use Rattle.std.specs.Prelude.{ℕ, false, List, [], ◌∷◌, ◌++◌, map, codes}
use Rattle.std.specs.Fmt.{decimal, digits}
use Rattle.cesr_codes.specs.Spelling.{digest_text, prefix_text}
use Rattle.cesr_codes.specs.declared.digest.Digest.{Digest}
use Rattle.cesr_codes.specs.declared.prefix.Prefix.{Prefix}
use Rattle.cesr_stream.specs.declared.bad.Bad.{Bad}
use Rattle.event_body.specs.EventBody.Events.{kind_of, prefix_of, sn_of, said_of}
use Rattle.event_body.specs.declared.event_body.event.Event.{Event}
use Rattle.journal.specs.declared.journal.reply.Reason.{Reason}
use Rattle.journal.specs.declared.journal.why.Why.{Why}
use Rattle.report_lines.specs.Words.{bad_word, plan_word, reason_word, standing_word, why_word}
use Rattle.report_lines.specs.declared.plan_refusal.PlanRefusal.{PlanRefusal}
use Rattle.report_lines.specs.declared.sizes.Sizes.{Sizes}
use Rattle.report_lines.specs.declared.standing.Standing.{Standing}
use Rattle.report_lines.specs.declared.state_sizes.StateSizes.{StateSizes}
use Rattle.report_lines.specs.declared.stream_counts.StreamCounts.{StreamCounts}

-- words, parted by one space
abbrev pub spaced : List (List ℕ) → List ℕ
spaced [] = []
spaced (word ∷ []) = word
spaced (word ∷ next ∷ words) = word ++ (codes " " ++ spaced (next ∷ words))

-- the line of words
abbrev pub line : List (List ℕ) → List ℕ
line [] = codes "\n"
line (word ∷ []) = word ++ codes "\n"
line (word ∷ next ∷ words) = word ++ (codes " " ++ line (next ∷ words))

-- the number of an event, in hexadecimal
abbrev pub number : ℕ → List ℕ
number sn = digits 16 false sn

-- a name and its number
abbrev pub named : List ℕ → ℕ → List ℕ
named name n = name ++ (codes "=" ++ decimal n)

-- the bytes of a body, and the numbers of its signatures and receipts
abbrev pub sizes_text : Sizes → List ℕ
sizes_text sizes = spaced (named (codes "size") sizes.bytes ∷ named (codes "signatures") sizes.signatures
    ∷ named (codes "receipts") sizes.receipts ∷ [])

-- the kind, the prefix, the number, the digest, and the sizes
abbrev pub event_text : Event → Sizes → List ℕ
event_text event sizes = line (kind_of event ∷ prefix_text (prefix_of event) ∷ number (sn_of event)
    ∷ digest_text (said_of event) ∷ sizes_text sizes ∷ [])

-- `event`, the prefix, the number, the kind, the digest, and how it stands
abbrev pub accepted_text : Event → Standing → List ℕ
accepted_text event standing = line (codes "event" ∷ prefix_text (prefix_of event) ∷ number (sn_of event)
    ∷ kind_of event ∷ digest_text (said_of event) ∷ standing_word standing ∷ [])

-- `waits`, the prefix, the number, the digest, and why
abbrev pub waits_text : Event → Why → List ℕ
waits_text event why = line (codes "waits" ∷ prefix_text (prefix_of event) ∷ number (sn_of event)
    ∷ digest_text (said_of event) ∷ why_word why ∷ [])

-- the numbers of keys and witnesses, and the threshold of receipts
abbrev pub state_sizes_text : StateSizes → List ℕ
state_sizes_text sizes = spaced (named (codes "keys") sizes.keys ∷ named (codes "witnesses") sizes.witnesses
    ∷ named (codes "toad") sizes.toad ∷ [])

-- `state`, the prefix, the number, the digest, and the sizes
abbrev pub state_text : Prefix → ℕ → Digest → StateSizes → List ℕ
state_text prefix sn said sizes = line (codes "state" ∷ prefix_text prefix ∷ number sn
    ∷ digest_text said ∷ state_sizes_text sizes ∷ [])

-- the numbers of logs, events, rotations, bytes, and accepted events
abbrev pub stream_counts_text : StreamCounts → List ℕ
stream_counts_text counts = spaced (named (codes "logs") counts.logs ∷ named (codes "events") counts.events ∷ named (codes "rotations") counts.rotations
    ∷ named (codes "bytes") counts.bytes ∷ named (codes "accepted") counts.accepted ∷ [])

-- `gen`, and the numbers of the stream
abbrev pub stream_text : StreamCounts → List ℕ
stream_text counts = line (codes "gen" ∷ stream_counts_text counts ∷ [])

-- `conflict`, the prefix, the number, and the digests of the bodies
abbrev pub conflict_text : Prefix → ℕ → List Digest → List ℕ
conflict_text prefix sn saids = line (codes "conflict" ∷ prefix_text prefix ∷ number sn ∷ map digest_text saids)

-- `plan`, and why no message is made of it
abbrev pub plan_text : PlanRefusal → List ℕ
plan_text refusal = line (codes "plan" ∷ plan_word refusal ∷ [])

-- `refused`, the reader's number, the message's place, and why
abbrev pub refused_text : ℕ → ℕ → Reason → List ℕ
refused_text reader place reason = line (codes "refused" ∷ decimal reader ∷ decimal place ∷ reason_word reason ∷ [])

-- `malformed`, the reader's number, the place of the rule that fails, and which it is
abbrev pub malformed_text : ℕ → Bad → List ℕ
malformed_text reader bad = line (codes "malformed" ∷ decimal reader ∷ decimal bad.place ∷ bad_word bad.reason ∷ [])

-- `fault`, the reader's number, and what failed
abbrev pub read_fault_text : ℕ → List ℕ
read_fault_text reader = line (codes "fault" ∷ decimal reader ∷ codes "read" ∷ [])

abbrev pub verifier_fault_text : ℕ → List ℕ
verifier_fault_text reader = line (codes "fault" ∷ decimal reader ∷ codes "verifier" ∷ [])

-- the reader that a limit ended
abbrev pub full_text : ℕ → List ℕ
full_text reader = line (codes "full" ∷ decimal reader ∷ [])

-- the reader that want of memory ended
abbrev pub memory_text : ℕ → List ℕ
memory_text reader = line (codes "memory" ∷ decimal reader ∷ [])
