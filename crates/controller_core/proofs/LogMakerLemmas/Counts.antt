-- Counting the bytes and the rotations of a stream, message by message and log by log.
use Rattle.std.proofs.Common.{◌≡◌, ℕ, zero, suc, ◌+◌, ◌-◌, ◌*◌, ◌<◌, ◌≤◌, true, false, ◌++◌, length, refl, ap, ◌∙◌, arith, length-append}
use Rattle.std.proofs.Math.Nat.{suc-mul}
use Rattle.std.proofs.lemmas.Fmt.{hex_one_digit}
use Rattle.std.specs.Fmt.{digits}
use Rattle.controller_core.specs.LogMaker.Draws.{is_rotation, rotations_before}
use Rattle.controller_core.specs.LogMaker.Messages.{message_text}
use Rattle.controller_core.specs.LogMaker.Streams.{messages_from, logs_from, rotations_from}
use Rattle.controller_core.proofs.LogMakerLemmas.Left.{messages-next, logs-next, no_messages, no_logs}
use Rattle.controller_core.proofs.LogMakerLemmas.Lengths.{message_size, first_size, rotation_size, interaction_size, few_bytes}

-- the bytes of a message, by what its event is
pub first_bytes : (seed log sn : ℕ) → sn ≡ 0 → 845 + length (digits 16 false sn) ≡ length (message_text seed log sn)
first_bytes seed log sn is =
    let small : 0 < 16 = omega arith in
    rw is (omega (arith, ap length (hex_one_digit false 0 small), message_size seed log 0, first_size seed log))

pub rotation_bytes : (seed log sn : ℕ) → 0 < sn → is_rotation seed log sn ≡ true → 711 + length (digits 16 false sn) ≡ length (message_text seed log sn)
rotation_bytes seed log sn some is = omega (arith, message_size seed log sn, rotation_size seed log sn some is)

pub interaction_bytes : (seed log sn : ℕ) → 0 < sn → is_rotation seed log sn ≡ false → 562 + length (digits 16 false sn) ≡ length (message_text seed log sn)
interaction_bytes seed log sn some is = omega (arith, message_size seed log sn, interaction_size seed log sn some is)

-- a message is counted
pub one_counted : (seed log sn events bytes whole : ℕ) → sn < events → bytes + length (messages_from seed log sn (events - sn)) ≡ whole
    → (bytes + length (message_text seed log sn)) + length (messages_from seed log (sn + 1) (events - (sn + 1))) ≡ whole
one_counted seed log sn events bytes whole some counted =
    let left : 0 < events - sn = omega arith in
    let fewer : events - sn - 1 ≡ events - (sn + 1) = omega arith in
    let next : messages_from seed log sn (events - sn) ≡ message_text seed log sn ++ messages_from seed log (sn + 1) (events - (sn + 1)) =
    messages-next seed log sn (events - sn) left ∙ ap (λ count. message_text seed log sn ++ messages_from seed log (sn + 1) count) fewer in
    omega (arith, ap length next, length-append (message_text seed log sn) (messages_from seed log (sn + 1) (events - (sn + 1))), counted)

-- all of a log is counted
pub all_counted : (seed log sn events bytes whole : ℕ) → events ≤ sn → bytes + length (messages_from seed log sn (events - sn)) ≡ whole → bytes ≡ whole
all_counted seed log sn events bytes whole end counted =
    let none : events - sn ≡ 0 = omega arith in
    omega (arith, ap (λ count. length (messages_from seed log sn count)) none, ap length (no_messages seed log sn), counted)

-- a log is counted
pub log_counted : (seed log logs events bytes whole : ℕ) → log < logs → bytes + length (logs_from seed log events (logs - log)) ≡ whole
    → (bytes + length (messages_from seed log 0 events)) + length (logs_from seed (log + 1) events (logs - (log + 1))) ≡ whole
log_counted seed log logs events bytes whole some counted =
    let left : 0 < logs - log = omega arith in
    let fewer : logs - log - 1 ≡ logs - (log + 1) = omega arith in
    let more : suc log ≡ log + 1 = omega arith in
    let next : logs_from seed log events (logs - log) ≡ messages_from seed log 0 events ++ logs_from seed (log + 1) events (logs - (log + 1)) =
    logs-next seed log events (logs - log) left ∙ (λ i. messages_from seed log 0 events ++ logs_from seed (more i) events (fewer i)) in
    omega (arith, ap length next, length-append (messages_from seed log 0 events) (logs_from seed (log + 1) events (logs - (log + 1))), counted)

-- all logs are counted
pub logs_counted : (seed log logs events bytes whole : ℕ) → logs ≤ log → bytes + length (logs_from seed log events (logs - log)) ≡ whole → bytes ≡ whole
logs_counted seed log logs events bytes whole end counted =
    let none : logs - log ≡ 0 = omega arith in
    omega (arith, ap (λ count. length (logs_from seed log events count)) none, ap length (no_logs seed log events), counted)

rotations-next : (seed log events count : ℕ) → 0 < count → rotations_from seed log events count ≡ rotations_before seed log events + rotations_from seed (suc log) events (count - 1)
unfolding rotations_from
rotations-next seed log events zero some = absurd (omega arith)
rotations-next seed log events (suc n) some = let left : suc n - 1 ≡ n = omega arith in rw left refl

no_rotations : (seed log events : ℕ) → rotations_from seed log events 0 ≡ 0
unfolding rotations_from
no_rotations seed log events = refl

-- a log's rotations are counted
pub rotations_counted : (seed log logs events rotations whole : ℕ) → log < logs → rotations + rotations_from seed log events (logs - log) ≡ whole
    → (rotations + rotations_before seed log events) + rotations_from seed (log + 1) events (logs - (log + 1)) ≡ whole
rotations_counted seed log logs events rotations whole some counted =
    let left : 0 < logs - log = omega arith in
    let fewer : logs - log - 1 ≡ logs - (log + 1) = omega arith in
    let more : suc log ≡ log + 1 = omega arith in
    let next : rotations_from seed log events (logs - log) ≡ rotations_before seed log events + rotations_from seed (log + 1) events (logs - (log + 1)) =
    rotations-next seed log events (logs - log) left ∙ (λ i. rotations_before seed log events + rotations_from seed (more i) events (fewer i)) in
    omega (arith, next, counted)

pub all_rotations : (seed log logs events rotations whole : ℕ) → logs ≤ log → rotations + rotations_from seed log events (logs - log) ≡ whole → rotations ≡ whole
all_rotations seed log logs events rotations whole end counted =
    let none : logs - log ≡ 0 = omega arith in
    omega (arith, ap (λ count. rotations_from seed log events count) none, no_rotations seed log events, counted)

-- messages have at most 846 bytes each
messages_few : (seed log sn count : ℕ) → length (messages_from seed log sn count) ≤ count * 846
unfolding messages_from
messages_few seed log sn zero = omega arith
messages_few seed log sn (suc count) =
    omega (arith, length-append (message_text seed log sn) (messages_from seed log (suc sn) count), message_size seed log sn, few_bytes seed log sn, messages_few seed log (suc sn) count)

pub logs_few : (seed log events count : ℕ) → length (logs_from seed log events count) ≤ count * (events * 846)
unfolding logs_from
logs_few seed log events zero = omega arith
logs_few seed log events (suc count) =
    omega (arith, length-append (messages_from seed log 0 events) (logs_from seed (suc log) events count), messages_few seed log 0 events, logs_few seed (suc log) events count, suc-mul count (events * 846))
