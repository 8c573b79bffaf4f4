-- What is left of a stream, one message or one log further.
use Rattle.std.proofs.Common.{◌≡◌, ℕ, zero, suc, ◌+◌, ◌-◌, ◌<◌, ◌≤◌, ◌⊎◌, inl, inr, [], ◌++◌, refl, sym, arith, append_assoc}
use Rattle.controller_core.specs.LogMaker.Messages.{message_text}
use Rattle.controller_core.specs.LogMaker.Streams.{messages_from, logs_from}

pub no_messages : (seed log sn : ℕ) → messages_from seed log sn 0 ≡ []
unfolding messages_from
no_messages seed log sn = refl

pub no_logs : (seed log events : ℕ) → logs_from seed log events 0 ≡ []
unfolding logs_from
no_logs seed log events = refl

pub messages-next : (seed log sn count : ℕ) → 0 < count → messages_from seed log sn count ≡ message_text seed log sn ++ messages_from seed log (sn + 1) (count - 1)
unfolding messages_from
messages-next seed log sn zero some = absurd (omega arith)
messages-next seed log sn (suc n) some = let next : sn + 1 ≡ suc sn = omega arith in let left : suc n - 1 ≡ n = omega arith in rw (next, left) refl

pub logs-next : (seed log events count : ℕ) → 0 < count → logs_from seed log events count ≡ messages_from seed log 0 events ++ logs_from seed (suc log) events (count - 1)
unfolding logs_from
logs-next seed log events zero some = absurd (omega arith)
logs-next seed log events (suc n) some = let left : suc n - 1 ≡ n = omega arith in rw left refl

-- logs without events are no text
pub no_events : (seed log count : ℕ) → logs_from seed log 0 count ≡ []
unfolding logs_from messages_from
no_events seed log zero = refl
no_events seed log (suc count) = no_events seed (suc log) count

module _ (seed events s l n : ℕ) (seed_is : s ≡ seed) (first : n ≡ 0) where
  -- the first log of a stream is open
  pub first_log : (logs : ℕ) → l ≡ 0 → 0 < logs → messages_from s l n events ++ logs_from s (suc l) events (logs - 1) ≡ logs_from seed 0 events logs
  first_log logs log_is some = rw (seed_is, log_is, first) (sym (logs-next seed 0 events logs some))

  -- the next log is open where nothing is left of the one before it
  pub next_log : (log sn count logs : ℕ) → l ≡ log + 1 → count ≤ 0 → 0 < logs
      → messages_from s l n events ++ logs_from s (suc l) events (logs - 1) ≡ messages_from seed log sn count ++ logs_from seed (suc log) events logs
  next_log log sn count logs log_is none some =
      let more : log + 1 ≡ suc log = omega arith in
      let zero_is : count ≡ 0 = omega arith in
      rw (seed_is, log_is, first, more, zero_is, no_messages seed log sn) (sym (logs-next seed (suc log) events logs some))

-- no log is left
pub nothing : (seed log sn events count logs : ℕ) → count ≡ 0 → logs ≡ 0 → messages_from seed log sn count ++ logs_from seed (suc log) events logs ≡ []
nothing seed log sn events count logs no_count none = rw (no_count, none, no_messages seed log sn) (no_logs seed (suc log) events)

-- one message further
pub next_message : (seed log sn events count logs s l n : ℕ) → s ≡ seed → l ≡ log → n ≡ sn + 1 → 0 < count
    → messages_from seed log sn count ++ logs_from seed (suc log) events logs ≡ message_text seed log sn ++ (messages_from s l n (count - 1) ++ logs_from s (suc l) events logs)
next_message seed log sn events count logs s l n seed_is log_is next some =
    rw (seed_is, log_is, next, messages-next seed log sn count some) (append_assoc (message_text seed log sn) (messages_from seed log (sn + 1) (count - 1)) (logs_from seed (suc log) events logs))

-- a stream without logs or events is no text
pub no_stream : (seed logs events : ℕ) → (logs ≡ 0) ⊎ ((logs ≡ 0 → ⊥) × (events ≡ 0)) → logs_from seed 0 events logs ≡ []
no_stream seed logs events (inl none) = rw none (no_logs seed 0 events)
no_stream seed logs events (inr none) = rw none.1 (no_events seed 0 logs)
