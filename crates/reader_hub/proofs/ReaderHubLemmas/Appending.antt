-- What a message appends to what a core was told: at most one entry, which names the reader.
use Rattle.std.proofs.Common.{◌≡◌, ℕ, [], ◌∷◌, ◌++◌, List, Result, Ok, Err, refl, sym, ◌∙◌, arith, append-nil}
use Rattle.std.specs.Prelude.{IfOk, OnErr}
use Rattle.cesr_stream.specs.declared.message.Message.{Message}
use Rattle.event_body.specs.declared.event_body.event.Event.{Event}
use Rattle.event_body.specs.declared.event_body.body_fault.BodyFault.{BodyFault}
use Rattle.journal.specs.declared.journal.reply.Reply.{Reply}
use Rattle.journal.specs.declared.journal.reply.Reply.TheVariants.{Taken, Again, Refused, LimitReached}
use Rattle.journal.specs.Journal.CoreCalls.{Takes}
use Rattle.journal.specs.Journal.Feeds.{reader_of}
use Rattle.journal.specs.Journal.History.{Told, took}
use Rattle.journal.specs.Journal.Replies.{claims_of}
use Rattle.turn_lock.specs.Passes.{Appends}
use Rattle.validator_core.specs.ValidatorCore.View.{told_of}
use Rattle.reader_hub.specs.ReaderHub.Hubs.{TakesOver, head_of}
use Rattle.reader_hub.specs.declared.reader_hub.shared_core.SharedCore.{SharedCore}

module _ (x y : SharedCore) (reader : ℕ) (head : head_of y.core ≡ head_of x.core) where
  abbrev AppendsOne : Type 0
  AppendsOne = (es : List Told) × Appends (λ (s : SharedCore). told_of s.core) (λ (s : SharedCore). head_of s.core) reader_of reader x y es

  -- nothing was told
  pub none : told_of y.core ≡ told_of x.core → AppendsOne
  none same = ([], record { longer = same ∙ sym (append-nil (told_of x.core)); one = omega arith; named = tt; same_head = head })

  entry : (t : Told) → reader_of t ≡ reader → told_of y.core ≡ told_of x.core ++ t ∷ [] → AppendsOne
  entry t by behind = (t ∷ [], record { longer = behind; one = omega arith; named = (by, tt); same_head = head })

  by_reply : (m : Message) (gives : Result Event BodyFault) (reply : Reply) → Takes x.core.limits [] (told_of x.core) reader m gives reply (told_of y.core) → AppendsOne
  by_reply m (Ok e) Taken t = entry (took reader (record { bytes = m.body; event = e }) (claims_of m)) refl t.1
  by_reply m (Ok e) Again t = entry (took reader (record { bytes = m.body; event = e }) (claims_of m)) refl t.1
  by_reply m (Ok e) (Refused reason) t = none t.1
  by_reply m (Ok e) LimitReached t = none t.1
  by_reply m (Err fault) reply t = none t.1

  pub take_appends : {E : Type 0} (m : Message) (r : Result Reply E) → IfOk r (λ reply. TakesOver x.core.limits (told_of x.core) reader m reply (told_of y.core))
      → OnErr r (told_of y.core ≡ told_of x.core) → AppendsOne
  take_appends m (Ok reply) ok err = by_reply m ok.gives reply ok.takes
  take_appends m (Err e) ok err = none err
