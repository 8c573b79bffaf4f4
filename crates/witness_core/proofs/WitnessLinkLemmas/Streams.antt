-- The messages of the bytes that were read, as reading closed.
use Rattle.std.proofs.Common.{◌≡◌, ℕ, ◌⊎◌, inl, inr, List, [], ◌∷◌, ◌++◌, Option, Some, None, refl, sym, ◌∙◌, ap, subst, append-nil}
use Rattle.std.specs.Prelude.{drop}
use Rattle.cesr_stream.specs.declared.bad.Bad.{Bad as BadValue}
use Rattle.cesr_stream.specs.declared.message.Message.{Message}
use Rattle.cesr_stream.specs.Assembly.{all_of}
use Rattle.cesr_stream.specs.Front.{front}
use Rattle.cesr_stream.specs.Items.{Placed, IsEnd, none as no_item}
use Rattle.cesr_stream.specs.Messages.{messages}
use Rattle.cesr_stream.specs.Reading.{Reading, judged}
use Rattle.journal.specs.Journal.Feeds.{AreFirst, AreMessages}
use Rattle.keri_outside.specs.declared.limits.Limits.{Limits}
use Rattle.run_status.specs.MessageFeed.Closing.{IsCutShort}
use Rattle.run_status.specs.MessageFeed.Serving.{IsRefused}
use Rattle.run_status.specs.MessageFeed.Feeds.{Stream}

module _ (limits : Limits) (bytes : List ℕ) (reading : Reading) (items : List Placed) (stream : Stream limits bytes reading items) where
  behind : front limits.body reading.begun (drop reading.place bytes) ≡ judged reading
  behind = ap (front limits.body reading.begun) stream.has_fed.behind ∙ ap (λ l. front l reading.begun reading.rest) (sym stream.limit)

  -- messages that others may come behind are the first
  pub first_of : (offered later : List Message) → offered ++ later ≡ messages limits.message_signatures items → (later ≡ [] → IsEnd (judged reading))
      → AreFirst limits bytes offered
  first_of offered later made whole = record {
    items = items;
    begun = reading.begun;
    place = reading.place;
    later = later;
    stand = stream.stand;
    made = made;
    whole = λ none. subst IsEnd (sym behind) (whole none);
  }

  -- all messages, where no item is whole behind them
  pub all_from : (offered : List Message) → offered ≡ messages limits.message_signatures items → IsEnd (judged reading) → AreMessages limits bytes offered
  all_from offered made ends = record {
    items = items;
    end = judged reading;
    all = record { begun = reading.begun; place = reading.place; stand = stream.stand; behind = behind; ends = ends };
    made = made;
  }

-- no item is whole in the rest
pub at_end : (reading : Reading) → reading.rest ≡ [] → IsEnd (judged reading)
unfolding front
at_end reading none = rw none tt

pub at_bad : (left : Option (List ℕ)) (reading : Reading) (bad : BadValue) → IsRefused reading bad ⊎ IsCutShort left reading bad → IsEnd (judged reading)
at_bad left reading bad (inl refused) = rw refused.is_refused tt
at_bad left reading bad (inr cut) = rw cut.unfinished_item tt

no_end : (earlier : List Message) (m : Message) → earlier ++ m ∷ [] ≡ [] → ⊥
no_end [] m h = cc
no_end (x ∷ earlier) m h = cc

-- where messages were answered one is open
pub some_open : (last : Option Message) (answered : List Message) → all_of last ≡ [] → (earlier : List Message) (m : Message) → answered ≡ earlier ++ m ∷ []
    → {found : List Message} → (last ≡ None → found ≡ []) → answered ++ all_of last ≡ found → ⊥
some_open (Some message) answered none earlier m is begun all = cc
some_open None answered none earlier m is begun all = no_end earlier m (sym is ∙ (sym (append-nil answered) ∙ (all ∙ begun refl)))

-- none is among no bytes
pub first_none : (limits : Limits) → AreFirst limits [] []
unfolding front
first_none limits = record { items = []; begun = _; place = 0; later = []; stand = no_item; made = refl; whole = λ e. tt }
