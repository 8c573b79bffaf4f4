-- What one more item makes of what stands.
use Rattle.std.proofs.Common.{◌≡◌, ℕ, List, [], ◌∷◌, ◌++◌, Bool, Option, sym, ◌∙◌, ap, subst}
use Rattle.cesr_stream.specs.declared.item.Item.{Item}
use Rattle.cesr_stream.specs.declared.bad.Bad.{Bad}
use Rattle.cesr_stream.specs.declared.message.Message.{Message}
use Rattle.cesr_stream.specs.Items.{placed}
use Rattle.cesr_stream.specs.Reading.{Reading, AnswersItem}
use Rattle.cesr_stream.specs.Assembly.{Assembly, IsAssembled}
use Rattle.cesr_stream.proofs.Fed.{fed_answered, stand_on}
use Rattle.std.specs.declared.result.Result.TheVariants.{Ok, Err}
use Rattle.run_status.specs.declared.message_feed.halt.Halt.{Halt}
use Rattle.run_status.specs.declared.message_feed.halt.Halt.TheVariants.{OutOfMemory, Stopped}
use Rattle.run_status.specs.MessageFeed.Serving.{Serves, HandsOn, Halts, SameLimits}

-- what is refused, and whether no item is there, changes nothing of what was taken
pub serves_still : {T : Type 0} (has_taken : T → List Message → Type 0) (fed : List ℕ) (first old : Reading) (assembler_first assembler : Assembly) (taker : T) (bad : Option Bad) (drained : Bool)
    → Serves has_taken fed old assembler taker × SameLimits first old assembler_first assembler
    → Serves has_taken fed (record old { bad = bad; drained = drained }) assembler taker × SameLimits first (record old { bad = bad; drained = drained }) assembler_first assembler
serves_still has_taken fed first old assembler_first assembler taker bad drained (s, same) = (
  record {
    has_fed = record { within = s.has_fed.within; behind = s.has_fed.behind };
    items = s.items;
    answered = s.answered;
    stand = s.stand;
    assembled = s.assembled;
    taken = s.taken;
  },
  record { body_limit = same.body_limit; message_limit = same.message_limit },
)

-- the limits stay the same
pub same_more : (first old new : Reading) (assembler_first before after : Assembly) (item : Item) (place : ℕ) → SameLimits first old assembler_first before
    → AnswersItem old new item place → after.limit ≡ before.limit → SameLimits first new assembler_first after
same_more first old new assembler_first before after item place same a limited = record {
  body_limit = ap (λ r. r.limit) a.moved ∙ same.body_limit;
  message_limit = limited ∙ same.message_limit;
}

module _ {T St : Type 0} (has_taken : T → List Message → Type 0) (has_stopped : T → St → List Message → Type 0)
    (old new : Reading) (before after : Assembly) (taker taker' : T) (item : Item) (place : ℕ) (a : AnswersItem old new item place) (fed : List ℕ) (s : Serves has_taken fed old before taker) where
  -- the messages that are ended were taken, with the one that this item ends
  pub serves_more : {A : Type 0} (done : A) → HandsOn has_taken has_stopped item place before after taker taker' (Ok done) → Serves has_taken fed new after taker'
  serves_more done h =
      let (more, assembled, taken) = h before.limit s.items s.answered s.assembled s.taken in
      record {
        has_fed = fed_answered old new item place a fed s.has_fed;
        items = s.items ++ placed place item ∷ [];
        answered = s.answered ++ more;
        stand = stand_on old new item place a fed s.has_fed s.items s.stand;
        assembled = subst (λ l. IsAssembled l (s.items ++ placed place item ∷ []) (s.answered ++ more) after) (sym assembled.limited) assembled;
        taken = taken;
      }

  pub limit_more : {A : Type 0} (done : A) → HandsOn has_taken has_stopped item place before after taker taker' (Ok done) → after.limit ≡ before.limit
  limit_more done h = let (more, assembled, taken) = h before.limit s.items s.answered s.assembled s.taken in assembled.limited

  -- or why they weren't
  pub halts_more : (A : Type 0) (halt : Halt St) → HandsOn has_taken has_stopped {A = A} item place before after taker taker' (Err halt) → Halts has_taken has_stopped fed halt new after taker' × (after.limit ≡ before.limit)
  halts_more A OutOfMemory h = ((old, ap (λ r. r.limit) (sym a.moved), rw (h.0, h.1) s), ap (λ assembler. assembler.limit) h.0)
  halts_more A (Stopped stop) h =
      let (more, assembled, stopped) = h before.limit s.items s.answered s.assembled s.taken in (
        record {
          has_fed = fed_answered old new item place a fed s.has_fed;
          items = s.items ++ placed place item ∷ [];
          answered = s.answered ++ more;
          stand = stand_on old new item place a fed s.has_fed s.items s.stand;
          assembled = subst (λ l. IsAssembled l (s.items ++ placed place item ∷ []) (s.answered ++ more) after) (sym assembled.limited) assembled;
          stopped = stopped;
        },
        assembled.limited,
      )
