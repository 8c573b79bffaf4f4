-- What stands while `check` takes messages, and when it has taken the last.
use Rattle.std.specs.Prelude.{◌≡◌, ℕ, List, [], ◌∷◌, ◌++◌, string_bytes}
use Rattle.std.specs.declared.option.Option.{Option}
use Rattle.std.specs.declared.alloc.AllocError.{AllocError}
use Rattle.cesr_stream.specs.declared.message.Message.{Message}
use Rattle.cesr_stream.specs.Assembly.{all_of}
use Rattle.run_status.specs.declared.message_feed.feed_close.FeedClose.{FeedClose}
use Rattle.run_status.specs.declared.message_feed.feed_close.FeedClose.TheVariants as feed
use Rattle.keri_roles.specs.declared.keri_roles.checker.Checker.{Checker}
use Rattle.run_status.specs.declared.run_status.close.Close.{Close}
use Rattle.run_status.specs.declared.run_status.close.Close.TheVariants.{End, Bad, ReadFault, LimitReached}
use Rattle.keri_roles.specs.KeriRoles.MessageLines.{AreLinesOf}
use Rattle.keri_roles.specs.KeriRoles.Closes.{ending_text}

-- the lines of these messages have been added
abbrev pub HasLinesOf : Checker → List Message → Type 0
HasLinesOf checker messages = AreLinesOf messages (string_bytes checker.lines) checker.refused.items

-- and then that of one message more
abbrev pub AddsLine : Checker → Checker → Message → Type 0
AddsLine old new message = (before : List Message) → HasLinesOf old before → HasLinesOf new (before ++ message ∷ [])

-- reading a source closed so
abbrev pub IsClose : FeedClose AllocError → Close → Type 0
IsClose feed.End close = close ≡ End
IsClose (feed.Bad bad) close = close ≡ Bad bad
IsClose feed.ReadFault close = close ≡ ReadFault
IsClose feed.LimitReached close = close ≡ LimitReached
IsClose feed.OutOfMemory close = ⊥
IsClose (feed.Stopped stop) close = ⊥

-- behind the lines added so far stands that of the last message, and then that of how reading closed
abbrev pub Finishes : Close → Option Message → Checker → Checker → Type 0
Finishes close last old new = (messages : List Message) → HasLinesOf old messages
    → (lines : List ℕ) × AreLinesOf (messages ++ all_of last) lines new.refused.items × (string_bytes new.lines ≡ lines ++ ending_text 0 close)
