-- What `check FILE` does.
use Rattle.std.specs.Prelude.{◌≡◌, ◌≢◌, ℕ, List, [], ◌∷◌, ◌++◌, MatchOption}
use Rattle.std.specs.declared.option.Option.{Option}
use Rattle.std.specs.declared.option.Option.TheVariants.{None}
use Rattle.run_status.specs.RunOutside.Shown.{OutsideShown}
use Rattle.keri_outside.specs.declared.limits.Limits.{Limits}
use Rattle.cesr_stream.specs.Items.{Placed}
use Rattle.cesr_stream.specs.Messages.{messages}
use Rattle.cesr_stream.specs.Reading.{Reading}
use Rattle.run_status.specs.MessageFeed.Feeds.{Stream}
use Rattle.run_status.specs.declared.run_status.close.Close.TheVariants.{OutOfMemory, ReadFault}
use Rattle.keri_roles.specs.KeriRoles.MessageLines.{AreLinesOf}
use Rattle.keri_roles.specs.KeriRoles.Closes.{Closes, ending_text}
use Rattle.run_status.specs.RunRecord.NoJournal.{no_journal}
use Rattle.run_status.specs.RunStatus.Readers.{Reader}
use Rattle.keri_outside.specs.Shown.{SourceShown}
use Rattle.keri_roles.specs.CoreRoles.Work.{Work, MakesSource, Owes}
use Rattle.run_status.specs.RunStatus.Status.{nothing_besides}

-- A stream was read: the text has the lines of its messages, and then how reading closed.
pub record ChecksStream (limits : Limits) (held : Option (List ℕ)) (source : SourceShown) (reader : Reader) (text : List ℕ) : Type 0 where
  pub bytes : List ℕ
  pub reading : Reading
  pub items : List Placed
  pub stream : Stream limits bytes reading items
  pub closes : Closes limits.stream_bytes held source bytes reading reader.close
  pub lines : List ℕ
  pub answered : AreLinesOf (messages limits.message_signatures items) lines reader.refused
  pub text_is : text ≡ lines ++ ending_text 0 reader.close

-- The source couldn't be made: the text is only that.
pub record ChecksNothing (reader : Reader) (text : List ℕ) : Type 0 where
  pub fault : reader.close ≡ ReadFault
  pub none_refused : reader.refused ≡ []
  pub text_is : text ≡ ending_text 0 ReadFault

abbrev pub ChecksReader : Limits → Option (List ℕ) → Reader → List ℕ → Type 0
ChecksReader limits held reader text = MatchOption reader.source (ChecksNothing reader text) (λ source. ChecksStream limits held source reader text)

-- so it is, unless there was no memory
abbrev pub ChecksHeld : Limits → Option (List ℕ) → Reader → List ℕ → Type 0
ChecksHeld limits held reader text = reader.close ≢ OutOfMemory → ChecksReader limits held reader text

-- of a file of the outside
abbrev pub ChecksFile : List ℕ → OutsideShown → Reader → List ℕ → Type 0
ChecksFile name shown reader text = ChecksHeld shown.limits (shown.holds name) reader text

-- whatever a source would have held
abbrev pub ChecksAny : Reader → List ℕ → Type 0
ChecksAny reader text = (limits : Limits) (held : Option (List ℕ)) → ChecksHeld limits held reader text

-- what such a reader owes
abbrev pub OwesChecks : Reader → Limits → Option (List ℕ) → Option (List ℕ) → Type 0
OwesChecks reader limits held owed = Owes owed reader.close (ChecksReader limits held reader)

-- The one making is the source of the file, and the one reader read its stream. Nothing is told.
pub record IsChecked (name : List ℕ) (work : Work) : Type 0 where
  pub reader : Reader
  pub one : work.readers ≡ reader ∷ []
  pub makes : MakesSource name reader.source work.before work.after
  pub no_verifier : reader.verifier ≡ None
  pub none_seen : reader.seen ≡ []
  pub owes : OwesChecks reader work.before.limits (work.before.holds name) work.owed
  pub none_told : work.journal ≡ no_journal
  pub nothing_else : work.besides ≡ nothing_besides
