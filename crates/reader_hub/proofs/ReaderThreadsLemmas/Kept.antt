-- What a reader leaves of its pass, whether it read or not.
use Rattle.std.proofs.Common.{◌≡◌, ℕ, ◌+◌, ◌*◌, ◌≤◌, List, [], Option, Some, None, length, ap, sym, subst, arith}
use Rattle.std.specs.Prelude.{filter}
use Rattle.journal.specs.Journal.Feeds.{is_taken_by}
use Rattle.journal.specs.Journal.History.{Told}
use Rattle.keri_outside.specs.declared.limits.Limits.{Limits}
use Rattle.run_status.specs.RunStatus.Readers.{Reader, VerifierShown}
use Rattle.keri_outside.specs.Shown.{SourceShown}
use Rattle.turn_lock.specs.Known.{OwnsAlone}
use Rattle.reader_hub.specs.declared.reader_hub.extent.Extent.{Extent}
use Rattle.reader_hub.specs.declared.reader_hub.extent.Extent.TheVariants.{First}
use Rattle.reader_hub.specs.SharedReader.Asks.{Stays, verdict_count}
use Rattle.reader_hub.specs.SharedReader.Steps.{StepsAlone}
use Rattle.reader_hub.proofs.SharedReaderLemmas.Steps.{alone_first}
use Rattle.reader_hub.specs.ReaderThreads.Runs.{PassSeen, RunsBy}

pub record Kept (extent : Extent) (old : PassSeen) (reader : Reader) (new : PassSeen) : Type 0 where
  pub lock : new.lock ≡ old.lock
  pub stays : Stays old.pass new.pass
  pub share : List Told
  pub own : OwnsAlone new.pass share
  pub turns : new.pass.turns ≤ old.pass.turns + 2 * (length (filter (is_taken_by old.pass.number) share) + length reader.refused + verdict_count new.pass.seen + 2)
  pub alone : extent ≡ First → StepsAlone new.pass share

-- the pass is as it was
kept_as : (extent : Extent) (old : PassSeen) (reader : Reader) (new : PassSeen) → OwnsAlone old.pass [] → new ≡ old → Kept extent old reader new
kept_as extent old reader new own e =
    let turns : new.pass.turns ≡ old.pass.turns = ap (λ x. x.pass.turns) e in
    record {
      lock = ap (λ x. x.lock) e;
      stays = record { number = ap (λ x. x.pass.number) e; splits = ap (λ x. x.pass.splits) e; head = ap (λ x. x.pass.head) e };
      share = [];
      own = subst (λ (x : PassSeen). OwnsAlone x.pass []) (sym e) own;
      turns = omega (arith, turns);
      alone = λ first. alone_first new.pass;
    }

pub kept : (limits : Limits) (limit : ℕ) (extent : Extent) (source : Option SourceShown) (verifier : Option VerifierShown) (old : PassSeen) (reader : Reader) (new : PassSeen) → OwnsAlone old.pass []
    → RunsBy limits limit extent source verifier old reader new → Kept extent old reader new
kept limits limit extent None verifier old reader new own run = kept_as extent old reader new own run.0
kept limits limit extent (Some source) None old reader new own run = kept_as extent old reader new own run.0
kept limits limit extent (Some source) (Some verifier) old reader new own run =
    let r = run.reads in
    record { lock = r.same.lock; stays = r.stays; share = r.share; own = r.own; turns = r.turns; alone = r.alone }
