-- What is seen of an outside and of its objects.
use Rattle.std.specs.Prelude.{List, map, option_map}
use Rattle.shelf_log.specs.KeriDisk.Images.{DiskShown}
use Rattle.run_status.specs.RunRecord.Run.{DoorShown, SignerShown}
use Rattle.run_status.specs.RunStatus.Readers.{Reader, VerifierShown}
use Rattle.keri_outside.specs.Shown.{SinkShown, SourceShown}
use Rattle.run_status.specs.declared.run_status.reader_end.ReaderEnd.{ReaderEnd}

-- what is seen of the sink of an outside, of what it makes, and of the sink of a link
pub record Views (O S V G D P K : Type 0) : Type 1 where
  pub sink : O → SinkShown
  pub source : S → SourceShown
  pub verifier : V → VerifierShown
  pub signer : G → SignerShown
  pub disk : D → DiskShown
  pub door : P → DoorShown
  pub link_sink : K → SinkShown

module _ {O S V G D P K : Type 0} (views : Views O S V G D P K) where
  -- what is seen of how a reader ended
  abbrev pub reader_by : ReaderEnd S V → Reader
  reader_by end = record {
    source = option_map views.source end.source;
    verifier = option_map views.verifier end.verifier;
    refused = end.refused.items;
    seen = end.seen;
    close = end.close;
  }

  abbrev pub readers_by : List (ReaderEnd S V) → List Reader
  readers_by readers = map reader_by readers

  abbrev pub link_sinks_by : List K → List SinkShown
  link_sinks_by sinks = map views.link_sink sinks
