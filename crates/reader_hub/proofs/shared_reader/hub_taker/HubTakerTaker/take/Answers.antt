use Rattle.reader_hub.proofs.SharedReaderLemmas.Taken.{if_err, if_ok}
use Rattle.reader_hub.proofs.shared_reader.hub_taker.HubTakerTaker.take.Goals as goal

pub returns-clause-ok : goal.returns-clause-ok
returns-clause-ok g c = if_ok c.take_message.result _ _ (λ f first before h. (f _ before (λ is. is) h).0) c.take_message.ensures.ok

pub returns-clause-err : goal.returns-clause-err
returns-clause-err g c = if_err c.take_message.result _ _ (λ stop f first before h. f _ before (λ is. is) h) c.take_message.ensures.err
