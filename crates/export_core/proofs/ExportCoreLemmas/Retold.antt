-- What one reader alone told of a text of messages is these messages, told again.
use Rattle.std.proofs.Common.{◌≡◌, ◌<◌, ℕ, zero, suc, true, List, [], ◌∷◌, ◌++◌, map, Some, None, refl, sym, ◌∙◌, ap, subst, arith}
use Rattle.std.specs.Prelude.{All, Result, Ok, Err, filter, flat_map, slice_get}
use Rattle.std.specs.List.{list_any}
use Rattle.std.proofs.lemmas.Bool.{or_left}
use Rattle.std.proofs.lemmas.List.Elements.{All-cons, All-filter, All-head, All-nil, All-tail}
use Rattle.validator_core.specs.Acceptance.Standing.{IsHeld}
use Rattle.cesr_stream.specs.Items.{Items}
use Rattle.cesr_stream.specs.Messages.{messages}
use Rattle.cesr_stream.specs.Parts.{unfinished}
use Rattle.event_body.specs.EventBody.Judging.{IsFirstFault, SpellsEvent}
use Rattle.event_body.specs.declared.event_body.body_fault.BodyFault.{BodyFault}
use Rattle.event_body.specs.declared.event_body.event.Event.{Event}
use Rattle.event_body.proofs.EventBodyLemmas.Whole.{no_fault, one_event}
use Rattle.journal.specs.Journal.Feeds.{GivesBody, IsHeardFrom, Judged, entry_of, entry_unless, is_taken_by, noted_at, reader_of, refusal_of}
use Rattle.journal.specs.Journal.History.{Told, Triple, heard, same_triple, took}
use Rattle.journal.specs.Journal.Questions.{IsInStep, IsRegular, questions}
use Rattle.journal.specs.Journal.Replies.{claims_of, refusal}
use Rattle.journal.specs.declared.journal.body.Body.{Body}
use Rattle.journal.specs.declared.journal.mode.Mode.TheVariants.{Full}
use Rattle.journal.specs.declared.journal.refusal.Refusal.{Refusal}
use Rattle.journal.proofs.JournalLemmas.Same.{same_triple_itself}
use Rattle.keri_outside.specs.declared.limits.Limits.{Limits}
use Rattle.export_core.specs.ExportLaws.Export.{AreRetold, SaysYes, Sent, sent_in}
use Rattle.export_core.proofs.ExportLawsLemmas.Signed.{unrefused}
use Rattle.watcher_core.specs.Evidence.{placed_from}
use Rattle.export_core.specs.ExportCore.Messages.{IsExportText}
use Rattle.export_core.specs.ExportCore.Retelling.{ReadsAlone, TakesBytes}
use Rattle.export_core.proofs.ExportCoreLemmas.Alike.{AreAlike, items_alike}
use Rattle.export_core.proofs.ExportCoreLemmas.LikeMessages.{AreLike, IsLikeMessage, MayBeTaken, reads_messages}
use Rattle.export_core.proofs.ExportCoreLemmas.Reading.{placed_items, spelled_reads, spells}

-- reading a body gives the event that it spells
body_given : (b : Body) (bytes : List ℕ) (given : Result Event BodyFault) → IsHeld b → bytes ≡ b.bytes → GivesBody bytes given → given ≡ Ok b.event
body_given b bytes (Ok e) held same gives = ap (λ x. Ok x) (one_event e b.event b.bytes (subst (SpellsEvent e) same gives.1) held.spelled)
body_given b bytes (Err fault) held same gives = absurd (no_fault b.event b.bytes fault held.spelled held.few (subst (λ t. IsFirstFault t fault) same gives))

-- MESSAGE: it isn't refused, and what is told of it is the message
module _ (m : Sent) (may : MayBeTaken m) (j : Judged) (like : IsLikeMessage m j.message) (gives : GivesBody j.message.body j.gives) where
  given : j.gives ≡ Ok m.body.event
  given = body_given m.body j.message.body j.gives may.held like.body gives

  unnoted : refusal j.message j.gives ≡ None
  unnoted = ap (refusal j.message) given ∙ unrefused j.message m.body.event may.event like.few (like.like.held ∙ may.signed)

  none_noted : refusal_of j ≡ []
  none_noted = ap (noted_at j.message.place) unnoted

  abbrev its_body : Body
  its_body = record { bytes = j.message.body; event = m.body.event }

  abbrev entry : Told
  entry = took 0 its_body (claims_of j.message)

  its_entry : entry_of 0 j ≡ entry ∷ []
  its_entry = λ i. entry_unless (unnoted i) 0 j.message (given i)

  abbrev read : Sent
  read = record { body = its_body; claims = claims_of j.message }

  its_message : TakesBytes entry → read ≡ m
  its_message raw = λ i. record { body = record { bytes = like.body i; event = m.body.event }; claims = like.like.same raw i }

-- MESSAGES
all_taken : (ms : List Sent) (offered : List Judged) → AreLike ms (map (λ j. j.message) offered) → All MayBeTaken ms → All (λ j. GivesBody j.message.body j.gives) offered
    → (flat_map refusal_of offered ≡ []) × (All TakesBytes (flat_map (entry_of 0) offered) → sent_in (flat_map (entry_of 0) offered) ≡ ms)
all_taken [] [] like may gives = (refl, λ raw. refl)
all_taken [] (j ∷ js) like may gives = absurd like
all_taken (m ∷ ms) [] like may gives = absurd like
all_taken (m ∷ ms) (j ∷ js) like may gives =
    let one = All-head MayBeTaken m ms may in
    let given = All-head (λ j. GivesBody j.message.body j.gives) j js gives in
    let rest = all_taken ms js like.1 (All-tail MayBeTaken m ms may) (All-tail (λ j. GivesBody j.message.body j.gives) j js gives) in
    let here = its_entry m one j like.0 given in
    let later : List Told = flat_map (entry_of 0) js in (
      λ i. none_noted m one j like.0 given i ++ rest.0 i,
      λ raw. let these = subst (λ es. All TakesBytes (es ++ later)) here raw in
          ap (λ es. sent_in (es ++ later)) here
          ∙ (λ i. its_message m one j like.0 given (All-head TakesBytes (entry m one j like.0 given) later these) i
          ∷ rest.1 (All-tail TakesBytes (entry m one j like.0 given) later these) i),
    )

-- there is no other reader
alone : (told : List Told) → All (λ t. reader_of t < 1) told → sent_in (filter (is_taken_by 0) told) ≡ sent_in told
alone [] only = refl
alone (took zero b claims ∷ told) only =
    ap (λ more. record { body = b; claims = claims } ∷ more) (alone told (All-tail (λ t. reader_of t < 1) (took zero b claims) told only))
alone (took (suc n) b claims ∷ told) only =
    let lost : suc n < 1 = All-head (λ t. reader_of t < 1) (took (suc n) b claims) told only in absurd (omega (arith, lost))
alone (heard reader b key sig verdict ∷ told) only = alone told (All-tail (λ t. reader_of t < 1) (heard reader b key sig verdict) told only)

says_yes : (told : List Told) → All (λ t. reader_of t < 1) told → All (IsHeardFrom 0 (λ key bytes sig. Some true)) told → All SaysYes told
says_yes [] only from = All-nil SaysYes
says_yes (took reader b claims ∷ told) only from = All-cons SaysYes (took reader b claims) told tt
    (says_yes told (All-tail (λ t. reader_of t < 1) (took reader b claims) told only) (All-tail (IsHeardFrom 0 (λ key bytes sig. Some true)) (took reader b claims) told from))
says_yes (heard zero b key sig verdict ∷ told) only from = All-cons SaysYes (heard zero b key sig verdict) told
    (All-head (IsHeardFrom 0 (λ key bytes sig. Some true)) (heard zero b key sig verdict) told from refl)
    (says_yes told (All-tail (λ t. reader_of t < 1) (heard zero b key sig verdict) told only)
    (All-tail (IsHeardFrom 0 (λ key bytes sig. Some true)) (heard zero b key sig verdict) told from))
says_yes (heard (suc n) b key sig verdict ∷ told) only from =
    let lost : suc n < 1 = All-head (λ t. reader_of t < 1) (heard (suc n) b key sig verdict) told only in absurd (omega (arith, lost))

-- the first open question is an open one
first_open : (ts : List Triple) (t : Triple) → slice_get ts 0 ≡ Some t → list_any (same_triple t) ts ≡ true
first_open [] t e = cc
first_open (u ∷ us) t e = let is : u ≡ t = cc e in or_left (same_triple t u) (list_any (same_triple t) us) (ap (same_triple t) is ∙ same_triple_itself t)

step_regular : (whole : List Told) → IsInStep Full whole → IsRegular Full [] whole
step_regular whole step earlier later reader b key sig verdict parts =
    first_open (questions Full [] earlier) (record { body = b.bytes; key = key; sig = sig }) (step earlier later (heard reader b key sig verdict) parts)

-- RETOLD
pub retold : (ms : List Sent) (text : List ℕ) → All MayBeTaken ms → All (λ m. IsHeld m.body) ms → IsExportText ms text
    → (limits : Limits) (refused : List Refusal) (whole : List Told) → ReadsAlone limits text refused whole → (refused ≡ []) × AreRetold ms whole
retold ms text may held is limits refused whole reads =
    let s = spells ms text held is in
    let feeds = reads.fed.each.0.0 in
    let all = feeds.all refl in
    let others : Items 65535 text all.items all.end = subst (λ n. Items n text all.items all.end) reads.body all.all in
    let alike = items_alike 65535 text (placed_from 0 s.items) all.items unfinished all.end (spelled_reads ms text s) others in
    let same : AreAlike s.items (map (λ p. p.item) all.items) = subst (λ xs. AreAlike xs (map (λ p. p.item) all.items)) (placed_items 0 s.items) alike in
    let made : map (λ j. j.message) feeds.offered ≡ messages 1024 all.items = all.made ∙ ap (λ n. messages n all.items) reads.signatures in
    let like = subst (AreLike ms) (sym made) (reads_messages ms s.items s.are_sent may all.items same) in
    let taken = all_taken ms feeds.offered like may feeds.bodies_are in
    let raw = subst (All TakesBytes) feeds.taken (All-filter (is_taken_by 0) TakesBytes whole reads.raw) in (
      feeds.refused ∙ taken.0,
      record {
        takes = sym (alone whole reads.fed.only) ∙ (ap sent_in feeds.taken ∙ taken.1 raw);
        waited = λ earlier later reader b claims parts. reads.in_step earlier later (took reader b claims) parts;
        regular = step_regular whole reads.in_step;
        none_open = reads.none_open;
        all_yes = says_yes whole reads.fed.only reads.fed.each.0.1;
      },
    )
