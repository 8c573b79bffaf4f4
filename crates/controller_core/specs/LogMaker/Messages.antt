-- The messages of a made log: events with signatures and receipts (own).
use Rattle.std.specs.Prelude.{◌≡◌, ℕ, true, false, List, [], ◌∷◌, ◌++◌, codes}
use Rattle.std.proofs.Common.{refl}
use Rattle.std.specs.declared.option.Option.TheVariants.{Some}
use Rattle.lists.specs.KeriSpecs.Base64.{base64_text, whole_number}
use Rattle.cesr_codes.specs.Indices.{has_form, indexed_code, index_text}
use Rattle.cesr_codes.specs.declared.indexed_sig.IndexedSig.{IndexedSig}
use Rattle.cesr_codes.specs.declared.key.Key.{Key}
use Rattle.cesr_codes.specs.declared.sig.Sig.{Sig}
use Rattle.keri_outside.specs.Rehearsal.{rehearsed}
use Rattle.cesr_stream.specs.declared.group.Group.{Group}
use Rattle.cesr_stream.specs.declared.group.Group.TheVariants.{Controller, Witness}
use Rattle.cesr_stream.specs.Texts.{group_text}
use Rattle.controller_core.specs.LogMaker.Names.{log_key, log_witness}
use Rattle.controller_core.specs.LogMaker.Draws.{key_number}
use Rattle.controller_core.specs.LogMaker.Plans.{event_at, event_text}

-- the rehearsal's signature of a key on a body, for the key's place in the current list and in the next one
abbrev pub signature : (place : ℕ) → has_form false place (Some place) ≡ true → Key → List ℕ → IndexedSig
signature place form key body = record { big = false; index = place; ondex = Some place; sig = rehearsed key body; form = form }

-- its text: the code, a digit for the place, and 86 digits of the signature
abbrev pub signature_text : ℕ → Sig → List ℕ
signature_text place sig = indexed_code false (Some place) ++ index_text false place (Some place) ++ base64_text 86 (whole_number sig.raw)

-- the signature of the signing key
abbrev pub signatures : Key → List ℕ → Group
signatures key body = Controller (signature 0 refl key body ∷ [])

-- the signatures of the first three of a log's four witnesses
abbrev pub receipts : ℕ → ℕ → List ℕ → Group
receipts seed log body = Witness (signature 0 refl (log_witness seed log 0) body ∷ signature 1 refl (log_witness seed log 1) body ∷ signature 2 refl (log_witness seed log 2) body ∷ [])

-- a body with its signature and its receipts
unfoldable pub signed_text : ℕ → ℕ → Key → List ℕ → List ℕ
signed_text seed log key body = body ++ (group_text (signatures key body) ++ group_text (receipts seed log body))

-- the message of the event of this sequence number
unfoldable pub message_text : ℕ → ℕ → ℕ → List ℕ
message_text seed log sn = signed_text seed log (log_key seed log (key_number seed log sn)) (event_text (event_at seed log sn))

-- a body with these signatures behind it, part by part
abbrev pub text_with : List ℕ → Sig → Sig → Sig → Sig → List ℕ
text_with body sig first second third = body ++ codes "-AAB" ++ signature_text 0 sig ++ codes "-BAD" ++ signature_text 0 first ++ signature_text 1 second ++ signature_text 2 third
