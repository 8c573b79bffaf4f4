-- Messages as texts one behind the other.
use Rattle.std.proofs.Common.{◌≡◌, ℕ, List, [], ◌∷◌, ◌++◌, codes, refl, append_assoc, append-nil}
use Rattle.lists.specs.KeriSpecs.Base64.{base64_text, digits_in}
use Rattle.cesr_codes.specs.declared.key.Key.{Key}
use Rattle.cesr_codes.specs.declared.sig.Sig.{Sig}
use Rattle.keri_outside.specs.Rehearsal.{rehearsed}
use Rattle.controller_core.specs.LogMaker.Plans.{event_at, event_text}
use Rattle.controller_core.specs.LogMaker.Names.{log_witness}
use Rattle.controller_core.specs.LogMaker.Messages.{signature_text, signed_text, text_with, message_text}

one_text : base64_text 2 1 ≡ codes "AB"
unfolding digits_in
one_text = refl

three_text : base64_text 2 3 ≡ codes "AD"
unfolding digits_in
three_text = refl

joined : (body a b s u v w : List ℕ) → a ≡ codes "AB" → b ≡ codes "AD"
    → body ++ ((codes "-A" ++ (a ++ (s ++ []))) ++ (codes "-B" ++ (b ++ (u ++ (v ++ (w ++ []))))))
    ≡ (((((body ++ codes "-AAB") ++ s) ++ codes "-BAD") ++ u) ++ v) ++ w
joined body a b s u v w a_is b_is = rw (a_is, b_is, append-nil s, append-nil w) (simp append_assoc)

-- the parts of a message in the order in which they are written
pub signed_parts : (seed log : ℕ) (key : Key) (body : List ℕ)
    → signed_text seed log key body ≡ text_with body (rehearsed key body) (rehearsed (log_witness seed log 0) body) (rehearsed (log_witness seed log 1) body) (rehearsed (log_witness seed log 2) body)
unfolding signed_text
signed_parts seed log key body =
    joined body (base64_text 2 1) (base64_text 2 3) (signature_text 0 (rehearsed key body)) (signature_text 0 (rehearsed (log_witness seed log 0) body)) (signature_text 1 (rehearsed (log_witness seed log 1) body))
    (signature_text 2 (rehearsed (log_witness seed log 2) body)) one_text three_text

-- the text with the same signatures
pub same_sigs : (body : List ℕ) {a b c d e f g h : Sig} → a ≡ e → b ≡ f → c ≡ g → d ≡ h → text_with body a b c d ≡ text_with body e f g h
same_sigs body ae bf cg dh = λ i. text_with body (ae i) (bf i) (cg i) (dh i)

some_text : (front rest : List ℕ) (c : ℕ) → front ++ (c ∷ rest) ≡ [] → ⊥
some_text [] rest c is = cc is
some_text (x ∷ front) rest c is = cc is

-- a message is some text
pub some_message : (seed log sn : ℕ) → message_text seed log sn ≡ [] → ⊥
unfolding message_text signed_text
some_message seed log sn is = some_text (event_text (event_at seed log sn)) _ _ is
