-- What stands at the front of bytes.
use Rattle.std.proofs.Common.{◌≡◌, ℕ, List, ◌++◌, length, take, drop, refl, sym, ap, ◌∙◌, append_assoc, codes, arith}
use Rattle.std.proofs.lemmas.List.{append_cancel_left, take_at, drop_at}
use Rattle.event_body.specs.BodyFields.Fronts.{between}
use Rattle.event_body.specs.BodyFields.Versions.{IsSize, version_text}

pub between_behind : (opening closing text rest : List ℕ) → between opening closing text ++ rest ≡ opening ++ (text ++ (closing ++ rest))
between_behind opening closing text rest = append_assoc opening (text ++ closing) rest ∙ ap (λ x. opening ++ x) (append_assoc text closing rest)

-- texts of one length at the front are one
pub same_split : (a b r s : List ℕ) → length a ≡ length b → a ++ r ≡ b ++ s → (a ≡ b) × (r ≡ s)
same_split a b r s len e =
    (sym (take_at a r (length b) len) ∙ ap (take (length b)) e ∙ take_at b s (length b) refl, sym (drop_at a r (length b) len) ∙ ap (drop (length b)) e ∙ drop_at b s (length b) refl)

-- what stands behind the opening
pub behind_opening : (opening closing text rest bytes behind : List ℕ) → bytes ≡ opening ++ behind → bytes ≡ between opening closing text ++ rest → behind ≡ text ++ (closing ++ rest)
behind_opening opening closing text rest bytes behind at e =
    append_cancel_left opening behind (text ++ (closing ++ rest)) (sym at ∙ e ∙ between_behind opening closing text rest)

-- what stands behind a text of which only one can
pub behind_text : (opening closing text rest bytes behind last : List ℕ) → bytes ≡ opening ++ behind → behind ≡ text ++ last → bytes ≡ between opening closing text ++ rest → last ≡ closing ++ rest
behind_text opening closing text rest bytes behind last at next e =
    append_cancel_left text last (closing ++ rest) (sym next ∙ behind_opening opening closing text rest bytes behind at e)

-- the version string at the front is one
pub same_version : (a b r s : List ℕ) → IsSize a → IsSize b → version_text a ++ r ≡ version_text b ++ s → (a ≡ b) × (r ≡ s)
same_version a b r s ia ib e =
    let tails = behind_opening (codes "{\"v\":\"KERI10JSON") (codes "_\"") a r _ _ (between_behind (codes "{\"v\":\"KERI10JSON") (codes "_\"") b s) (sym e) in
    let same = same_split b a (codes "_\"" ++ s) (codes "_\"" ++ r) (omega (arith, ia.0, ib.0)) tails in
    (sym same.0, append_cancel_left (codes "_\"") r s (sym same.1))
