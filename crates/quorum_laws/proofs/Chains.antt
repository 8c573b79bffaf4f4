-- In a grown list each event but an inception has its predecessor; in two grown lists without a clash the chains of one
-- event are the same.
use Rattle.std.proofs.Common.{◌≡◌, ℕ, zero, suc, ◌+◌, ◌-◌, ◌<◌, true, false, not, ◌&&◌, List, Option, Some, None, is_none, Contains, refl, sym, ◌∙◌, ap, arith, subst, eq-eqb, ◌==◌}
use Rattle.std.specs.List.{list_any}
use Rattle.std.proofs.lemmas.List.Elements.{Contains-append_left, Contains-append_right}
use Rattle.std.proofs.lemmas.List.Folds.{list_any-append}
use Rattle.std.proofs.lemmas.Bool.{and_parts, and_from, or_parts, or_left, not-false, not-true, leb-false, eqb-true}
use Rattle.cesr_codes.specs.declared.digest.Digest.{Digest}
use Rattle.cesr_codes.specs.declared.prefix.Prefix.TheVariants.{Said}
use Rattle.event_body.specs.declared.event_body.event.Event.{Event}
use Rattle.event_body.specs.declared.event_body.event.Event.TheVariants.{Icp, Rot, Ixn, Dip, Drt, Rct}
use Rattle.event_body.specs.EventBody.Events.{prefix_of, sn_of, said_of, prior_of, is_inception, is_receipt}
use Rattle.key_state.specs.Heads.{head_sn}
use Rattle.key_state.specs.KeyStates.{digest_at, misfit, are_same, is_other_sn}
use Rattle.key_state.specs.Same.{same_digest}
use Rattle.key_state.specs.States.{State}
use Rattle.key_state.proofs.NoMisfit.{fits_prior, fits_sn}
use Rattle.key_state.proofs.Same.{same_prefix_is, same_prefix_itself}
use Rattle.journal.specs.declared.journal.body.Body.{Body}
use Rattle.journal.specs.Journal.Logs.{is_in, is_of, state, takes, precedes, predecessor}
use Rattle.journal.specs.Journal.Grown.{IsGrown, fits, chain_back}
use Rattle.journal.proofs.JournalLemmas.Settling.{find-true}
use Rattle.quorum_laws.specs.Agreement.{NoClash}
use Rattle.quorum_laws.proofs.Members.{find_contains, find_some, member_any, parts_at}
use Rattle.quorum_laws.proofs.StateNames.{NamesIf, state_names}

-- digests are identifiers too, so their test decides as that of identifiers does
same_digest_is : (d e : Digest) → same_digest d e ≡ true → d ≡ e
same_digest_is d e h = let same : Said d ≡ Said e = same_prefix_is (Said d) (Said e) h in cc

same_digest_itself : (d : Digest) → same_digest d d ≡ true
same_digest_itself d = same_prefix_itself (Said d)

-- an event that follows a state isn't at number 0
sn_positive : (s : State) (e : Event) → is_other_sn s e ≡ false → is_inception e ≡ false → is_receipt e ≡ false → 0 < sn_of e
sn_positive s (Rot e) h i r = let above = leb-false e.sn s.est_sn (or_parts _ _ h).0 in omega arith
sn_positive s (Ixn e) h i r = let next = eqb-true e.sn (head_sn s + 1) (not-false _ h) in omega arith
sn_positive s (Drt e) h i r = let next = eqb-true e.sn (head_sn s + 1) (not-false _ h) in omega arith
sn_positive s (Icp e) h i r = cc
sn_positive s (Dip e) h i r = cc
sn_positive s (Rct e) h i r = cc

-- two digests that are the same stand on both sides
are_same-some : (o p : Option Digest) → are_same o p ≡ true → (d : Digest) × (o ≡ Some d) × (p ≡ Some d)
are_same-some None p h = cc
are_same-some (Some d) None h = cc
are_same-some (Some d) (Some e) h = (d, refl, ap Some (sym (same_digest_is d e h)))

are_same-itself : (o : Option Digest) (d : Digest) → o ≡ Some d → are_same o (Some d) ≡ true
are_same-itself o d e = rw e (same_digest_itself d)

-- what is none is None
none_is : {X : Type 0} (o : Option X) → is_none o ≡ true → o ≡ None
none_is None h = refl
none_is (Some x) h = cc

-- the event that a state takes follows some event of the list
taken_precedes : (front : List Body) (b : Body) (o : Option State) → NamesIf (prefix_of b.event) front o
    → is_inception b.event ≡ false → is_receipt b.event ≡ false → takes o b.event ≡ true → list_any (precedes b) front ≡ true
taken_precedes front b None names i r h = cc
taken_precedes front b (Some s) names i r h =
    let none = none_is (misfit s b.event) h in
    let positive = sn_positive s b.event (fits_sn s b.event none) i r in
    let prior = are_same-some (prior_of b.event) (digest_at s (sn_of b.event - 1)) (not-false _ (fits_prior s b.event none)) in
    let m = names.named (sn_of b.event - 1) prior.0 prior.2 in
    let sn : sn_of m.body.event ≡ sn_of b.event - 1 = m.sn in
    let named : prior_of b.event ≡ Some (said_of m.body.event) = prior.1 ∙ ap Some (sym m.said) in
    let same : are_same (prior_of b.event) (Some (said_of m.body.event)) ≡ true = are_same-itself (prior_of b.event) (said_of m.body.event) named in
    member_any (precedes b) front m.body m.inside (and_from _ _ (and_from _ _ m.of (eq-eqb (sn_of m.body.event + 1) (sn_of b.event) (omega arith))) same)

-- PREDECESSOR: in a grown list each event but an inception has one
pub grown_predecessor : (log : List Body) (b : Body) → IsGrown log → Contains log b → is_inception b.event ≡ false → (c : Body) × (predecessor log b ≡ Some c)
unfolding fits predecessor
grown_predecessor log b grown inside i =
    let (front, later, e) = parts_at log b inside in
    let here = and_parts (not (is_receipt b.event) && not (is_in front b)) (takes (state front (prefix_of b.event)) b.event) (grown front later b e) in
    let r = not-true _ (and_parts (not (is_receipt b.event)) _ here.0).0 in
    let any = taken_precedes front b (state front (prefix_of b.event)) (state_names (prefix_of b.event) front) i r here.1 in
    find_some (precedes b) log (rw (e, list_any-append) (or_left _ _ any))

-- an inception has the number 0
inception_sn : (e : Event) → 0 < sn_of e → is_inception e ≡ false
inception_sn (Icp e) h = absurd (omega arith)
inception_sn (Dip e) h = absurd (omega arith)
inception_sn (Rot e) h = refl
inception_sn (Ixn e) h = refl
inception_sn (Drt e) h = refl
inception_sn (Rct e) h = refl

-- both digests are the one that the body names
one_prior : (o : Option Digest) (d e : Digest) → are_same o (Some d) ≡ true → are_same o (Some e) ≡ true → d ≡ e
one_prior None d e h k = cc
one_prior (Some q) d e h k = sym (same_digest_is q d h) ∙ same_digest_is q e k

-- what comes right before a body
precedes_parts : (b c : Body) → precedes b c ≡ true → (sn_of c.event + 1 ≡ sn_of b.event) × (are_same (prior_of b.event) (Some (said_of c.event)) ≡ true)
precedes_parts b c h =
    let parts = and_parts (is_of (prefix_of b.event) c && (sn_of c.event + 1 == sn_of b.event)) (are_same (prior_of b.event) (Some (said_of c.event))) h in
    (eqb-true (sn_of c.event + 1) (sn_of b.event) (and_parts (is_of (prefix_of b.event) c) (sn_of c.event + 1 == sn_of b.event) parts.0).1, parts.1)

-- ONE CHAIN: an event of two grown lists without a clash has the same chain in both
module _ (xs ys : List Body) (grown : IsGrown xs) (grown' : IsGrown ys) (no_clash : NoClash xs ys)
    (alike : (b c : Body) → Contains xs b → Contains ys c → b.bytes ≡ c.bytes → b ≡ c) where
  pub chain_same : (n : ℕ) (b : Body) → Contains xs b → Contains ys b → sn_of b.event ≡ n → chain_back xs n b ≡ chain_back ys n b
  unfolding chain_back predecessor
  chain_same zero b inx iny sn = refl
  chain_same (suc n) b inx iny sn =
      let i = inception_sn b.event (omega (arith, sn)) in
      let (c, e) = grown_predecessor xs b grown inx i in
      let (d, f) = grown_predecessor ys b grown' iny i in
      let before_c = precedes_parts b c (find-true (precedes b) xs c e) in
      let before_d = precedes_parts b d (find-true (precedes b) ys d f) in
      let c_in = find_contains (precedes b) xs c e in
      let d_in = find_contains (precedes b) ys d f in
      let said = one_prior (prior_of b.event) (said_of c.event) (said_of d.event) before_c.1 before_d.1 in
      let is : c ≡ d = alike c d c_in d_in (no_clash c d (Contains-append_left xs ys c c_in) (Contains-append_right xs ys d d_in) said) in
      let lower : sn_of c.event ≡ n = omega (arith, sn, before_c.0) in
      let rest = chain_same n c c_in (subst (λ z. Contains ys z) (sym is) d_in) lower in
      rw (e, f, ← is, rest) refl
