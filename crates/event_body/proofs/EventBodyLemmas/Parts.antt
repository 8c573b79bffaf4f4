-- An event's values are those of no other.
use Rattle.std.proofs.Common.{◌≡◌, ℕ, ◌^◌, ◌<◌, false, List, [], ◌++◌, refl, sym, ap, subst, ◌∙◌, Option, Some, None}
use Rattle.std.specs.Prelude.{IfSome}
use Rattle.std.specs.Fmt.{digits}
use Rattle.lists.specs.KeriSpecs.Hex.{hex_value}
use Rattle.cesr_codes.specs.declared.digest.Digest.{Digest}
use Rattle.cesr_codes.specs.declared.key.Key.{Key}
use Rattle.cesr_codes.specs.declared.prefix.Prefix.{Prefix}
use Rattle.cesr_codes.specs.Spelling.{digest_text, key_text, prefix_text, IsDigest, IsKey, IsPrefix}
use Rattle.cesr_codes.proofs.Same.{same_digest, same_key, same_prefix}
use Rattle.json_tree.specs.declared.tree.Tree.TheVariants.{Str}
use Rattle.sith.specs.declared.threshold.Threshold.{Threshold}
use Rattle.sith.specs.Thresholds.{Spells, threshold_value}
use Rattle.sith.proofs.Numerals.{hex_is}
use Rattle.sith.proofs.OneThreshold.{one_threshold, text_injective}
use Rattle.sith.proofs.Values.{list_injective}
use Rattle.event_body.specs.BodyFields.Forms.{digest_value, key_value, prefix_value, number_value}
use Rattle.event_body.specs.declared.event_body.event.Event.{Event}
use Rattle.event_body.specs.declared.event_body.event.Event.TheVariants.{Icp, Rot, Ixn, Dip, Drt, Rct}
use Rattle.event_body.specs.declared.event_body.inception.Inception.{Inception}
use Rattle.event_body.specs.declared.event_body.rotation.Rotation.{Rotation}
use Rattle.event_body.specs.declared.event_body.interaction.Interaction.{Interaction}
use Rattle.event_body.specs.declared.event_body.receipt_body.ReceiptBody.{ReceiptBody}
use Rattle.event_body.specs.EventBody.Typed.{IsTyped, IsTypedInception, IsTypedRotation, IsTypedInteraction, IsTypedReceipt}
use Rattle.event_body.specs.EventBody.Ranges.{AreInRange, IsInception, IsRotation, IsInteraction, IsReceipt}
use Rattle.event_body.specs.EventBody.Spelling.{body_kind, delegator_values, values_of}
use Rattle.event_body.proofs.EventBodyLemmas.Values.{one_list, one_strings}

-- a string spells one primitive
module _ {A : Type 0} (text : A → List ℕ) (IsValid : A → Type 0) (same : (a b : A) (r s : List ℕ) → IsValid a → IsValid b → text a ++ r ≡ text b ++ s → (a ≡ b) × (r ≡ s)) where
  one : (a b : A) → IsValid a → IsValid b → Str (text a) ≡ Str (text b) → a ≡ b
  one a b ia ib e = (same a b [] [] ia ib (ap (λ t. t ++ []) (text_injective (text a) (text b) e))).0

one_digest : (a b : Digest) → IsDigest a → IsDigest b → digest_value a ≡ digest_value b → a ≡ b
one_digest = one digest_text IsDigest same_digest

one_key : (a b : Key) → IsKey a → IsKey b → key_value a ≡ key_value b → a ≡ b
one_key = one key_text IsKey same_key

one_prefix : (a b : Prefix) → IsPrefix a → IsPrefix b → prefix_value a ≡ prefix_value b → a ≡ b
one_prefix = one prefix_text IsPrefix same_prefix

one_number : (m n : ℕ) → m < 2 ^ 64 → n < 2 ^ 64 → number_value m ≡ number_value n → m ≡ n
one_number m n few less e = sym (hex_is m few).1 ∙ ap hex_value (text_injective (digits 16 false m) (digits 16 false n) e) ∙ (hex_is n less).1

one_delegator : (a b : Option Prefix) → IfSome a IsPrefix → IfSome b IsPrefix → delegator_values a ≡ delegator_values b → a ≡ b
one_delegator None None ia ib e = refl
one_delegator None (Some b) ia ib e = cc e
one_delegator (Some a) None ia ib e = cc e
one_delegator (Some a) (Some b) ia ib e = let first : prefix_value a ≡ prefix_value b = cc e in ap Some (one_prefix a b ia ib first)

-- values of which a threshold is the own one
abbrev pub Matches : Threshold → Threshold → Type 0
Matches t u = threshold_value t ≡ threshold_value u → t ≡ u

module _ (e f : Inception) (p : IsInception e) (q : IsTypedInception f) (kt : Matches e.kt f.kt) (nt : Matches e.nt f.nt) (rows : values_of (Icp e) ≡ values_of (Icp f)) where
  one_inception : e ≡ f
  one_inception =
      let said = one_digest e.said f.said p.said_held q.said (cc rows) in
      let prefix = one_prefix e.prefix f.prefix p.prefix_held q.prefix (cc rows) in
      let same_kt = kt (cc rows) in
      let keys = one_list key_value IsKey one_key e.keys f.keys p.keys_held q.keys (cc rows) in
      let same_nt = nt (cc rows) in
      let next = one_list digest_value IsDigest one_digest e.next f.next p.next_held q.next (cc rows) in
      let toad = one_number e.toad f.toad p.toad_held q.toad (cc rows) in
      let list = one_list key_value IsKey one_key e.list f.list p.list_held q.list (cc rows) in
      let traits = one_strings e.traits f.traits (cc rows) in
      let anchors = list_injective e.anchors f.anchors (cc rows) in
      let delegator = one_delegator e.delegator f.delegator p.delegator_held q.delegator (cc rows) in
      λ i. record {
        said = said i;
        prefix = prefix i;
        kt = same_kt i;
        keys = keys i;
        nt = same_nt i;
        next = next i;
        toad = toad i;
        list = list i;
        traits = traits i;
        anchors = anchors i;
        delegator = delegator i;
      }

module _ (e f : Rotation) (p : IsRotation e) (q : IsTypedRotation f) (kt : Matches e.kt f.kt) (nt : Matches e.nt f.nt) (rows : values_of (Rot e) ≡ values_of (Rot f)) where
  one_rotation : e ≡ f
  one_rotation =
      let said = one_digest e.said f.said p.said_held q.said (cc rows) in
      let prefix = one_prefix e.prefix f.prefix p.prefix_held q.prefix (cc rows) in
      let sn = one_number e.sn f.sn p.sn_held q.sn (cc rows) in
      let prior = one_digest e.prior f.prior p.prior_held q.prior (cc rows) in
      let same_kt = kt (cc rows) in
      let keys = one_list key_value IsKey one_key e.keys f.keys p.keys_held q.keys (cc rows) in
      let same_nt = nt (cc rows) in
      let next = one_list digest_value IsDigest one_digest e.next f.next p.next_held q.next (cc rows) in
      let toad = one_number e.toad f.toad p.toad_held q.toad (cc rows) in
      let cuts = one_list key_value IsKey one_key e.cuts f.cuts p.cuts_held q.cuts (cc rows) in
      let adds = one_list key_value IsKey one_key e.adds f.adds p.adds_held q.adds (cc rows) in
      let anchors = list_injective e.anchors f.anchors (cc rows) in
      λ i. record {
        said = said i;
        prefix = prefix i;
        sn = sn i;
        prior = prior i;
        kt = same_kt i;
        keys = keys i;
        nt = same_nt i;
        next = next i;
        toad = toad i;
        cuts = cuts i;
        adds = adds i;
        anchors = anchors i;
      }

one_interaction : (e f : Interaction) → IsInteraction e → IsTypedInteraction f → values_of (Ixn e) ≡ values_of (Ixn f) → e ≡ f
one_interaction e f p q rows =
    let said = one_digest e.said f.said p.said_held q.said (cc rows) in
    let prefix = one_prefix e.prefix f.prefix p.prefix_held q.prefix (cc rows) in
    let sn = one_number e.sn f.sn p.sn_held q.sn (cc rows) in
    let prior = one_digest e.prior f.prior p.prior_held q.prior (cc rows) in
    let anchors = list_injective e.anchors f.anchors (cc rows) in
    λ i. record { said = said i; prefix = prefix i; sn = sn i; prior = prior i; anchors = anchors i }

one_receipt : (e f : ReceiptBody) → IsReceipt e → IsTypedReceipt f → values_of (Rct e) ≡ values_of (Rct f) → e ≡ f
one_receipt e f p q rows =
    let said = one_digest e.said f.said p.said_held q.said (cc rows) in
    let prefix = one_prefix e.prefix f.prefix p.prefix_held q.prefix (cc rows) in
    let sn = one_number e.sn f.sn p.sn_held q.sn (cc rows) in
    λ i. record { said = said i; prefix = prefix i; sn = sn i }

-- the thresholds of two events of a kind
abbrev pub MatchThresholds : Event → Event → Type 0
MatchThresholds (Icp e) (Icp f) = Matches e.kt f.kt × Matches e.nt f.nt
MatchThresholds (Dip e) (Dip f) = Matches e.kt f.kt × Matches e.nt f.nt
MatchThresholds (Rot e) (Rot f) = Matches e.kt f.kt × Matches e.nt f.nt
MatchThresholds (Drt e) (Drt f) = Matches e.kt f.kt × Matches e.nt f.nt
MatchThresholds _ _ = Unit {0}

-- events of a kind with the same values are one
pub same_event : (e f : Event) → body_kind e ≡ body_kind f → AreInRange e → IsTyped f → MatchThresholds e f → values_of e ≡ values_of f → e ≡ f
same_event (Icp e) (Icp f) kind p q (kt, nt) rows = ap Icp (one_inception e f p q kt nt rows)
same_event (Rot e) (Rot f) kind p q (kt, nt) rows = ap Rot (one_rotation e f p q kt nt rows)
same_event (Ixn e) (Ixn f) kind p q match rows = ap Ixn (one_interaction e f p q rows)
same_event (Dip e) (Dip f) kind p q (kt, nt) rows = ap Dip (one_inception e f p q kt nt rows)
same_event (Drt e) (Drt f) kind p q (kt, nt) rows = ap Drt (one_rotation e f p q kt nt rows)
same_event (Rct e) (Rct f) kind p q match rows = ap Rct (one_receipt e f p q rows)
same_event _ _ kind p q match rows = cc kind

inception_held : (e : Inception) → IsInception e → IsTypedInception e
inception_held e r = record {
  said = r.said_held;
  prefix = r.prefix_held;
  keys = r.keys_held;
  next = r.next_held;
  toad = r.toad_held;
  list = r.list_held;
  delegator = r.delegator_held;
}

rotation_held : (e : Rotation) → IsRotation e → IsTypedRotation e
rotation_held e r = record {
  said = r.said_held;
  prefix = r.prefix_held;
  sn = r.sn_held;
  prior = r.prior_held;
  keys = r.keys_held;
  next = r.next_held;
  toad = r.toad_held;
  cuts = r.cuts_held;
  adds = r.adds_held;
}

-- parts in their ranges are in those of their types
pub range_held : (event : Event) → AreInRange event → IsTyped event
range_held (Icp e) r = inception_held e r
range_held (Rot e) r = rotation_held e r
range_held (Ixn e) r = record { said = r.said_held; prefix = r.prefix_held; sn = r.sn_held; prior = r.prior_held }
range_held (Dip e) r = inception_held e r
range_held (Drt e) r = rotation_held e r
range_held (Rct e) r = record { said = r.said_held; prefix = r.prefix_held; sn = r.sn_held }

matches : (t u : Threshold) → Spells t (threshold_value t) → Spells u (threshold_value u) → Matches t u
matches t u ours theirs e = one_threshold t u (threshold_value u) (subst (Spells t) e ours) theirs

range_matches : (e f : Event) → AreInRange e → AreInRange f → MatchThresholds e f
range_matches (Icp e) (Icp f) p q = (matches e.kt f.kt p.kt_spelled q.kt_spelled, matches e.nt f.nt p.nt_spelled q.nt_spelled)
range_matches (Dip e) (Dip f) p q = (matches e.kt f.kt p.kt_spelled q.kt_spelled, matches e.nt f.nt p.nt_spelled q.nt_spelled)
range_matches (Rot e) (Rot f) p q = (matches e.kt f.kt p.kt_spelled q.kt_spelled, matches e.nt f.nt p.nt_spelled q.nt_spelled)
range_matches (Drt e) (Drt f) p q = (matches e.kt f.kt p.kt_spelled q.kt_spelled, matches e.nt f.nt p.nt_spelled q.nt_spelled)
range_matches _ _ p q = tt

pub one_event : (e f : Event) → body_kind e ≡ body_kind f → AreInRange e → AreInRange f → values_of e ≡ values_of f → e ≡ f
one_event e f kind p q rows = same_event e f kind p (range_held f q) (range_matches e f p q) rows
