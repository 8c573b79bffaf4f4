-- What is spelled is read, and each list of bytes spells one event at most.
use Rattle.std.proofs.Common.{◌≡◌, ℕ, ◌^◌, ◌<◌, ◌≤◌, ◌≢◌, ◌⊎◌, List, length, refl, sym, ap, subst, arith, inl, inr, Ok, Err, Result}
use Rattle.json_tree.specs.declared.tree.Tree.{Tree}
use Rattle.event_body.specs.declared.body_fields.kind.Kind.{Kind}
use Rattle.event_body.specs.declared.body_fields.fields_fault.FieldsFault.TheVariants.{OtherSize, Ends}
use Rattle.event_body.specs.BodyFields.Faults.{IsFault}
use Rattle.event_body.specs.declared.body_fields.fields_fault.FieldsFault.{FieldsFault}
use Rattle.event_body.specs.declared.body_fields.fields_fault.FieldsFault.TheVariants as no_fields
use Rattle.event_body.specs.BodyFields.Bodies.{IsBody}
use Rattle.event_body.proofs.BodyFieldsLemmas.Texts.{is_body, text_is}
use Rattle.event_body.proofs.BodyFieldsLemmas.Whole as bodies
use Rattle.event_body.specs.declared.event_body.event.Event.{Event}
use Rattle.event_body.specs.declared.event_body.body_fault.BodyFault.{BodyFault}
use Rattle.event_body.specs.declared.event_body.body_fault.BodyFault.TheVariants.{Field, SizeField, Said, Prefix, Threshold, Witnesses, TooMany, NumberTooLarge, TooLarge}
use Rattle.event_body.specs.declared.event_body.body_fault.ReadBody.{ReadBody}
use Rattle.event_body.specs.declared.event_body.body_fault.ReadBody.TheVariants.{Fault, OutOfMemory}
use Rattle.event_body.specs.EventBody.Ranges.{AreInRange}
use Rattle.event_body.specs.EventBody.Spelling.{body_kind, values_of}
use Rattle.event_body.specs.EventBody.Rules.{AreFew, AreShort, HasThresholds, AreWitnesses, HasPrefix, HasSaid}
use Rattle.event_body.specs.EventBody.Judging.{HasEvent, SpellsEvent, IsFirstFault, Judges}
use Rattle.event_body.proofs.EventBodyLemmas.Parts as parts

-- a body has no fault in its form
no_form_fault : (kind : Kind) (values : List Tree) (bytes : List ℕ) → IsBody kind values bytes → (fault : FieldsFault) → fault ≢ no_fields.OutOfMemory → ¬ IsFault bytes fault
no_form_fault kind values bytes body fault other is = elim (bodies.whole bytes (Err fault) tt is kind values body) [ inl e ↦ cc e | inr e ↦ other (cc e) ]

-- a rule of the values is one of a body
same_values : (P : Kind → List Tree → Type 0) (k l : Kind) (v w : List Tree) (bytes : List ℕ) → IsBody k v bytes → IsBody l w bytes → P k v → P l w
same_values P k l v w bytes ours theirs p =
    let same = bodies.one_body k l v w bytes ours theirs in
    subst (P l) same.1 (subst (λ kind. P kind v) same.0 p)

-- an event's text is a body of its values
body_of : (event : Event) (bytes : List ℕ) → HasEvent event bytes → IsBody (body_kind event) (values_of event) bytes
body_of event bytes has = subst (IsBody (body_kind event) (values_of event)) (sym has.text) (is_body (body_kind event) (values_of event) has.forms (subst (λ text. length text < 2 ^ 24) has.text has.sized))

-- a body of an event's values, of which no rule fails, is the event's text
pub has_event : (event : Event) (kind : Kind) (values : List Tree) (bytes : List ℕ) → length bytes ≤ 65535 → IsBody kind values bytes → AreFew kind values → AreShort kind values → HasThresholds kind values
    → body_kind event ≡ kind → values ≡ values_of event → AreInRange event → HasEvent event bytes
has_event event kind values bytes small body few short thresholds of_kind are ranges =
    let own : IsBody (body_kind event) (values_of event) bytes = subst (λ k. IsBody k (values_of event) bytes) (sym of_kind) (subst (λ vs. IsBody kind vs bytes) are body) in
    record {
      text = text_is (body_kind event) (values_of event) bytes own;
      sized = omega (arith, small);
      ranges = ranges;
      forms = own.of_forms;
      few = same_values AreFew kind (body_kind event) values (values_of event) bytes body own few;
      short = same_values AreShort kind (body_kind event) values (values_of event) bytes body own short;
      thresholds = same_values HasThresholds kind (body_kind event) values (values_of event) bytes body own thresholds;
    }

module _ (bytes : List ℕ) (e f : Event) (p : HasEvent e bytes) (q : HasEvent f bytes) where
  same_event : e ≡ f
  same_event =
      let same = bodies.one_body (body_kind e) (body_kind f) (values_of e) (values_of f) bytes (body_of e bytes p) (body_of f bytes q) in
      parts.one_event e f same.0 p.ranges q.ranges same.1

-- one list of bytes spells one event at most
pub one_event : (e f : Event) (bytes : List ℕ) → SpellsEvent e bytes → SpellsEvent f bytes → e ≡ f
one_event e f bytes ours theirs = same_event bytes e f ours.has theirs.has

-- a body that spells an event fails no rule
pub no_fault : (event : Event) (bytes : List ℕ) (fault : BodyFault) → SpellsEvent event bytes → length bytes ≤ 65535 → ¬ IsFirstFault bytes fault
no_fault event bytes TooLarge spells few fault = omega (arith, fault)
no_fault event bytes SizeField spells few fault = no_form_fault _ _ bytes (body_of event bytes spells.has) OtherSize (λ e. cc e) fault.1
no_fault event bytes (Field n) spells few fault = no_form_fault _ _ bytes (body_of event bytes spells.has) (Ends n) (λ e. cc e) (fault.1, fault.2)
no_fault event bytes TooMany spells few (_, (kind, values, body, rule)) = rule (same_values AreFew _ kind _ values bytes (body_of event bytes spells.has) body spells.has.few)
no_fault event bytes NumberTooLarge spells few (_, (kind, values, body, (_, rule))) = rule (same_values AreShort _ kind _ values bytes (body_of event bytes spells.has) body spells.has.short)
no_fault event bytes Threshold spells few (_, (kind, values, body, (_, _, rule))) = rule (same_values HasThresholds _ kind _ values bytes (body_of event bytes spells.has) body spells.has.thresholds)
no_fault event bytes Witnesses spells few (_, (other, has, rule)) = rule (subst AreWitnesses (same_event bytes event other spells.has has) spells.witnesses)
no_fault event bytes Prefix spells few (_, (other, has, (_, rule))) = rule (subst HasPrefix (same_event bytes event other spells.has has) spells.prefix)
no_fault event bytes Said spells few (_, (other, has, (_, _, rule))) = rule (subst HasSaid (same_event bytes event other spells.has has) spells.said)

-- what is spelled is read, but for want of memory
pub whole : (event : Event) (bytes : List ℕ) (result : Result Event ReadBody) → Judges bytes result → SpellsEvent event bytes → length bytes ≤ 65535
    → (result ≡ Ok event) ⊎ (result ≡ Err OutOfMemory)
whole event bytes (Ok other) judged spells few = inl (ap Ok (one_event other event bytes judged.1 spells))
whole event bytes (Err (Fault fault)) judged spells few = absurd (no_fault event bytes fault spells few judged)
whole event bytes (Err OutOfMemory) judged spells few = inr refl
