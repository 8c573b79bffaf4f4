-- Items that are read on.
use Rattle.std.proofs.Common.{◌≡◌, ◌≢◌, ℕ, ◌≤◌, ◌==◌, Bool, List, [], ◌∷◌, ◌++◌, length, length-take, take, drop, slice_index, refl, sym, ap, ◌∙◌, arith, append-nil, append_assoc, length-append, Option, Some, None, subst}
use Rattle.std.proofs.lemmas.List.{take-append-drop}
use Rattle.std.proofs.lemmas.Bool.{eqb-true, eq-eqb, le-ltb, false_from_ne_true}
use Rattle.cesr_stream.specs.declared.begun_group.BegunGroup.{BegunGroup}
use Rattle.cesr_stream.specs.declared.begun_wrap.BegunWrap.{BegunWrap}
use Rattle.cesr_stream.specs.declared.begun_item.BegunItem.{BegunItem}
use Rattle.cesr_stream.specs.declared.begun_item.BegunItem.TheVariants.{Body, Group, Wrap}
use Rattle.cesr_stream.specs.declared.stop.Stop.{Stop}
use Rattle.cesr_stream.specs.declared.item.Item.TheVariants.{Body as BodyItem}
use Rattle.cesr_stream.specs.Begun.{IsBegun, IsBegunWrap, IsBegunItem, IsBodyRead, IsBodySize, IsItemAt, IsItemRead, MayBeRead, item_part, sized_part}
use Rattle.cesr_stream.specs.Front.{has_version, size_of, body_part, group_part, wrap_part, behind_body, attached_part, front}
use Rattle.cesr_stream.specs.Stops.{Stops}
use Rattle.cesr_stream.proofs.BegunGroups.{begun_more}
use Rattle.cesr_stream.proofs.BegunWraps.{wrap_more}
use Rattle.cesr_stream.proofs.Stays.{byte_same, version_same, size_same}
use Rattle.cesr_stream.proofs.StopLemmas.{stops-body}

-- what begins with a brace is judged as a body
front_body : (limit : ℕ) (begun : Bool) (bytes : List ℕ) → 1 ≤ length bytes → slice_index bytes 0 ≡ 123 → front limit begun bytes ≡ body_part limit bytes
unfolding front
front_body limit begun [] some brace = absurd (omega arith)
front_body limit begun (b ∷ bytes) some brace = rw (eq-eqb b 123 brace) refl

-- what begins with a dash is judged as a group or a wrap
front_attached : (limit : ℕ) (begun : Bool) (bytes : List ℕ) → 1 ≤ length bytes → slice_index bytes 0 ≡ 45 → front limit begun bytes ≡ behind_body begun (attached_part bytes)
unfolding front
front_attached limit begun [] some dash = absurd (omega arith)
front_attached limit begun (b ∷ bytes) some dash = rw (ap (λ x. x == 123) dash, eq-eqb b 45 dash) refl

at_wrap : (bytes : List ℕ) → slice_index bytes 1 ≡ 86 → attached_part bytes ≡ wrap_part bytes
at_wrap bytes letter = rw (eq-eqb (slice_index bytes 1) 86 letter) refl

at_group : (bytes : List ℕ) → slice_index bytes 1 ≢ 86 → attached_part bytes ≡ group_part None bytes
at_group bytes letter = rw (false_from_ne_true (slice_index bytes 1 == 86) (λ e. letter (eqb-true (slice_index bytes 1) 86 e))) refl

longer : (bytes more : List ℕ) (n : ℕ) → n ≤ length bytes → n ≤ length (bytes ++ more)
longer bytes more n le = omega (arith, le, length-append bytes more)

pub body_begun : (limit : ℕ) (bytes : List ℕ) (size : ℕ) → slice_index bytes 0 ≡ 123 → IsBodySize limit bytes size → IsBegunItem limit bytes (Body size)
unfolding body_part
body_begun limit bytes size brace is = record {
  some = let long = is.long in omega (arith, long);
  same = λ begun more. front_body limit begun (bytes ++ more) (longer bytes more 1 (let long = is.long in omega (arith, long)))
      (byte_same bytes more 0 (let long = is.long in omega (arith, long)) ∙ brace)
      ∙ sized more;
  read = record { brace = brace; long = is.long; is = is.is; version = is.version; some = is.some };
}
  where
    sized : (more : List ℕ) → body_part limit (bytes ++ more) ≡ sized_part size (bytes ++ more)
    sized more =
        rw (
          le-ltb (length (bytes ++ more)) 24 (longer bytes more 24 is.long),
          version_same bytes more is.long,
          is.version,
          size_same bytes more is.long,
          ← is.is,
          le-ltb size 24 is.some,
          le-ltb limit size is.few,
        ) refl

pub body_stops : (limit : ℕ) (begun : Bool) (bytes : List ℕ) (stop : Stop) → 1 ≤ length bytes → slice_index bytes 0 ≡ 123 → Stops bytes (body_part limit bytes) stop → Stops bytes (front limit begun bytes) stop
body_stops limit begun bytes stop some brace stops = subst (λ part. Stops bytes part stop) (sym (front_body limit begun bytes some brace)) stops

-- the letter of a counter stands, whatever follows
letter_stands : (bytes more : List ℕ) → 4 ≤ length bytes → slice_index (bytes ++ more) 1 ≡ slice_index bytes 1
letter_stands bytes more long = byte_same bytes more 1 (omega (arith, long))

dash_stands : (bytes more : List ℕ) → 4 ≤ length bytes → slice_index bytes 0 ≡ 45 → slice_index (bytes ++ more) 0 ≡ 45
dash_stands bytes more long dash = byte_same bytes more 0 (omega (arith, long)) ∙ dash

pub wrap_item : (bytes : List ℕ) (wrap : BegunWrap) → slice_index bytes 0 ≡ 45 → slice_index bytes 1 ≡ 86 → IsBegunWrap bytes wrap → (limit : ℕ) → IsBegunItem limit bytes (Wrap wrap)
wrap_item bytes wrap dash letter is limit = record {
  some = let long = is.long in omega (arith, long);
  same = λ begun more. front_attached limit begun (bytes ++ more) (longer bytes more 1 (let long = is.long in omega (arith, long))) (dash_stands bytes more is.long dash)
      ∙ ap (behind_body begun) (at_wrap (bytes ++ more) (letter_stands bytes more is.long ∙ letter));
  read = is;
}

pub group_item : (bytes : List ℕ) (group : BegunGroup) → slice_index bytes 0 ≡ 45 → slice_index bytes 1 ≢ 86 → IsBegun None bytes group → (limit : ℕ) → IsBegunItem limit bytes (Group group)
group_item bytes group dash letter is limit = record {
  some = let long = is.long in omega (arith, long);
  same = λ begun more. front_attached limit begun (bytes ++ more) (longer bytes more 1 (let long = is.long in omega (arith, long))) (dash_stands bytes more is.long dash)
      ∙ ap (behind_body begun) (at_group (bytes ++ more) (λ e. letter (sym (letter_stands bytes more is.long) ∙ e)));
  read = is;
}

some_byte : (bytes : List ℕ) → slice_index bytes 0 ≡ 45 → 1 ≤ length bytes
some_byte [] dash = absurd (omega (arith, dash))
some_byte (b ∷ bytes) dash = omega arith

pub wrap_item_stops : (bytes : List ℕ) (stop : Stop) → slice_index bytes 0 ≡ 45 → slice_index bytes 1 ≡ 86 → Stops bytes (wrap_part bytes) stop → (limit : ℕ) (begun : Bool) → Stops bytes (front limit begun bytes) stop
wrap_item_stops bytes stop dash letter stops limit begun =
    subst (λ part. Stops bytes part stop) (sym (front_attached limit begun bytes (some_byte bytes dash) dash ∙ ap (behind_body begun) (at_wrap bytes letter)))
    (stops-body bytes (wrap_part bytes) begun stop stops)

pub group_item_stops : (bytes : List ℕ) (stop : Stop) → slice_index bytes 0 ≡ 45 → slice_index bytes 1 ≢ 86 → Stops bytes (group_part None bytes) stop → (limit : ℕ) (begun : Bool) → Stops bytes (front limit begun bytes) stop
group_item_stops bytes stop dash letter stops limit begun =
    subst (λ part. Stops bytes part stop) (sym (front_attached limit begun bytes (some_byte bytes dash) dash ∙ ap (behind_body begun) (at_group bytes letter)))
    (stops-body bytes (group_part None bytes) begun stop stops)

module _ (limit : ℕ) (bytes : List ℕ) (item : BegunItem) (is : IsBegunItem limit bytes item) where
  -- how the item is judged
  pub item_same : (begun : Bool) → front limit begun bytes ≡ item_part item begun bytes
  item_same begun = ap (front limit begun) (sym (append-nil bytes)) ∙ is.same begun [] ∙ ap (item_part item begun) (append-nil bytes)

  -- more of it is read
  pub item_on : (new : BegunItem) → item_part new ≡ item_part item → IsItemRead bytes new → IsBegunItem limit bytes new
  item_on new same read = record { some = is.some; same = λ begun more. is.same begun more ∙ sym (ap (λ part. part begun (bytes ++ more)) same); read = read }

-- what was read stands at the front, whatever follows
read_stands : (bytes piece : List ℕ) (item : BegunItem) → 1 ≤ length bytes → IsItemRead bytes item → IsItemRead (bytes ++ piece) item
read_stands bytes piece (Body size) some read = record {
  brace = byte_same bytes piece 0 (omega (arith, some)) ∙ read.brace;
  long = longer bytes piece 24 read.long;
  is = read.is ∙ sym (size_same bytes piece read.long);
  version = version_same bytes piece read.long ∙ read.version;
  some = read.some;
}
read_stands bytes piece (Group group) some read = begun_more None bytes group read piece
read_stands bytes piece (Wrap wrap) some read = wrap_more bytes wrap read piece

-- a body that is there is whole, and may be written
pub body_whole : (bytes : List ℕ) (size : ℕ) → IsBodyRead bytes size → size ≤ length bytes → IsItemAt (sized_part size bytes) bytes (BodyItem (take size bytes), size)
body_whole bytes size read there = (rw (le-ltb (length bytes) size there) refl, (refl, first), there, (sym (version_same front behind long) ∙ ap has_version both ∙ read.version, sym (size_same front behind long) ∙ ap size_of both ∙ sym read.is ∙ sym sized))
  where
    front : List ℕ
    front = take size bytes

    behind : List ℕ
    behind = drop size bytes

    both : front ++ behind ≡ bytes
    both = take-append-drop size bytes

    sized : length front ≡ size
    sized = omega (arith, length-take size bytes, there)

    long : 24 ≤ length front
    long = let some = read.some in omega (arith, some, sized)

    first : slice_index front 0 ≡ 123
    first = sym (byte_same front behind 0 (omega (arith, long))) ∙ ap (λ xs. slice_index xs 0) both ∙ read.brace

pub may_more : (limit : ℕ) (bytes piece : List ℕ) (item : Option BegunItem) → MayBeRead limit bytes item → MayBeRead limit (bytes ++ piece) item
may_more limit bytes piece None is = tt
may_more limit bytes piece (Some item) is = record {
  some = longer bytes piece 1 is.some;
  same = λ begun more. subst (λ xs. front limit begun xs ≡ item_part item begun xs) (sym (append_assoc bytes piece more)) (is.same begun (piece ++ more));
  read = read_stands bytes piece item is.some is.read;
}
