-- What stands at the front of a payload that begins with a body.
use Rattle.std.proofs.Common.{◌≡◌, ℕ, ◌≤◌, ◌&&◌, true, List, ◌++◌, length, take, drop, codes, bytes_eq, ap, sym, refl, subst, ◌∙◌, arith, length-append, length-drop, length-take}
use Rattle.std.specs.List.{list_all}
use Rattle.std.proofs.lemmas.Bool.{and_parts}
use Rattle.std.proofs.lemmas.List.{take-append-le, drop-append-le, take_at}
use Rattle.std.proofs.lemmas.Slice.Eq.{bytes_eq-Decides}
use Rattle.lists.specs.KeriSpecs.Hex.{is_hex, hex_value}
use Rattle.cesr_stream.specs.Front.{has_version, size_of}
use Rattle.cesr_stream.specs.Written.{IsWritable}
use Rattle.cesr_stream.specs.declared.item.Item.TheVariants.{Body as BodyItem}

-- the body's size field stands in the payload
pub record Opens (payload body : List ℕ) : Type 0 where
  pub long : 24 ≤ length payload
  pub digits : list_all is_hex (take 6 (drop 16 payload)) ≡ true
  pub size : size_of payload ≡ length body
  pub within : size_of payload ≤ length payload
  pub front : take (size_of payload) payload ≡ body

-- the parts of the test of a version string
parts : (bytes : List ℕ) → has_version bytes ≡ true → (list_all is_hex (take 6 (drop 16 bytes)) ≡ true) × (24 ≤ length bytes)
parts bytes version =
    let opening = bytes_eq (take 16 bytes) (codes "{\"v\":\"KERI10JSON") in
    let digits = list_all is_hex (take 6 (drop 16 bytes)) in
    let closing = bytes_eq (take 2 (drop 22 bytes)) (codes "_\"") in
    let all = and_parts (opening && digits) closing version in
    let ended : take 2 (drop 22 bytes) ≡ codes "_\"" = (bytes_eq-Decides (take 2 (drop 22 bytes)) (codes "_\"")).0 all.1 in (
      (and_parts opening digits all.0).1,
      omega (arith, ap length ended, length-take 2 (drop 22 bytes), length-drop 22 bytes),
    )

opens_at_front : (body rest : List ℕ) → IsWritable (BodyItem body) → Opens (body ++ rest) body
opens_at_front body rest form =
    let known = parts body form.0 in
    let long = known.1 in
    let same : take 6 (drop 16 (body ++ rest)) ≡ take 6 (drop 16 body)
    = ap (take 6) (drop-append-le 16 body rest (omega (arith, long))) ∙ take-append-le 6 (drop 16 body) rest (omega (arith, long, length-drop 16 body)) in
    let size : size_of (body ++ rest) ≡ length body = ap hex_value same ∙ form.1 in
    record {
      long = omega (arith, long, length-append body rest);
      digits = ap (list_all is_hex) same ∙ known.0;
      size = size;
      within = omega (arith, size, length-append body rest);
      front = ap (λ n. take n (body ++ rest)) size ∙ take_at body rest (length body) refl;
    }

pub opens : (payload body rest : List ℕ) → IsWritable (BodyItem body) → payload ≡ body ++ rest → Opens payload body
opens payload body rest form parted = subst (λ bytes. Opens bytes body) (sym parted) (opens_at_front body rest form)
