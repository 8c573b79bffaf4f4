-- How long the bodies and the messages of a made log are.
use Rattle.std.proofs.Common.{◌≡◌, ℕ, ◌+◌, ◌*◌, ◌<◌, false, List, [], ◌∷◌, ◌++◌, length, map, codes, refl, ap, ◌∙◌, arith, length-append}
use Rattle.std.specs.Fmt.{digits}
use Rattle.std.proofs.lemmas.Fmt.{hex_one_digit}
use Rattle.cesr_codes.specs.declared.digest.Digest.{Digest}
use Rattle.cesr_codes.specs.declared.key.Key.{Key}
use Rattle.cesr_codes.specs.Spelling.{digest_text, key_text}
use Rattle.cesr_codes.proofs.Same.{length-key_text, length-digest_text}
use Rattle.json_tree.specs.declared.tree.Tree.{Tree}
use Rattle.json_tree.specs.declared.tree.Tree.TheVariants.{Str, List as TreeList}
use Rattle.json_tree.specs.Spelling.{spelling, separated, after_commas}
use Rattle.json_tree.proofs.Trees.{spelling-list}
use Rattle.event_body.specs.declared.body_fields.field.Field.{Field}
use Rattle.event_body.specs.declared.body_fields.field.Field.TheVariants as fields
use Rattle.event_body.specs.declared.body_fields.kind.Kind.{Kind}
use Rattle.event_body.specs.BodyFields.Bodies.{kind_text, name_text, member_text, members_text, body_text}
use Rattle.event_body.specs.BodyFields.Forms.{digest_value, key_value, keys_value, digests_value, strings_value, number_value}
use Rattle.event_body.specs.BodyFields.Maps.{fields_of}
use Rattle.event_body.proofs.BodyFieldsLemmas.Texts.{text_long}
use Rattle.event_body.specs.declared.event_body.event.Event.{Event}
use Rattle.event_body.specs.EventBody.Spelling.{text_of, body_kind, values_of}
use Rattle.event_body.specs.EventWriting.Sealed.{with_digest}
use Rattle.controller_core.specs.LogMaker.Names.{log_key, log_witness, key_digest}
use Rattle.controller_core.specs.LogMaker.Plans.{inception, rotation, interaction}

-- a string under a name
string_long : (field : Field) (text : List ℕ) → length (member_text field (Str text)) ≡ length (name_text field) + (length text + 2)
string_long field text = omega (arith, length-append (name_text field) (spelling (Str text)), length-append text (34 ∷ []))

-- a list under a name
list_long : (field : Field) (values : List Tree) → length (member_text field (TreeList values)) ≡ length (name_text field) + (length (separated (map spelling values)) + 2)
list_long field values =
    ap (λ text. length (name_text field ++ text)) (spelling-list values)
    ∙ omega (arith, length-append (name_text field) (91 ∷ (separated (map spelling values) ++ 93 ∷ [])), length-append (separated (map spelling values)) (93 ∷ []))

-- a member and those behind it
more : (field : Field) (rest : List Field) (value : Tree) (values : List Tree) (n m : ℕ) → length (member_text field value) ≡ n → length (members_text rest values) ≡ m
    → length (members_text (field ∷ rest) (value ∷ values)) ≡ n + m
more field rest value values n m first others = omega (arith, length-append (member_text field value) (members_text rest values), first, others)

-- a whole body, by its members
body_long : (kind : Kind) (values : List Tree) → length (body_text kind values) ≡ 25 + (length (kind_text kind) + length (members_text (fields_of kind) values))
body_long kind values =
    text_long kind values
    ∙ omega (arith, length-append (kind_text kind) (members_text (fields_of kind) values ++ codes "}"), length-append (members_text (fields_of kind) values) (codes "}"))

event_long : (event : Event) (n : ℕ) → length (members_text (fields_of (body_kind event)) (values_of event)) ≡ n → length (text_of event) ≡ 25 + (length (kind_text (body_kind event)) + n)
event_long event n members = body_long (body_kind event) (values_of event) ∙ ap (λ m. 25 + (length (kind_text (body_kind event)) + m)) members

digest_long : (field : Field) (digest : Digest) → length (member_text field (digest_value digest)) ≡ length (name_text field) + 46
digest_long field digest = string_long field (digest_text digest) ∙ omega (arith, length-digest_text digest)

key_quoted : (key : Key) → length (spelling (key_value key)) ≡ 46
key_quoted key = omega (arith, length-append (key_text key) (34 ∷ []), length-key_text key)

-- keys behind a first one
after_keys : (keys : List Key) → length (after_commas (map spelling (map key_value keys))) ≡ 47 * length keys
after_keys [] = refl
after_keys (key ∷ keys) = omega (arith, length-append (spelling (key_value key)) (after_commas (map spelling (map key_value keys))), key_quoted key, after_keys keys)

keys_long : (field : Field) (key : Key) (keys : List Key) → length (member_text field (keys_value (key ∷ keys))) ≡ length (name_text field) + (48 + 47 * length keys)
keys_long field key keys =
    list_long field (map key_value (key ∷ keys))
    ∙ omega (arith, length-append (spelling (key_value key)) (after_commas (map spelling (map key_value keys))), key_quoted key, after_keys keys)

-- one digest in a list
one_digest_long : (field : Field) (digest : Digest) → length (member_text field (digests_value (digest ∷ []))) ≡ length (name_text field) + 48
one_digest_long field digest =
    list_long field (digest_value digest ∷ [])
    ∙ omega (arith, length-append (spelling (digest_value digest)) [], length-append (digest_text digest) (34 ∷ []), length-digest_text digest)

-- a number of one digit
figure_long : (field : Field) (n : ℕ) → n < 16 → length (member_text field (number_value n)) ≡ length (name_text field) + 3
figure_long field n small = string_long field (digits 16 false n) ∙ ap (λ k. length (name_text field) + (k + 2)) (ap length (hex_one_digit false n small)) ∙ omega arith

-- the text of an interaction
pub interaction_long : (digest first prior : Digest) (sn : ℕ) → length (text_of (with_digest digest (interaction sn first prior))) ≡ 202 + length (digits 16 false sn)
unfolding interaction
interaction_long digest first prior sn =
    event_long (with_digest digest (interaction sn first prior)) (51 + (51 + ((7 + length (digits 16 false sn)) + (51 + (7 + 0)))))
    (more fields.Said (fields.Identifier ∷ fields.Later ∷ fields.Prior ∷ fields.Anchors ∷ []) (digest_value digest) (digest_value first ∷ number_value sn ∷ digest_value prior ∷ TreeList [] ∷ []) 51 _ (digest_long fields.Said digest)
    (more fields.Identifier (fields.Later ∷ fields.Prior ∷ fields.Anchors ∷ []) (digest_value first) (number_value sn ∷ digest_value prior ∷ TreeList [] ∷ []) 51 _ (digest_long fields.Identifier first)
    (more fields.Later (fields.Prior ∷ fields.Anchors ∷ []) (number_value sn) (digest_value prior ∷ TreeList [] ∷ []) (7 + length (digits 16 false sn)) _ (string_long fields.Later (digits 16 false sn) ∙ omega arith)
    (more fields.Prior (fields.Anchors ∷ []) (digest_value prior) (TreeList [] ∷ []) 51 _ (digest_long fields.Prior prior)
    (more fields.Anchors [] (TreeList []) [] 7 0 (list_long fields.Anchors []) refl)))))
    ∙ omega arith

-- the text of a rotation
pub rotation_long : (digest first prior : Digest) (seed log number sn : ℕ) → length (text_of (with_digest digest (rotation seed log number sn first prior))) ≡ 351 + length (digits 16 false sn)
unfolding rotation
rotation_long digest first prior seed log number sn =
    let key : Key = log_key seed log number in
    let next : Digest = key_digest seed log (number + 1) in
    let one : 1 < 16 = omega arith in
    let three : 3 < 16 = omega arith in
    let f1 : List Field = fields.Anchors ∷ [] in
    let f2 : List Field = fields.Adds ∷ f1 in
    let f3 : List Field = fields.Cuts ∷ f2 in
    let f4 : List Field = fields.Toad ∷ f3 in
    let f5 : List Field = fields.Next ∷ f4 in
    let f6 : List Field = fields.NextThreshold ∷ f5 in
    let f7 : List Field = fields.Keys ∷ f6 in
    let f8 : List Field = fields.KeysThreshold ∷ f7 in
    let f9 : List Field = fields.Prior ∷ f8 in
    let f10 : List Field = fields.Later ∷ f9 in
    let f11 : List Field = fields.Identifier ∷ f10 in
    let v1 : List Tree = TreeList [] ∷ [] in
    let v2 : List Tree = keys_value [] ∷ v1 in
    let v3 : List Tree = keys_value [] ∷ v2 in
    let v4 : List Tree = number_value 3 ∷ v3 in
    let v5 : List Tree = digests_value (next ∷ []) ∷ v4 in
    let v6 : List Tree = number_value 1 ∷ v5 in
    let v7 : List Tree = keys_value (key ∷ []) ∷ v6 in
    let v8 : List Tree = number_value 1 ∷ v7 in
    let v9 : List Tree = digest_value prior ∷ v8 in
    let v10 : List Tree = number_value sn ∷ v9 in
    let v11 : List Tree = digest_value first ∷ v10 in
    let l1 = more fields.Anchors [] (TreeList []) [] 7 0 (list_long fields.Anchors []) refl in
    let l2 = more fields.Adds f1 (keys_value []) v1 8 7 (list_long fields.Adds []) l1 in
    let l3 = more fields.Cuts f2 (keys_value []) v2 8 15 (list_long fields.Cuts []) l2 in
    let l4 = more fields.Toad f3 (number_value 3) v3 9 23 (figure_long fields.Toad 3 three) l3 in
    let l5 = more fields.Next f4 (digests_value (next ∷ [])) v4 53 32 (one_digest_long fields.Next next) l4 in
    let l6 = more fields.NextThreshold f5 (number_value 1) v5 9 85 (figure_long fields.NextThreshold 1 one) l5 in
    let l7 = more fields.Keys f6 (keys_value (key ∷ [])) v6 53 94 (keys_long fields.Keys key []) l6 in
    let l8 = more fields.KeysThreshold f7 (number_value 1) v7 9 147 (figure_long fields.KeysThreshold 1 one) l7 in
    let l9 = more fields.Prior f8 (digest_value prior) v8 51 156 (digest_long fields.Prior prior) l8 in
    let l10 = more fields.Later f9 (number_value sn) v9 (7 + length (digits 16 false sn)) 207 (string_long fields.Later (digits 16 false sn) ∙ omega arith) l9 in
    let l11 = more fields.Identifier f10 (digest_value first) v10 51 _ (digest_long fields.Identifier first) l10 in
    event_long (with_digest digest (rotation seed log number sn first prior)) (51 + (51 + (7 + length (digits 16 false sn) + 207))) (more fields.Said f11 (digest_value digest) v11 51 _ (digest_long fields.Said digest) l11)
    ∙ omega arith

-- the text of an inception
pub inception_long : (digest : Digest) (seed log : ℕ) → length (text_of (with_digest digest (inception seed log))) ≡ 486
unfolding inception
inception_long digest seed log =
    let key : Key = log_key seed log 0 in
    let next : Digest = key_digest seed log 1 in
    let first : Key = log_witness seed log 0 in
    let second : Key = log_witness seed log 1 in
    let third : Key = log_witness seed log 2 in
    let fourth : Key = log_witness seed log 3 in
    let zero_small : 0 < 16 = omega arith in
    let one : 1 < 16 = omega arith in
    let three : 3 < 16 = omega arith in
    let f1 : List Field = fields.Anchors ∷ [] in
    let f2 : List Field = fields.Traits ∷ f1 in
    let f3 : List Field = fields.Witnesses ∷ f2 in
    let f4 : List Field = fields.Toad ∷ f3 in
    let f5 : List Field = fields.Next ∷ f4 in
    let f6 : List Field = fields.NextThreshold ∷ f5 in
    let f7 : List Field = fields.Keys ∷ f6 in
    let f8 : List Field = fields.KeysThreshold ∷ f7 in
    let f9 : List Field = fields.First ∷ f8 in
    let f10 : List Field = fields.Identifier ∷ f9 in
    let v1 : List Tree = TreeList [] ∷ [] in
    let v2 : List Tree = strings_value [] ∷ v1 in
    let v3 : List Tree = keys_value (first ∷ second ∷ third ∷ fourth ∷ []) ∷ v2 in
    let v4 : List Tree = number_value 3 ∷ v3 in
    let v5 : List Tree = digests_value (next ∷ []) ∷ v4 in
    let v6 : List Tree = number_value 1 ∷ v5 in
    let v7 : List Tree = keys_value (key ∷ []) ∷ v6 in
    let v8 : List Tree = number_value 1 ∷ v7 in
    let v9 : List Tree = number_value 0 ∷ v8 in
    let v10 : List Tree = digest_value digest ∷ v9 in
    let l1 = more fields.Anchors [] (TreeList []) [] 7 0 (list_long fields.Anchors []) refl in
    let l2 = more fields.Traits f1 (strings_value []) v1 7 7 (list_long fields.Traits []) l1 in
    let l3 = more fields.Witnesses f2 (keys_value (first ∷ second ∷ third ∷ fourth ∷ [])) v2 194 14 (keys_long fields.Witnesses first (second ∷ third ∷ fourth ∷ [])) l2 in
    let l4 = more fields.Toad f3 (number_value 3) v3 9 208 (figure_long fields.Toad 3 three) l3 in
    let l5 = more fields.Next f4 (digests_value (next ∷ [])) v4 53 217 (one_digest_long fields.Next next) l4 in
    let l6 = more fields.NextThreshold f5 (number_value 1) v5 9 270 (figure_long fields.NextThreshold 1 one) l5 in
    let l7 = more fields.Keys f6 (keys_value (key ∷ [])) v6 53 279 (keys_long fields.Keys key []) l6 in
    let l8 = more fields.KeysThreshold f7 (number_value 1) v7 9 332 (figure_long fields.KeysThreshold 1 one) l7 in
    let l9 = more fields.First f8 (number_value 0) v8 8 341 (figure_long fields.First 0 zero_small) l8 in
    let l10 = more fields.Identifier f9 (digest_value digest) v9 51 349 (digest_long fields.Identifier digest) l9 in
    event_long (with_digest digest (inception seed log)) 451 (more fields.Said f10 (digest_value digest) v10 51 400 (digest_long fields.Said digest) l10)
