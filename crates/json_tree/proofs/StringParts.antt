-- The characters of a string.
use Rattle.std.proofs.Common.{◌≡◌, ◌≢◌, ℕ, ◌<◌, List, [], ◌∷◌, ◌++◌, length, take, true, false, refl, sym, ap, subst, ◌∙◌, append_assoc, append-nil, length-append, arith, Option, Some, None}
use Rattle.std.specs.Prelude.{IsTrue, IfNone}
use Rattle.std.specs.List.{list_all, AllByRecursion, concat}
use Rattle.std.proofs.lemmas.List.{take_at, append_cancel_left}
use Rattle.json_tree.specs.Fronts.{StartsWith, Takes, NoneStands}
use Rattle.json_tree.specs.Strings.{is_hex_digit, is_short_escape, IsUnescaped, IsFourHexDigits, IsEscape, short, numbered, IsChar, unescaped, escaped, AreChars, IsString}
use Rattle.json_tree.proofs.Takes.{first_same}

pub IfNone_then : {X : Type 0} (o : Option X) {P Q : Type 0} → IfNone o P → (P → Q) → IfNone o Q
IfNone_then None p f = f p
IfNone_then (Some x) p f = tt

abbrev IsShort : ℕ → Type 0
IsShort b = IsTrue (is_short_escape b)

-- 4HEXDIG
pub four_front : (bytes front more : List ℕ) → IsFourHexDigits front → bytes ≡ front ++ more → list_all is_hex_digit (take 4 bytes) ≡ true
four_front bytes front more four e =
    let same : take 4 bytes ≡ front = ap (take 4) e ∙ take_at front more 4 four.0 in
    ap (list_all is_hex_digit) same ∙ four.1

-- an escape
pub escape_numbered : (bytes digits rest : List ℕ) → bytes ≡ 117 ∷ digits → Takes IsFourHexDigits digits rest → Takes IsEscape bytes rest
escape_numbered bytes digits rest e t = record { front = 117 ∷ t.front; is = numbered t.front t.is refl; whole = e ∙ ap (λ l. 117 ∷ l) t.whole }

pub escape_short : (bytes rest : List ℕ) → StartsWith IsShort bytes rest → Takes IsEscape bytes rest
escape_short bytes rest s = record { front = s.0 ∷ []; is = short s.0 s.1 refl; whole = s.2 }

no_escape : (bytes : List ℕ) → ((rest : List ℕ) → bytes ≢ 117 ∷ rest) → ((rest : List ℕ) → ¬ StartsWith IsShort bytes rest) → (front more : List ℕ) → IsEscape front → bytes ≡ front ++ more → ⊥
no_escape bytes no_u no_short front more (short b is e) whole = no_short more (b, is, whole ∙ ap (λ l. l ++ more) e)
no_escape bytes no_u no_short front more (numbered four is e) whole = no_u (four ++ more) (whole ∙ ap (λ l. l ++ more) e)

pub none_escape : (bytes : List ℕ) → ((rest : List ℕ) → bytes ≢ 117 ∷ rest) → ((rest : List ℕ) → ¬ StartsWith IsShort bytes rest) → NoneStands IsEscape bytes
none_escape bytes no_u no_short = no_escape bytes no_u no_short

-- a character
pub char_escaped : (bytes escape rest : List ℕ) → bytes ≡ 92 ∷ escape → Takes IsEscape escape rest → Takes IsChar bytes rest
char_escaped bytes escape rest e t = record { front = 92 ∷ t.front; is = escaped t.front t.is refl; whole = e ∙ ap (λ l. 92 ∷ l) t.whole }

pub char_unescaped : (bytes rest : List ℕ) → StartsWith IsUnescaped bytes rest → Takes IsChar bytes rest
char_unescaped bytes rest s = record { front = s.0 ∷ []; is = unescaped s.0 s.1 refl; whole = s.2 }

no_escaped : (bytes escape : List ℕ) → bytes ≡ 92 ∷ escape → NoneStands IsEscape escape → (front more : List ℕ) → IsChar front → bytes ≡ front ++ more → ⊥
no_escaped bytes escape back none front more (unescaped b is e) whole =
    let stands : bytes ≡ b ∷ more = whole ∙ ap (λ l. l ++ more) e in
    is.2 (let same : b ≡ 92 = cc in same)
no_escaped bytes escape back none front more (escaped other is e) whole =
    let stands : bytes ≡ 92 ∷ (other ++ more) = whole ∙ ap (λ l. l ++ more) e in
    none other more is (let tails : escape ≡ other ++ more = cc in tails)

pub none_escaped : (bytes escape : List ℕ) → bytes ≡ 92 ∷ escape → NoneStands IsEscape escape → NoneStands IsChar bytes
none_escaped bytes escape back none = no_escaped bytes escape back none

no_char : (bytes : List ℕ) → ((rest : List ℕ) → bytes ≢ 92 ∷ rest) → ((rest : List ℕ) → ¬ StartsWith IsUnescaped bytes rest) → (front more : List ℕ) → IsChar front → bytes ≡ front ++ more → ⊥
no_char bytes no_back no_plain front more (unescaped b is e) whole = no_plain more (b, is, whole ∙ ap (λ l. l ++ more) e)
no_char bytes no_back no_plain front more (escaped escape is e) whole = no_back (escape ++ more) (whole ∙ ap (λ l. l ++ more) e)

pub none_char : (bytes : List ℕ) → ((rest : List ℕ) → bytes ≢ 92 ∷ rest) → ((rest : List ℕ) → ¬ StartsWith IsUnescaped bytes rest) → NoneStands IsChar bytes
none_char bytes no_back no_plain = no_char bytes no_back no_plain

length-char : (char : List ℕ) → IsChar char → 0 < length char
length-char char (unescaped b is e) = omega (arith, ap length e)
length-char char (escaped escape is e) = omega (arith, ap length e)

pub char_shorter : (bytes rest : List ℕ) → Takes IsChar bytes rest → length rest < length bytes
char_shorter bytes rest t = omega (arith, ap length t.whole, length-append t.front rest, length-char t.front t.is)

-- characters
pub chars_end : (bytes : List ℕ) → Takes AreChars bytes bytes
chars_end bytes = record { front = []; is = record { chars = []; each = tt; whole = refl }; whole = refl }

pub chars_more : (bytes middle rest : List ℕ) → Takes IsChar bytes middle → Takes AreChars middle rest → Takes AreChars bytes rest
chars_more bytes middle rest s t = record {
  front = s.front ++ t.front;
  is = record { chars = s.front ∷ t.is.chars; each = (s.is, t.is.each); whole = ap (λ l. s.front ++ l) t.is.whole };
  whole = s.whole ∙ ap (λ l. s.front ++ l) t.whole ∙ sym (append_assoc s.front t.front rest);
}

-- one character is not the beginning of another
same_length : (a b x y : List ℕ) → length a ≡ length b → a ++ x ≡ b ++ y → a ≡ b
same_length [] [] x y h e = refl
same_length [] (d ∷ b) x y h e = absurd (omega (arith, h))
same_length (c ∷ a) [] x y h e = absurd (omega (arith, h))
same_length (c ∷ a) (d ∷ b) x y h e =
    let heads : c ≡ d = cc in
    let tails : a ++ x ≡ b ++ y = cc in
    let rest = same_length a b x y (omega (arith, h)) tails in
    cc

escape_unique : (a b x y : List ℕ) → IsEscape a → IsEscape b → a ++ x ≡ b ++ y → a ≡ b
escape_unique a b x y (short c is e) (short d js f) same =
    let both : c ∷ x ≡ d ∷ y = ap (λ l. l ++ x) (sym e) ∙ same ∙ ap (λ l. l ++ y) f in
    cc
escape_unique a b x y (short c is e) (numbered four js f) same =
    let both : c ∷ x ≡ 117 ∷ (four ++ y) = ap (λ l. l ++ x) (sym e) ∙ same ∙ ap (λ l. l ++ y) f in
    let u : c ≡ 117 = cc in
    let wrong : false ≡ true = subst IsShort u is in
    cc wrong
escape_unique a b x y (numbered four is e) (short d js f) same =
    let both : 117 ∷ (four ++ x) ≡ d ∷ y = ap (λ l. l ++ x) (sym e) ∙ same ∙ ap (λ l. l ++ y) f in
    let u : d ≡ 117 = cc in
    let wrong : false ≡ true = subst IsShort u js in
    cc wrong
escape_unique a b x y (numbered four is e) (numbered other js f) same =
    let both : 117 ∷ (four ++ x) ≡ 117 ∷ (other ++ y) = ap (λ l. l ++ x) (sym e) ∙ same ∙ ap (λ l. l ++ y) f in
    let tails : four ++ x ≡ other ++ y = cc in
    let equal = same_length four other x y (is.0 ∙ sym js.0) tails in
    e ∙ ap (λ l. 117 ∷ l) equal ∙ sym f

char_unique : (a b x y : List ℕ) → IsChar a → IsChar b → a ++ x ≡ b ++ y → a ≡ b
char_unique a b x y (unescaped c is e) (unescaped d js f) same =
    let both : c ∷ x ≡ d ∷ y = ap (λ l. l ++ x) (sym e) ∙ same ∙ ap (λ l. l ++ y) f in
    cc
char_unique a b x y (unescaped c is e) (escaped escape js f) same =
    let both : c ∷ x ≡ 92 ∷ (escape ++ y) = ap (λ l. l ++ x) (sym e) ∙ same ∙ ap (λ l. l ++ y) f in
    absurd (is.2 (let back : c ≡ 92 = cc in back))
char_unique a b x y (escaped escape is e) (unescaped d js f) same =
    let both : 92 ∷ (escape ++ x) ≡ d ∷ y = ap (λ l. l ++ x) (sym e) ∙ same ∙ ap (λ l. l ++ y) f in
    absurd (js.2 (let back : d ≡ 92 = cc in back))
char_unique a b x y (escaped escape is e) (escaped other js f) same =
    let both : 92 ∷ (escape ++ x) ≡ 92 ∷ (other ++ y) = ap (λ l. l ++ x) (sym e) ∙ same ∙ ap (λ l. l ++ y) f in
    let tails : escape ++ x ≡ other ++ y = cc in
    let equal = escape_unique escape other x y is js tails in
    e ∙ ap (λ l. 92 ∷ l) equal ∙ sym f

-- where no further character stands, the characters are one list
chars_unique : (cs ds : List (List ℕ)) (x y : List ℕ) → AllByRecursion IsChar cs → AllByRecursion IsChar ds → NoneStands IsChar x → NoneStands IsChar y → concat cs ++ x ≡ concat ds ++ y → (concat cs ≡ concat ds) × (x ≡ y)
chars_unique [] [] x y is js no_x no_y e = (refl, e)
chars_unique [] (d ∷ ds) x y is js no_x no_y e = absurd (no_x d (concat ds ++ y) js.0 (e ∙ append_assoc d (concat ds) y))
chars_unique (c ∷ cs) [] x y is js no_x no_y e = absurd (no_y c (concat cs ++ x) is.0 (sym e ∙ append_assoc c (concat cs) x))
chars_unique (c ∷ cs) (d ∷ ds) x y is js no_x no_y e =
    let whole : c ++ (concat cs ++ x) ≡ d ++ (concat ds ++ y) = sym (append_assoc c (concat cs) x) ∙ e ∙ append_assoc d (concat ds) y in
    let first = char_unique c d (concat cs ++ x) (concat ds ++ y) is.0 js.0 whole in
    let tails = append_cancel_left c (concat cs ++ x) (concat ds ++ y) (whole ∙ ap (λ l. l ++ (concat ds ++ y)) (sym first)) in
    let rest = chars_unique cs ds x y is.1 js.1 no_x no_y tails in
    (ap (λ l. l ++ concat cs) first ∙ ap (λ l. d ++ l) rest.0, rest.1)

pub text_unique : (a b x y : List ℕ) → AreChars a → AreChars b → NoneStands IsChar x → NoneStands IsChar y → a ++ x ≡ b ++ y → (a ≡ b) × (x ≡ y)
text_unique a b x y ours theirs no_x no_y e =
    let both = chars_unique ours.chars theirs.chars x y ours.each theirs.each no_x no_y (ap (λ l. l ++ x) (sym ours.whole) ∙ e ∙ ap (λ l. l ++ y) theirs.whole) in
    (ours.whole ∙ both.0 ∙ sym theirs.whole, both.1)

no_char_at_quote : (rest front more : List ℕ) → IsChar front → 34 ∷ rest ≡ front ++ more → ⊥
no_char_at_quote rest front more (unescaped b is e) whole =
    let stands : 34 ∷ rest ≡ b ∷ more = whole ∙ ap (λ l. l ++ more) e in
    is.1 (let same : b ≡ 34 = cc in same)
no_char_at_quote rest front more (escaped escape is e) whole =
    let stands : 34 ∷ rest ≡ 92 ∷ (escape ++ more) = whole ∙ ap (λ l. l ++ more) e in
    omega (arith, first_same 34 92 rest (escape ++ more) stands)

pub none_at_quote : (rest : List ℕ) → NoneStands IsChar (34 ∷ rest)
none_at_quote rest = no_char_at_quote rest

no_char_at_end : (front more : List ℕ) → IsChar front → [] ≡ front ++ more → ⊥
no_char_at_end front more is e = omega (arith, ap length e, length-append front more, length-char front is)

pub none_at_end : NoneStands IsChar []
none_at_end = no_char_at_end

-- a string's text is what stands before the place where the characters end
pub string_is : (bytes end text more : List ℕ) (t : Takes AreChars bytes end) → NoneStands IsChar end → AreChars text → NoneStands IsChar more → bytes ≡ text ++ more → (text ≡ t.front) × (more ≡ end)
string_is bytes end text more t stops is no_more e = text_unique text t.front more end is t.is no_more stops (sym e ∙ t.whole)

pub all_chars : (text end : List ℕ) → Takes AreChars text end → NoneStands IsChar end → AreChars text → end ≡ []
all_chars text end t stops is = sym (string_is text end text [] t stops is none_at_end (sym (append-nil text))).1

-- a string ends in one place
pub string_unique : (a b x y : List ℕ) → IsString a → IsString b → a ++ 34 ∷ x ≡ b ++ 34 ∷ y → (a ≡ b) × (x ≡ y)
string_unique a b x y ours theirs e =
    let same = text_unique a b (34 ∷ x) (34 ∷ y) ours.chars theirs.chars (none_at_quote x) (none_at_quote y) e in
    let behind = same.1 in
    (same.0, cc)
