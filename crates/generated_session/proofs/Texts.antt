-- A text that is written in words, and the lines that it says: these words again.
use Rattle.std.proofs.Common.{◌≡◌, ℕ, zero, suc, ◌-◌, ◌<◌, Bool, true, false, cond, eqb, List, [], ◌∷◌, ◌++◌, length, take, get_or, map, refl, sym, ap, ◌∙◌, arith, append_assoc, append-nil}
use Rattle.std.specs.Prelude.{◌&&◌, nat_lt, IsUtf8}
use Rattle.std.specs.Int.{is_in_range}
use Rattle.std.specs.List.{filter, slice_split, list_all, All}
use Rattle.std.specs.Str.Lines.{lines, lines_of_parts, strip_carriage_return}
use Rattle.std.proofs.lemmas.Bool.{and_parts, and_from}
use Rattle.std.proofs.lemmas.Bool.Decides.{nat_tests}
use Rattle.std.proofs.lemmas.List.Elements.{All-nil, All-cons}
use Rattle.std.proofs.lemmas.List.Folds.{list_all-append}
use Rattle.std.proofs.lemmas.List.Splits.{slice_split_none, slice_split_at, length-slice_split}
use Rattle.std.proofs.lemmas.Str.{IsUtf8-from_ascii}
use Rattle.session_script.specs.Words.{is_blank, is_word, words}
use Rattle.session_script.specs.Line.{line_of, lines_of}

-- ---- words, lines and texts

-- a character of a word
abbrev pub is_mark : ℕ → Bool
is_mark byte = is_in_range 33 126 byte

abbrev pub is_plain : List ℕ → Bool
is_plain word = is_word word && list_all is_mark word

-- words with a space between each two
abbrev pub joined : List (List ℕ) → List ℕ
joined [] = []
joined (word ∷ []) = word
joined (word ∷ next ∷ more) = word ++ 32 ∷ joined (next ∷ more)

-- the same with a line feed at the end
abbrev pub line_text : List (List ℕ) → List ℕ
line_text [] = 10 ∷ []
line_text (word ∷ []) = word ++ 10 ∷ []
line_text (word ∷ next ∷ more) = word ++ 32 ∷ line_text (next ∷ more)

-- lines of words
abbrev pub script_text : List (List (List ℕ)) → List ℕ
script_text [] = []
script_text (ws ∷ more) = line_text ws ++ script_text more

pub line_text-joined : (ws : List (List ℕ)) → line_text ws ≡ joined ws ++ 10 ∷ []
line_text-joined [] = refl
line_text-joined (word ∷ []) = refl
line_text-joined (word ∷ next ∷ more) = ap (λ rest. word ++ 32 ∷ rest) (line_text-joined (next ∷ more)) ∙ sym (append_assoc word (32 ∷ joined (next ∷ more)) (10 ∷ []))

-- one line more
pub script_text-push : (raw : List (List (List ℕ))) (ws : List (List ℕ)) → script_text (raw ++ ws ∷ []) ≡ script_text raw ++ line_text ws
script_text-push [] ws = append-nil (line_text ws)
script_text-push (first ∷ raw) ws = ap (λ rest. line_text first ++ rest) (script_text-push raw ws) ∙ sym (append_assoc (line_text first) (script_text raw) (line_text ws))

-- ---- the bytes of a line

abbrev is_printable : ℕ → Bool
is_printable byte = is_in_range 32 126 byte

printable : (byte : ℕ) → is_mark byte ≡ true → is_printable byte ≡ true
printable byte h = grind (arith, nat_tests)

printable-word : (word : List ℕ) → list_all is_mark word ≡ true → list_all is_printable word ≡ true
printable-word [] h = refl
printable-word (byte ∷ word) h =
    let parts = and_parts (is_mark byte) (list_all is_mark word) h in
    and_from (is_printable byte) (list_all is_printable word) (printable byte parts.0) (printable-word word parts.1)

printable-joined : (ws : List (List ℕ)) → list_all is_plain ws ≡ true → list_all is_printable (joined ws) ≡ true
printable-joined [] h = refl
printable-joined (word ∷ []) h =
    printable-word word (and_parts (is_word word) (list_all is_mark word) (and_parts (is_plain word) (list_all is_plain []) h).0).1
printable-joined (word ∷ next ∷ more) h =
    let parts = and_parts (is_plain word) (list_all is_plain (next ∷ more)) h in
    let here = printable-word word (and_parts (is_word word) (list_all is_mark word) parts.0).1 in
    list_all-append is_printable word (32 ∷ joined (next ∷ more))
    ∙ and_from (list_all is_printable word) (list_all is_printable (32 ∷ joined (next ∷ more))) here (printable-joined (next ∷ more) parts.1)

no_blank : (byte : ℕ) → is_mark byte ≡ true → is_blank byte ≡ false
no_blank byte h = grind (arith, nat_tests)

no_feed : (byte : ℕ) → is_printable byte ≡ true → eqb byte 10 ≡ false
no_feed byte h = grind (arith, nat_tests)

no_return : (byte : ℕ) → is_printable byte ≡ true → eqb byte 13 ≡ false
no_return byte h = grind (arith, nat_tests)

unblank : (word : List ℕ) → list_all is_mark word ≡ true → All (λ byte. is_blank byte ≡ false) word
unblank [] h = All-nil (λ byte. is_blank byte ≡ false)
unblank (byte ∷ word) h =
    let parts = and_parts (is_mark byte) (list_all is_mark word) h in
    All-cons (λ b. is_blank b ≡ false) byte word (no_blank byte parts.0) (unblank word parts.1)

unfed : (line : List ℕ) → list_all is_printable line ≡ true → All (λ byte. eqb byte 10 ≡ false) line
unfed [] h = All-nil (λ byte. eqb byte 10 ≡ false)
unfed (byte ∷ line) h =
    let parts = and_parts (is_printable byte) (list_all is_printable line) h in
    All-cons (λ b. eqb b 10 ≡ false) byte line (no_feed byte parts.0) (unfed line parts.1)

-- ---- the words of a line

filter-word : (word : List ℕ) (more : List (List ℕ)) → is_word word ≡ true → filter is_word (word ∷ more) ≡ word ∷ filter is_word more
filter-word word more h = ap (λ t. cond t (word ∷ filter is_word more) (filter is_word more)) h

pub words-joined : (ws : List (List ℕ)) → list_all is_plain ws ≡ true → words (joined ws) ≡ ws
words-joined [] h = refl
words-joined (word ∷ []) h =
    let plain = and_parts (is_word word) (list_all is_mark word) (and_parts (is_plain word) (list_all is_plain []) h).0 in
    ap (filter is_word) (slice_split_none is_blank word (unblank word plain.1)) ∙ filter-word word [] plain.0
words-joined (word ∷ next ∷ more) h =
    let parts = and_parts (is_plain word) (list_all is_plain (next ∷ more)) h in
    let plain = and_parts (is_word word) (list_all is_mark word) parts.0 in
    ap (filter is_word) (slice_split_at is_blank word 32 (joined (next ∷ more)) (unblank word plain.1) refl)
    ∙ filter-word word (slice_split is_blank (joined (next ∷ more))) plain.0
    ∙ ap (λ rest. word ∷ rest) (words-joined (next ∷ more) parts.1)

-- ---- the lines of a text

-- the last byte of a line isn't a carriage return
last_byte : (line : List ℕ) (k : ℕ) → list_all is_printable line ≡ true → eqb (get_or line k 0) 13 ≡ false
last_byte [] k h = refl
last_byte (byte ∷ line) zero h = no_return byte (and_parts (is_printable byte) (list_all is_printable line) h).0
last_byte (byte ∷ line) (suc k) h = last_byte line k (and_parts (is_printable byte) (list_all is_printable line) h).1

kept : (line : List ℕ) → list_all is_printable line ≡ true → strip_carriage_return line ≡ line
kept line h = ap (λ b. cond b (take (length line - 1) line) line) (last_byte line (length line - 1) h)

first_part : (line : List ℕ) (parts : List (List ℕ)) → 0 < length parts → lines_of_parts (line ∷ parts) ≡ strip_carriage_return line ∷ lines_of_parts parts
first_part line [] h = absurd (omega arith)
first_part line (part ∷ parts) h = refl

lines-first : (line more : List ℕ) → list_all is_printable line ≡ true → lines (line ++ 10 ∷ more) ≡ line ∷ lines more
lines-first line more h =
    let feed : ℕ → Bool = λ byte. eqb byte 10 in
    ap lines_of_parts (slice_split_at feed line 10 more (unfed line h) refl)
    ∙ first_part line (slice_split feed more) (omega (arith, length-slice_split feed more))
    ∙ ap (λ first. first ∷ lines more) (kept line h)

-- a text's lines are its words, joined
pub lines-script_text : (raw : List (List (List ℕ))) → list_all (list_all is_plain) raw ≡ true → lines (script_text raw) ≡ map joined raw
lines-script_text [] h = refl
lines-script_text (ws ∷ raw) h =
    let parts = and_parts (list_all is_plain ws) (list_all (list_all is_plain) raw) h in
    ap (λ t. lines (t ++ script_text raw)) (line_text-joined ws) ∙ ap lines (append_assoc (joined ws) (10 ∷ []) (script_text raw))
    ∙ lines-first (joined ws) (script_text raw) (printable-joined ws parts.0) ∙ ap (λ rest. joined ws ∷ rest) (lines-script_text raw parts.1)

says_joined : (raw : List (List (List ℕ))) → list_all (list_all is_plain) raw ≡ true → map (λ line. line_of (words line)) (map joined raw) ≡ map line_of raw
says_joined [] h = refl
says_joined (ws ∷ raw) h =
    let parts = and_parts (list_all is_plain ws) (list_all (list_all is_plain) raw) h in
    ap (λ here. line_of here ∷ map (λ line. line_of (words line)) (map joined raw)) (words-joined ws parts.0)
    ∙ ap (λ rest. line_of ws ∷ rest) (says_joined raw parts.1)

-- a text says what its words say
pub lines_of-script_text : (raw : List (List (List ℕ))) → list_all (list_all is_plain) raw ≡ true → lines_of (script_text raw) ≡ map line_of raw
lines_of-script_text raw h = ap (map (λ line. line_of (words line))) (lines-script_text raw h) ∙ says_joined raw h

-- ---- it is UTF-8

abbrev is_low : ℕ → Bool
is_low byte = nat_lt byte 128

low : (byte : ℕ) → is_printable byte ≡ true → is_low byte ≡ true
low byte h = grind (arith, nat_tests)

low-line : (line : List ℕ) → list_all is_printable line ≡ true → list_all is_low line ≡ true
low-line [] h = refl
low-line (byte ∷ line) h =
    let parts = and_parts (is_printable byte) (list_all is_printable line) h in
    and_from (is_low byte) (list_all is_low line) (low byte parts.0) (low-line line parts.1)

low-text : (raw : List (List (List ℕ))) → list_all (list_all is_plain) raw ≡ true → list_all is_low (script_text raw) ≡ true
low-text [] h = refl
low-text (ws ∷ raw) h =
    let parts = and_parts (list_all is_plain ws) (list_all (list_all is_plain) raw) h in
    let here : list_all is_low (line_text ws) ≡ true =
    ap (list_all is_low) (line_text-joined ws) ∙ list_all-append is_low (joined ws) (10 ∷ [])
    ∙ and_from (list_all is_low (joined ws)) true (low-line (joined ws) (printable-joined ws parts.0)) refl in
    list_all-append is_low (line_text ws) (script_text raw)
    ∙ and_from (list_all is_low (line_text ws)) (list_all is_low (script_text raw)) here (low-text raw parts.1)

below : (byte : ℕ) → is_low byte ≡ true → byte < 128
below byte h = grind (arith, nat_tests)

low_at : (text : List ℕ) (k : ℕ) → list_all is_low text ≡ true → get_or text k 0 < 128
low_at [] k h = omega arith
low_at (byte ∷ text) zero h = below byte (and_parts (is_low byte) (list_all is_low text) h).0
low_at (byte ∷ text) (suc k) h = low_at text k (and_parts (is_low byte) (list_all is_low text) h).1

pub utf8-script_text : (raw : List (List (List ℕ))) → list_all (list_all is_plain) raw ≡ true → IsUtf8 (script_text raw)
utf8-script_text raw h = IsUtf8-from_ascii (script_text raw) (λ k. low_at (script_text raw) k (low-text raw h))
