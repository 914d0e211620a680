-- Each terminal, with texts that are of it and texts that aren't.
use Rattle.std.proofs.Common.{◌≡◌, ℕ, Bool, true, false, List, [], ◌∷◌, codes, refl}
use Rattle.turtle_grammar.specs.Pattern.{matches}
use Rattle.turtle_grammar.specs.Characters.{is_white, is_line_end, is_digit, is_letter, is_letter_or_digit, is_hex, is_sign, is_exponent, is_excluded, is_escape, is_name_base, is_name_start, is_name_char, is_local_escape}
use Rattle.turtle_grammar.specs.Terminals.{pattern, gap, iriref, short_string, long_string, integer, decimal, double, pname_ns, pname_ln, blank_label, langtag}
use Rattle.turtle_grammar.specs.declared.token.TokenKind.{TokenKind}
use Rattle.turtle_grammar.specs.declared.token.TokenKind.TheVariants.{Iri, Namespace, PrefixedName, BlankLabel, LanguageTag, Integer, Decimal, Double, String, SingleString, LongSingleString, LongString, Dot, DoubleCaret, A, True, Prefix, Base}

-- whether a text is a token of the kind
unfoldable fits : TokenKind → List ℕ → Bool
fits kind text = matches (pattern kind) text

iri : fits Iri (codes "<urn:x>") ≡ true
unfolding fits pattern iriref short_string long_string integer decimal double pname_ns pname_ln blank_label langtag is_white is_line_end is_digit is_letter is_letter_or_digit is_hex is_sign is_exponent is_excluded is_escape is_name_base is_name_start is_name_char is_local_escape
iri = refl

iri_empty : fits Iri (codes "<>") ≡ true
unfolding fits pattern iriref short_string long_string integer decimal double pname_ns pname_ln blank_label langtag is_white is_line_end is_digit is_letter is_letter_or_digit is_hex is_sign is_exponent is_excluded is_escape is_name_base is_name_start is_name_char is_local_escape
iri_empty = refl

iri_code : fits Iri (codes "<\\u00e9\\U0001F600>") ≡ true
unfolding fits pattern iriref short_string long_string integer decimal double pname_ns pname_ln blank_label langtag is_white is_line_end is_digit is_letter is_letter_or_digit is_hex is_sign is_exponent is_excluded is_escape is_name_base is_name_start is_name_char is_local_escape
iri_code = refl

iri_space : fits Iri (codes "<a b>") ≡ false
unfolding fits pattern iriref short_string long_string integer decimal double pname_ns pname_ln blank_label langtag is_white is_line_end is_digit is_letter is_letter_or_digit is_hex is_sign is_exponent is_excluded is_escape is_name_base is_name_start is_name_char is_local_escape
iri_space = refl

iri_escape : fits Iri (codes "<a\\n>") ≡ false
unfolding fits pattern iriref short_string long_string integer decimal double pname_ns pname_ln blank_label langtag is_white is_line_end is_digit is_letter is_letter_or_digit is_hex is_sign is_exponent is_excluded is_escape is_name_base is_name_start is_name_char is_local_escape
iri_escape = refl

iri_surrogate : fits Iri (codes "<\\uD800>") ≡ false
unfolding fits pattern iriref short_string long_string integer decimal double pname_ns pname_ln blank_label langtag is_white is_line_end is_digit is_letter is_letter_or_digit is_hex is_sign is_exponent is_excluded is_escape is_name_base is_name_start is_name_char is_local_escape
iri_surrogate = refl

iri_below_surrogates : fits Iri (codes "<\\uD7FF>") ≡ true
unfolding fits pattern iriref short_string long_string integer decimal double pname_ns pname_ln blank_label langtag is_white is_line_end is_digit is_letter is_letter_or_digit is_hex is_sign is_exponent is_excluded is_escape is_name_base is_name_start is_name_char is_local_escape
iri_below_surrogates = refl

iri_no_character : fits Iri (codes "<\\U00110000>") ≡ false
unfolding fits pattern iriref short_string long_string integer decimal double pname_ns pname_ln blank_label langtag is_white is_line_end is_digit is_letter is_letter_or_digit is_hex is_sign is_exponent is_excluded is_escape is_name_base is_name_start is_name_char is_local_escape
iri_no_character = refl

iri_last_character : fits Iri (codes "<\\U0010FFFF>") ≡ true
unfolding fits pattern iriref short_string long_string integer decimal double pname_ns pname_ln blank_label langtag is_white is_line_end is_digit is_letter is_letter_or_digit is_hex is_sign is_exponent is_excluded is_escape is_name_base is_name_start is_name_char is_local_escape
iri_last_character = refl

iri_long_surrogate : fits Iri (codes "<\\U0000dfff>") ≡ false
unfolding fits pattern iriref short_string long_string integer decimal double pname_ns pname_ln blank_label langtag is_white is_line_end is_digit is_letter is_letter_or_digit is_hex is_sign is_exponent is_excluded is_escape is_name_base is_name_start is_name_char is_local_escape
iri_long_surrogate = refl

iri_open : fits Iri (codes "<a") ≡ false
unfolding fits pattern iriref short_string long_string integer decimal double pname_ns pname_ln blank_label langtag is_white is_line_end is_digit is_letter is_letter_or_digit is_hex is_sign is_exponent is_excluded is_escape is_name_base is_name_start is_name_char is_local_escape
iri_open = refl

namespace : fits Namespace (codes "lv2:") ≡ true
unfolding fits pattern iriref short_string long_string integer decimal double pname_ns pname_ln blank_label langtag is_white is_line_end is_digit is_letter is_letter_or_digit is_hex is_sign is_exponent is_excluded is_escape is_name_base is_name_start is_name_char is_local_escape
namespace = refl

namespace_alone : fits Namespace (codes ":") ≡ true
unfolding fits pattern iriref short_string long_string integer decimal double pname_ns pname_ln blank_label langtag is_white is_line_end is_digit is_letter is_letter_or_digit is_hex is_sign is_exponent is_excluded is_escape is_name_base is_name_start is_name_char is_local_escape
namespace_alone = refl

namespace_dot_inside : fits Namespace (codes "a.b:") ≡ true
unfolding fits pattern iriref short_string long_string integer decimal double pname_ns pname_ln blank_label langtag is_white is_line_end is_digit is_letter is_letter_or_digit is_hex is_sign is_exponent is_excluded is_escape is_name_base is_name_start is_name_char is_local_escape
namespace_dot_inside = refl

namespace_dot_last : fits Namespace (codes "a.:") ≡ false
unfolding fits pattern iriref short_string long_string integer decimal double pname_ns pname_ln blank_label langtag is_white is_line_end is_digit is_letter is_letter_or_digit is_hex is_sign is_exponent is_excluded is_escape is_name_base is_name_start is_name_char is_local_escape
namespace_dot_last = refl

namespace_local : fits Namespace (codes "a:b") ≡ false
unfolding fits pattern iriref short_string long_string integer decimal double pname_ns pname_ln blank_label langtag is_white is_line_end is_digit is_letter is_letter_or_digit is_hex is_sign is_exponent is_excluded is_escape is_name_base is_name_start is_name_char is_local_escape
namespace_local = refl

prefixed : fits PrefixedName (codes "lv2:Plugin") ≡ true
unfolding fits pattern iriref short_string long_string integer decimal double pname_ns pname_ln blank_label langtag is_white is_line_end is_digit is_letter is_letter_or_digit is_hex is_sign is_exponent is_excluded is_escape is_name_base is_name_start is_name_char is_local_escape
prefixed = refl

prefixed_colons : fits PrefixedName (codes ":a:1") ≡ true
unfolding fits pattern iriref short_string long_string integer decimal double pname_ns pname_ln blank_label langtag is_white is_line_end is_digit is_letter is_letter_or_digit is_hex is_sign is_exponent is_excluded is_escape is_name_base is_name_start is_name_char is_local_escape
prefixed_colons = refl

prefixed_digit : fits PrefixedName (codes "p:1.2") ≡ true
unfolding fits pattern iriref short_string long_string integer decimal double pname_ns pname_ln blank_label langtag is_white is_line_end is_digit is_letter is_letter_or_digit is_hex is_sign is_exponent is_excluded is_escape is_name_base is_name_start is_name_char is_local_escape
prefixed_digit = refl

prefixed_dot_last : fits PrefixedName (codes "p:b.") ≡ false
unfolding fits pattern iriref short_string long_string integer decimal double pname_ns pname_ln blank_label langtag is_white is_line_end is_digit is_letter is_letter_or_digit is_hex is_sign is_exponent is_excluded is_escape is_name_base is_name_start is_name_char is_local_escape
prefixed_dot_last = refl

prefixed_escaped_dot : fits PrefixedName (codes "p:b\\.") ≡ true
unfolding fits pattern iriref short_string long_string integer decimal double pname_ns pname_ln blank_label langtag is_white is_line_end is_digit is_letter is_letter_or_digit is_hex is_sign is_exponent is_excluded is_escape is_name_base is_name_start is_name_char is_local_escape
prefixed_escaped_dot = refl

prefixed_percent : fits PrefixedName (codes "p:%4a") ≡ true
unfolding fits pattern iriref short_string long_string integer decimal double pname_ns pname_ln blank_label langtag is_white is_line_end is_digit is_letter is_letter_or_digit is_hex is_sign is_exponent is_excluded is_escape is_name_base is_name_start is_name_char is_local_escape
prefixed_percent = refl

prefixed_percent_cut : fits PrefixedName (codes "p:%4") ≡ false
unfolding fits pattern iriref short_string long_string integer decimal double pname_ns pname_ln blank_label langtag is_white is_line_end is_digit is_letter is_letter_or_digit is_hex is_sign is_exponent is_excluded is_escape is_name_base is_name_start is_name_char is_local_escape
prefixed_percent_cut = refl

prefixed_hyphen_first : fits PrefixedName (codes "p:-a") ≡ false
unfolding fits pattern iriref short_string long_string integer decimal double pname_ns pname_ln blank_label langtag is_white is_line_end is_digit is_letter is_letter_or_digit is_hex is_sign is_exponent is_excluded is_escape is_name_base is_name_start is_name_char is_local_escape
prefixed_hyphen_first = refl

prefixed_multiplication_sign : fits PrefixedName (112 ∷ 58 ∷ 0xD7 ∷ []) ≡ false
unfolding fits pattern iriref short_string long_string integer decimal double pname_ns pname_ln blank_label langtag is_white is_line_end is_digit is_letter is_letter_or_digit is_hex is_sign is_exponent is_excluded is_escape is_name_base is_name_start is_name_char is_local_escape
prefixed_multiplication_sign = refl

prefixed_letter_beside_it : fits PrefixedName (112 ∷ 58 ∷ 0xD8 ∷ []) ≡ true
unfolding fits pattern iriref short_string long_string integer decimal double pname_ns pname_ln blank_label langtag is_white is_line_end is_digit is_letter is_letter_or_digit is_hex is_sign is_exponent is_excluded is_escape is_name_base is_name_start is_name_char is_local_escape
prefixed_letter_beside_it = refl

label : fits BlankLabel (codes "_:b0") ≡ true
unfolding fits pattern iriref short_string long_string integer decimal double pname_ns pname_ln blank_label langtag is_white is_line_end is_digit is_letter is_letter_or_digit is_hex is_sign is_exponent is_excluded is_escape is_name_base is_name_start is_name_char is_local_escape
label = refl

label_digit : fits BlankLabel (codes "_:0.b") ≡ true
unfolding fits pattern iriref short_string long_string integer decimal double pname_ns pname_ln blank_label langtag is_white is_line_end is_digit is_letter is_letter_or_digit is_hex is_sign is_exponent is_excluded is_escape is_name_base is_name_start is_name_char is_local_escape
label_digit = refl

label_dot_last : fits BlankLabel (codes "_:b.") ≡ false
unfolding fits pattern iriref short_string long_string integer decimal double pname_ns pname_ln blank_label langtag is_white is_line_end is_digit is_letter is_letter_or_digit is_hex is_sign is_exponent is_excluded is_escape is_name_base is_name_start is_name_char is_local_escape
label_dot_last = refl

label_empty : fits BlankLabel (codes "_:") ≡ false
unfolding fits pattern iriref short_string long_string integer decimal double pname_ns pname_ln blank_label langtag is_white is_line_end is_digit is_letter is_letter_or_digit is_hex is_sign is_exponent is_excluded is_escape is_name_base is_name_start is_name_char is_local_escape
label_empty = refl

tag : fits LanguageTag (codes "@en-GB") ≡ true
unfolding fits pattern iriref short_string long_string integer decimal double pname_ns pname_ln blank_label langtag is_white is_line_end is_digit is_letter is_letter_or_digit is_hex is_sign is_exponent is_excluded is_escape is_name_base is_name_start is_name_char is_local_escape
tag = refl

tag_prefix : fits LanguageTag (codes "@prefix") ≡ true
unfolding fits pattern iriref short_string long_string integer decimal double pname_ns pname_ln blank_label langtag is_white is_line_end is_digit is_letter is_letter_or_digit is_hex is_sign is_exponent is_excluded is_escape is_name_base is_name_start is_name_char is_local_escape
tag_prefix = refl

tag_hyphen_last : fits LanguageTag (codes "@en-") ≡ false
unfolding fits pattern iriref short_string long_string integer decimal double pname_ns pname_ln blank_label langtag is_white is_line_end is_digit is_letter is_letter_or_digit is_hex is_sign is_exponent is_excluded is_escape is_name_base is_name_start is_name_char is_local_escape
tag_hyphen_last = refl

tag_digit_first : fits LanguageTag (codes "@1") ≡ false
unfolding fits pattern iriref short_string long_string integer decimal double pname_ns pname_ln blank_label langtag is_white is_line_end is_digit is_letter is_letter_or_digit is_hex is_sign is_exponent is_excluded is_escape is_name_base is_name_start is_name_char is_local_escape
tag_digit_first = refl

integer_signed : fits Integer (codes "-05") ≡ true
unfolding fits pattern iriref short_string long_string integer decimal double pname_ns pname_ln blank_label langtag is_white is_line_end is_digit is_letter is_letter_or_digit is_hex is_sign is_exponent is_excluded is_escape is_name_base is_name_start is_name_char is_local_escape
integer_signed = refl

integer_dot : fits Integer (codes "3.") ≡ false
unfolding fits pattern iriref short_string long_string integer decimal double pname_ns pname_ln blank_label langtag is_white is_line_end is_digit is_letter is_letter_or_digit is_hex is_sign is_exponent is_excluded is_escape is_name_base is_name_start is_name_char is_local_escape
integer_dot = refl

decimal_short : fits Decimal (codes "+.5") ≡ true
unfolding fits pattern iriref short_string long_string integer decimal double pname_ns pname_ln blank_label langtag is_white is_line_end is_digit is_letter is_letter_or_digit is_hex is_sign is_exponent is_excluded is_escape is_name_base is_name_start is_name_char is_local_escape
decimal_short = refl

decimal_dot_last : fits Decimal (codes "3.") ≡ false
unfolding fits pattern iriref short_string long_string integer decimal double pname_ns pname_ln blank_label langtag is_white is_line_end is_digit is_letter is_letter_or_digit is_hex is_sign is_exponent is_excluded is_escape is_name_base is_name_start is_name_char is_local_escape
decimal_dot_last = refl

double_dot : fits Double (codes "3.e5") ≡ true
unfolding fits pattern iriref short_string long_string integer decimal double pname_ns pname_ln blank_label langtag is_white is_line_end is_digit is_letter is_letter_or_digit is_hex is_sign is_exponent is_excluded is_escape is_name_base is_name_start is_name_char is_local_escape
double_dot = refl

double_plain : fits Double (codes "1E-6") ≡ true
unfolding fits pattern iriref short_string long_string integer decimal double pname_ns pname_ln blank_label langtag is_white is_line_end is_digit is_letter is_letter_or_digit is_hex is_sign is_exponent is_excluded is_escape is_name_base is_name_start is_name_char is_local_escape
double_plain = refl

double_dot_first : fits Double (codes ".5e0") ≡ true
unfolding fits pattern iriref short_string long_string integer decimal double pname_ns pname_ln blank_label langtag is_white is_line_end is_digit is_letter is_letter_or_digit is_hex is_sign is_exponent is_excluded is_escape is_name_base is_name_start is_name_char is_local_escape
double_dot_first = refl

double_dot_alone : fits Double (codes ".e5") ≡ false
unfolding fits pattern iriref short_string long_string integer decimal double pname_ns pname_ln blank_label langtag is_white is_line_end is_digit is_letter is_letter_or_digit is_hex is_sign is_exponent is_excluded is_escape is_name_base is_name_start is_name_char is_local_escape
double_dot_alone = refl

double_cut : fits Double (codes "3e") ≡ false
unfolding fits pattern iriref short_string long_string integer decimal double pname_ns pname_ln blank_label langtag is_white is_line_end is_digit is_letter is_letter_or_digit is_hex is_sign is_exponent is_excluded is_escape is_name_base is_name_start is_name_char is_local_escape
double_cut = refl

string : fits String (codes "\"a\\t\\u0041\"") ≡ true
unfolding fits pattern iriref short_string long_string integer decimal double pname_ns pname_ln blank_label langtag is_white is_line_end is_digit is_letter is_letter_or_digit is_hex is_sign is_exponent is_excluded is_escape is_name_base is_name_start is_name_char is_local_escape
string = refl

string_line : fits String (34 ∷ 10 ∷ 34 ∷ []) ≡ false
unfolding fits pattern iriref short_string long_string integer decimal double pname_ns pname_ln blank_label langtag is_white is_line_end is_digit is_letter is_letter_or_digit is_hex is_sign is_exponent is_excluded is_escape is_name_base is_name_start is_name_char is_local_escape
string_line = refl

string_bad_escape : fits String (codes "\"\\q\"") ≡ false
unfolding fits pattern iriref short_string long_string integer decimal double pname_ns pname_ln blank_label langtag is_white is_line_end is_digit is_letter is_letter_or_digit is_hex is_sign is_exponent is_excluded is_escape is_name_base is_name_start is_name_char is_local_escape
string_bad_escape = refl

string_quote_inside : fits String (codes "\"a\"b\"") ≡ false
unfolding fits pattern iriref short_string long_string integer decimal double pname_ns pname_ln blank_label langtag is_white is_line_end is_digit is_letter is_letter_or_digit is_hex is_sign is_exponent is_excluded is_escape is_name_base is_name_start is_name_char is_local_escape
string_quote_inside = refl

single_string : fits SingleString (codes "'\"'") ≡ true
unfolding fits pattern iriref short_string long_string integer decimal double pname_ns pname_ln blank_label langtag is_white is_line_end is_digit is_letter is_letter_or_digit is_hex is_sign is_exponent is_excluded is_escape is_name_base is_name_start is_name_char is_local_escape
single_string = refl

long_string_row : fits LongString (34 ∷ 34 ∷ 34 ∷ 10 ∷ 34 ∷ 34 ∷ 97 ∷ 34 ∷ 34 ∷ 34 ∷ []) ≡ true
unfolding fits pattern iriref short_string long_string integer decimal double pname_ns pname_ln blank_label langtag is_white is_line_end is_digit is_letter is_letter_or_digit is_hex is_sign is_exponent is_excluded is_escape is_name_base is_name_start is_name_char is_local_escape
long_string_row = refl

long_string_quote_last : fits LongString (codes "\"\"\"a\"\"\"\"") ≡ false
unfolding fits pattern iriref short_string long_string integer decimal double pname_ns pname_ln blank_label langtag is_white is_line_end is_digit is_letter is_letter_or_digit is_hex is_sign is_exponent is_excluded is_escape is_name_base is_name_start is_name_char is_local_escape
long_string_quote_last = refl

long_single_string : fits LongSingleString (codes "'''\"\"\"'''") ≡ true
unfolding fits pattern iriref short_string long_string integer decimal double pname_ns pname_ln blank_label langtag is_white is_line_end is_digit is_letter is_letter_or_digit is_hex is_sign is_exponent is_excluded is_escape is_name_base is_name_start is_name_char is_local_escape
long_single_string = refl

dot : fits Dot (codes ".") ≡ true
unfolding fits pattern iriref short_string long_string integer decimal double pname_ns pname_ln blank_label langtag is_white is_line_end is_digit is_letter is_letter_or_digit is_hex is_sign is_exponent is_excluded is_escape is_name_base is_name_start is_name_char is_local_escape
dot = refl

carets : fits DoubleCaret (codes "^") ≡ false
unfolding fits pattern iriref short_string long_string integer decimal double pname_ns pname_ln blank_label langtag is_white is_line_end is_digit is_letter is_letter_or_digit is_hex is_sign is_exponent is_excluded is_escape is_name_base is_name_start is_name_char is_local_escape
carets = refl

a_in_capital : fits A (codes "A") ≡ false
unfolding fits pattern iriref short_string long_string integer decimal double pname_ns pname_ln blank_label langtag is_white is_line_end is_digit is_letter is_letter_or_digit is_hex is_sign is_exponent is_excluded is_escape is_name_base is_name_start is_name_char is_local_escape
a_in_capital = refl

true_word : fits True (codes "true") ≡ true
unfolding fits pattern iriref short_string long_string integer decimal double pname_ns pname_ln blank_label langtag is_white is_line_end is_digit is_letter is_letter_or_digit is_hex is_sign is_exponent is_excluded is_escape is_name_base is_name_start is_name_char is_local_escape
true_word = refl

true_in_capitals : fits True (codes "TRUE") ≡ false
unfolding fits pattern iriref short_string long_string integer decimal double pname_ns pname_ln blank_label langtag is_white is_line_end is_digit is_letter is_letter_or_digit is_hex is_sign is_exponent is_excluded is_escape is_name_base is_name_start is_name_char is_local_escape
true_in_capitals = refl

prefix_in_any_case : fits Prefix (codes "PreFIX") ≡ true
unfolding fits pattern iriref short_string long_string integer decimal double pname_ns pname_ln blank_label langtag is_white is_line_end is_digit is_letter is_letter_or_digit is_hex is_sign is_exponent is_excluded is_escape is_name_base is_name_start is_name_char is_local_escape
prefix_in_any_case = refl

base_in_any_case : fits Base (codes "BASE") ≡ true
unfolding fits pattern iriref short_string long_string integer decimal double pname_ns pname_ln blank_label langtag is_white is_line_end is_digit is_letter is_letter_or_digit is_hex is_sign is_exponent is_excluded is_escape is_name_base is_name_start is_name_char is_local_escape
base_in_any_case = refl

gap_of_comments : matches gap (codes " # a\n#b") ≡ true
unfolding gap is_white is_line_end
gap_of_comments = refl

gap_letter : matches gap (codes " a") ≡ false
unfolding gap is_white is_line_end
gap_letter = refl

gap_after_comment : matches gap (codes "#a\r b") ≡ false
unfolding gap is_white is_line_end
gap_after_comment = refl
