-- The words of a state file that are always the same: each is a token before white space.
use Rattle.std.proofs.Common.{codes, refl}
use Rattle.std.specs.Str.{chars, is_utf8}
use Rattle.turtle_grammar.specs.Characters.{is_white, is_line_end, is_digit, is_letter, is_letter_or_digit, is_hex, is_sign, is_exponent, is_excluded, is_escape, is_name_base, is_name_start, is_name_char, is_local_escape}
use Rattle.turtle_grammar.specs.Terminals.{pattern, iriref, short_string, long_string, integer, decimal, double, pname_ns, pname_ln, blank_label, langtag}
use Rattle.turtle_grammar.specs.declared.token.TokenKind.TheVariants.{Namespace, PrefixedName, LanguageTag, Integer, Dot, Semicolon, OpenSquare, CloseSquare, A}
use Rattle.turtle_words.specs.Words.{IsToken}
use Rattle.turtle_words.proofs.Plain.{ends_all}
use Rattle.turtle_words.proofs.Tokens.{plain_token}
use lib.Utf8.{encode}

pub dot : IsToken Dot (codes ".")
unfolding is_utf8 chars encode ends_all pattern iriref short_string long_string integer decimal double pname_ns pname_ln blank_label langtag is_white is_line_end is_digit is_letter is_letter_or_digit is_hex is_sign is_exponent is_excluded is_escape is_name_base is_name_start is_name_char is_local_escape
dot = plain_token Dot (codes ".") refl refl refl refl (λ rest. refl) refl refl

pub semicolon_token : IsToken Semicolon (codes ";")
unfolding is_utf8 chars encode ends_all pattern iriref short_string long_string integer decimal double pname_ns pname_ln blank_label langtag is_white is_line_end is_digit is_letter is_letter_or_digit is_hex is_sign is_exponent is_excluded is_escape is_name_base is_name_start is_name_char is_local_escape
semicolon_token = plain_token Semicolon (codes ";") refl refl refl refl (λ rest. refl) refl refl

pub opening_token : IsToken OpenSquare (codes "[")
unfolding is_utf8 chars encode ends_all pattern iriref short_string long_string integer decimal double pname_ns pname_ln blank_label langtag is_white is_line_end is_digit is_letter is_letter_or_digit is_hex is_sign is_exponent is_excluded is_escape is_name_base is_name_start is_name_char is_local_escape
opening_token = plain_token OpenSquare (codes "[") refl refl refl refl (λ rest. refl) refl refl

pub closing_token : IsToken CloseSquare (codes "]")
unfolding is_utf8 chars encode ends_all pattern iriref short_string long_string integer decimal double pname_ns pname_ln blank_label langtag is_white is_line_end is_digit is_letter is_letter_or_digit is_hex is_sign is_exponent is_excluded is_escape is_name_base is_name_start is_name_char is_local_escape
closing_token = plain_token CloseSquare (codes "]") refl refl refl refl (λ rest. refl) refl refl

pub is_a_token : IsToken A (codes "a")
unfolding is_utf8 chars encode ends_all pattern iriref short_string long_string integer decimal double pname_ns pname_ln blank_label langtag is_white is_line_end is_digit is_letter is_letter_or_digit is_hex is_sign is_exponent is_excluded is_escape is_name_base is_name_start is_name_char is_local_escape
is_a_token = plain_token A (codes "a") refl refl refl refl (λ rest. refl) refl refl

pub prefix_word : IsToken LanguageTag (codes "@prefix")
unfolding is_utf8 chars encode ends_all pattern iriref short_string long_string integer decimal double pname_ns pname_ln blank_label langtag is_white is_line_end is_digit is_letter is_letter_or_digit is_hex is_sign is_exponent is_excluded is_escape is_name_base is_name_start is_name_char is_local_escape
prefix_word = plain_token LanguageTag (codes "@prefix") refl refl refl refl (λ rest. refl) refl refl

pub state_prefix : IsToken Namespace (codes "state:")
unfolding is_utf8 chars encode ends_all pattern iriref short_string long_string integer decimal double pname_ns pname_ln blank_label langtag is_white is_line_end is_digit is_letter is_letter_or_digit is_hex is_sign is_exponent is_excluded is_escape is_name_base is_name_start is_name_char is_local_escape
state_prefix = plain_token Namespace (codes "state:") refl refl refl refl (λ rest. refl) refl refl

pub fx_prefix : IsToken Namespace (codes "fx:")
unfolding is_utf8 chars encode ends_all pattern iriref short_string long_string integer decimal double pname_ns pname_ln blank_label langtag is_white is_line_end is_digit is_letter is_letter_or_digit is_hex is_sign is_exponent is_excluded is_escape is_name_base is_name_start is_name_char is_local_escape
fx_prefix = plain_token Namespace (codes "fx:") refl refl refl refl (λ rest. refl) refl refl

pub fx_saved : IsToken PrefixedName (codes "fx:Saved")
unfolding is_utf8 chars encode ends_all pattern iriref short_string long_string integer decimal double pname_ns pname_ln blank_label langtag is_white is_line_end is_digit is_letter is_letter_or_digit is_hex is_sign is_exponent is_excluded is_escape is_name_base is_name_start is_name_char is_local_escape
fx_saved = plain_token PrefixedName (codes "fx:Saved") refl refl refl refl (λ rest. refl) refl refl

pub fx_name : IsToken PrefixedName (codes "fx:name")
unfolding is_utf8 chars encode ends_all pattern iriref short_string long_string integer decimal double pname_ns pname_ln blank_label langtag is_white is_line_end is_digit is_letter is_letter_or_digit is_hex is_sign is_exponent is_excluded is_escape is_name_base is_name_start is_name_char is_local_escape
fx_name = plain_token PrefixedName (codes "fx:name") refl refl refl refl (λ rest. refl) refl refl

pub fx_plugin : IsToken PrefixedName (codes "fx:plugin")
unfolding is_utf8 chars encode ends_all pattern iriref short_string long_string integer decimal double pname_ns pname_ln blank_label langtag is_white is_line_end is_digit is_letter is_letter_or_digit is_hex is_sign is_exponent is_excluded is_escape is_name_base is_name_start is_name_char is_local_escape
fx_plugin = plain_token PrefixedName (codes "fx:plugin") refl refl refl refl (λ rest. refl) refl refl

pub state_state : IsToken PrefixedName (codes "state:state")
unfolding is_utf8 chars encode ends_all pattern iriref short_string long_string integer decimal double pname_ns pname_ln blank_label langtag is_white is_line_end is_digit is_letter is_letter_or_digit is_hex is_sign is_exponent is_excluded is_escape is_name_base is_name_start is_name_char is_local_escape
state_state = plain_token PrefixedName (codes "state:state") refl refl refl refl (λ rest. refl) refl refl

pub fx_type : IsToken PrefixedName (codes "fx:type")
unfolding is_utf8 chars encode ends_all pattern iriref short_string long_string integer decimal double pname_ns pname_ln blank_label langtag is_white is_line_end is_digit is_letter is_letter_or_digit is_hex is_sign is_exponent is_excluded is_escape is_name_base is_name_start is_name_char is_local_escape
fx_type = plain_token PrefixedName (codes "fx:type") refl refl refl refl (λ rest. refl) refl refl

pub fx_flags : IsToken PrefixedName (codes "fx:flags")
unfolding is_utf8 chars encode ends_all pattern iriref short_string long_string integer decimal double pname_ns pname_ln blank_label langtag is_white is_line_end is_digit is_letter is_letter_or_digit is_hex is_sign is_exponent is_excluded is_escape is_name_base is_name_start is_name_char is_local_escape
fx_flags = plain_token PrefixedName (codes "fx:flags") refl refl refl refl (λ rest. refl) refl refl

pub fx_bytes : IsToken PrefixedName (codes "fx:bytes")
unfolding is_utf8 chars encode ends_all pattern iriref short_string long_string integer decimal double pname_ns pname_ln blank_label langtag is_white is_line_end is_digit is_letter is_letter_or_digit is_hex is_sign is_exponent is_excluded is_escape is_name_base is_name_start is_name_char is_local_escape
fx_bytes = plain_token PrefixedName (codes "fx:bytes") refl refl refl refl (λ rest. refl) refl refl

pub three : IsToken Integer (codes "3")
unfolding is_utf8 chars encode ends_all pattern iriref short_string long_string integer decimal double pname_ns pname_ln blank_label langtag is_white is_line_end is_digit is_letter is_letter_or_digit is_hex is_sign is_exponent is_excluded is_escape is_name_base is_name_start is_name_char is_local_escape
three = plain_token Integer (codes "3") refl refl refl refl (λ rest. refl) refl refl

pub seven : IsToken Integer (codes "7")
unfolding is_utf8 chars encode ends_all pattern iriref short_string long_string integer decimal double pname_ns pname_ln blank_label langtag is_white is_line_end is_digit is_letter is_letter_or_digit is_hex is_sign is_exponent is_excluded is_escape is_name_base is_name_start is_name_char is_local_escape
seven = plain_token Integer (codes "7") refl refl refl refl (λ rest. refl) refl refl
