-- Base64 stands between quotes as it is, and says the bytes that it encodes.
use Rattle.std.proofs.Common.{◌≡◌, ℕ, zero, suc, Bool, true, false, cond, List, [], ◌∷◌, ◌++◌, length, replicate, slice_index, None, Some, rules, refl, ap, ◌∙◌}
use Rattle.std.proofs.lemmas.Bool.{or_from, or_parts}
use Rattle.std.specs.List.{list_any}
use Rattle.std.proofs.lemmas.Slice.Eq.{bytes_eq-Decides}
use Rattle.std.proofs.lemmas.Str.{IsUtf8-from_ascii}
use Rattle.base64.specs.Engines.{standard}
use Rattle.base64.specs.GeneralPurpose.{encode_of, IsBytes}
use Rattle.base64.specs.Rfc4648.{encode_symbols, padding_len}
use Rattle.base64.proofs.EngineFacts.{IsAscii-encode_of, decode_of-encode_of}
use Rattle.state_file.specs.Values.{bytes_of, encoded_as}
use Rattle.turtle_words.specs.Words.{ends_string}
use Rattle.state_round.specs.RoundTrip.{IsPlain}

one_symbol : (table : List ℕ) → list_any ends_string table ≡ false → (i : ℕ) → ends_string (slice_index table i) ≡ false
one_symbol [] h i = refl
one_symbol (c ∷ table) h zero = (or_parts (ends_string c) (list_any ends_string table) h).0
one_symbol (c ∷ table) h (suc i) = one_symbol table (or_parts (ends_string c) (list_any ends_string table) h).1 i

symbols : (table bytes : List ℕ) → list_any ends_string table ≡ false → list_any ends_string (encode_symbols table bytes) ≡ false
unfolding encode_symbols
symbols table [] h = refl
symbols table (a ∷ []) h = or_from _ _ (one_symbol table h _) (or_from _ _ (one_symbol table h _) refl)
symbols table (a ∷ b ∷ []) h = or_from _ _ (one_symbol table h _) (or_from _ _ (one_symbol table h _) (or_from _ _ (one_symbol table h _) refl))
symbols table (a ∷ b ∷ c ∷ rest) h =
    or_from _ _ (one_symbol table h _) (or_from _ _ (one_symbol table h _) (or_from _ _ (one_symbol table h _) (or_from _ _ (one_symbol table h _) (symbols table rest h))))

padding : (n : ℕ) → list_any ends_string (replicate n 61) ≡ false
padding zero = refl
padding (suc n) = padding n

joined : (a b : List ℕ) → list_any ends_string a ≡ false → list_any ends_string b ≡ false → list_any ends_string (a ++ b) ≡ false
joined [] b h k = k
joined (c ∷ a) b h k = let p = or_parts (ends_string c) (list_any ends_string a) h in or_from (ends_string c) (list_any ends_string (a ++ b)) p.0 (joined a b p.1 k)

pub encoded_plain : (bytes : List ℕ) → IsPlain (encode_of standard bytes)
encoded_plain bytes = record {
  utf8 = IsUtf8-from_ascii (encode_of standard bytes) (IsAscii-encode_of standard bytes);
  plain = joined (encode_symbols standard.encode_table bytes) (replicate (padding_len (length bytes)) 61) (symbols standard.encode_table bytes refl) (padding (padding_len (length bytes)));
}

-- it is the canonical text of its bytes
taken : (b : Bool) (bytes : List ℕ) → b ≡ true → cond b (Some bytes) None ≡ Some bytes
taken true bytes h = refl
taken false bytes h = cc

pub encoded_is : (bytes : List ℕ) → IsBytes bytes → bytes_of (encode_of standard bytes) ≡ Some bytes
unfolding bytes_of
encoded_is bytes is = ap (encoded_as (encode_of standard bytes)) (decode_of-encode_of standard bytes (search rules) is) ∙ taken _ bytes ((bytes_eq-Decides (encode_of standard bytes) (encode_of standard bytes)).1 refl)
