-- What a state file's triples say of a property, by the rules of reading.
use Rattle.std.proofs.Common.{◌≡◌, ℕ, suc, ◌+◌, Bool, true, false, not, cond, ◌&&◌, ◌||◌, List, [], ◌∷◌, ◌++◌, length, map, filter, None, Some, is_some, unwrap_or, IsTrue, refl, sym, ap, ◌∙◌, subst}
use Rattle.std.proofs.lemmas.Bool.{and_from}
use Rattle.std.specs.Prelude.{decimal, option_and_then, option_to_list, fold}
use Rattle.std.specs.Fmt.{digits}
use Rattle.std.specs.List.{AllByRecursion, list_all, list_any}
use Rattle.std.specs.Str.{bytes_eq}
use Rattle.std.proofs.lemmas.Slice.Eq.{bytes_eq-Decides}
use Rattle.base64.specs.Engines.{standard}
use Rattle.base64.specs.GeneralPurpose.{encode_of}
use Rattle.iri_resolve.specs.Iri.{is_iri_text}
use Rattle.state_file.proofs.Rows.{objects-found}
use Rattle.state_file.specs.Objects.{names, text_in, iri_in, is_of_kind, only, one_of}
use Rattle.state_file.specs.Order.{uri_text}
use Rattle.state_file.specs.Reading.{key_number, prop_of, stored}
use Rattle.state_file.specs.Rules.{is_property, each_once, size_of, uris_of}
use Rattle.state_file.specs.States.{key_in, kind_in, flags_term, bytes_term, flags_in, bytes_in}
use Rattle.state_file.specs.Values.{in_full, flags_of, bytes_of}
use Rattle.state_file.specs.declared.objects.Kind.{Kind}
use Rattle.state_file.specs.declared.objects.Kind.TheVariants.{Whichever, OneIri}
use Rattle.state_store.specs.Properties.{with_property, are_flags, bytes_in as bytes_held}
use Rattle.state_store.specs.declared.prop.Prop.{Prop}
use Rattle.triple_store.specs.Triples.{same_term}
use Rattle.triple_store.specs.declared.term.Term.{Term}
use Rattle.triple_store.specs.declared.term.Term.TheVariants.{Iri, Blank, Literal}
use Rattle.triple_store.specs.declared.term.Triple.{Triple}
use Rattle.urid_map.specs.Numbers.{holds, number_of, with_uri, with_uris, AreNumbered}
use Rattle.vocabulary.specs.Words.{iri_of}
use Rattle.vocabulary.specs.declared.word.Word.{Word}
use Rattle.vocabulary.specs.declared.word.Word.TheVariants.{FxType, FxFlags, FxBytes, XsdInteger, XsdString}
use Rattle.state_round.specs.RoundTrip.{IsSelf, IsNumber, IsWritable}
use Rattle.state_round.proofs.Words.{row_uri, kind_uri}
use Rattle.state_round.proofs.Values.{self_of}
use Rattle.state_round.proofs.Encoded.{encoded_is}
use Rattle.state_round.proofs.Stored.{kept, Once, AreApart}
use Rattle.state_round.proofs.Rows.{value_rows, key_row, own}
use Rattle.state_round.proofs.Ready.{IsListed, flags_are}
use Rattle.state_round.proofs.Lines.{key_rows, AreValues}

-- ---- one property

-- the one object of a predicate, by all triples of a subject
pub one_found : (rows found : List Triple) (subject : Term) (predicate : Word) (kind : Kind) → own subject rows ≡ found
    → one_of kind rows subject predicate ≡ only (filter (is_of_kind kind) (map (λ (row : Triple). row.o) (filter (λ (row : Triple). names predicate row.p) found)))
unfolding one_of
one_found rows found subject predicate kind e = sym (ap only (objects-found rows found subject predicate kind (sym e)))

pub in_full_self : (iri : List ℕ) → IsSelf iri → in_full iri ≡ Some iri
in_full_self iri is = by (is_iri_text iri) is.full
  where
    by : (b : Bool) → b ≡ true → cond b (Some iri) None ≡ Some iri
    by true e = refl
    by false e = cc

flags_said : (flags : ℕ) → are_flags flags ≡ true → flags_of (decimal flags) ≡ Some flags
unfolding digits
flags_said flags h = flags_are (λ flags. flags_of (decimal flags) ≡ Some flags) refl refl flags h

-- what is read of a property
pub record IsRead (rows : List Triple) (urids : List (List ℕ)) (node b : ℕ) (row : ℕ × Prop) : Type 0 where
  pub key : key_in (key_row node b urids row) ≡ Some (row_uri urids row)
  pub kind : kind_in rows (key_row node b urids row) ≡ Some (kind_uri urids row)
  pub has_flags : is_some (flags_term rows (key_row node b urids row)) ≡ true
  pub has_bytes : is_some (bytes_term rows (key_row node b urids row)) ≡ true
  pub flags : flags_in rows (key_row node b urids row) ≡ Some row.1.flags
  pub bytes : bytes_in rows (key_row node b urids row) ≡ Some row.1.bytes

flags_found : (rows : List Triple) (urids : List (List ℕ)) (node b : ℕ) (row : ℕ × Prop) → own (Blank b) rows ≡ value_rows b urids row
    → flags_term rows (key_row node b urids row) ≡ Some (Literal (decimal row.1.flags) (iri_of XsdInteger) [])
unfolding flags_term iri_of
flags_found rows urids node b row e = one_found rows (value_rows b urids row) (Blank b) FxFlags Whichever e

bytes_found : (rows : List Triple) (urids : List (List ℕ)) (node b : ℕ) (row : ℕ × Prop) → own (Blank b) rows ≡ value_rows b urids row
    → bytes_term rows (key_row node b urids row) ≡ Some (Literal (encode_of standard row.1.bytes) (iri_of XsdString) [])
unfolding bytes_term iri_of
bytes_found rows urids node b row e = one_found rows (value_rows b urids row) (Blank b) FxBytes Whichever e

kind_found : (rows : List Triple) (urids : List (List ℕ)) (node b : ℕ) (row : ℕ × Prop) → own (Blank b) rows ≡ value_rows b urids row → IsSelf (kind_uri urids row)
    → kind_in rows (key_row node b urids row) ≡ Some (kind_uri urids row)
unfolding kind_in iri_of
kind_found rows urids node b row e is =
    ap (λ o. option_and_then in_full (option_and_then iri_in o)) (one_found rows (value_rows b urids row) (Blank b) FxType OneIri e) ∙ in_full_self (kind_uri urids row) is

key_found : (urids : List (List ℕ)) (node b : ℕ) (row : ℕ × Prop) → IsSelf (row_uri urids row) → key_in (key_row node b urids row) ≡ Some (row_uri urids row)
unfolding key_in
key_found urids node b row is = in_full_self (row_uri urids row) is

flags_read : (rows : List Triple) (urids : List (List ℕ)) (node b : ℕ) (row : ℕ × Prop) → own (Blank b) rows ≡ value_rows b urids row → are_flags row.1.flags ≡ true
    → flags_in rows (key_row node b urids row) ≡ Some row.1.flags
unfolding flags_in
flags_read rows urids node b row e lawful = ap (λ o. option_and_then flags_of (option_and_then text_in o)) (flags_found rows urids node b row e) ∙ flags_said row.1.flags lawful

bytes_read : (rows : List Triple) (urids : List (List ℕ)) (node b : ℕ) (row : ℕ × Prop) → own (Blank b) rows ≡ value_rows b urids row → IsWritable urids row
    → bytes_in rows (key_row node b urids row) ≡ Some row.1.bytes
unfolding bytes_in
bytes_read rows urids node b row e is = ap (λ o. option_and_then bytes_of (option_and_then text_in o)) (bytes_found rows urids node b row e) ∙ encoded_is row.1.bytes is.bytes

is_read : (rows : List Triple) (urids : List (List ℕ)) (node b : ℕ) (row : ℕ × Prop) → own (Blank b) rows ≡ value_rows b urids row → IsListed urids row → IsRead rows urids node b row
is_read rows urids node b row e is = record {
  key = key_found urids node b row (self_of urids row.0 is.0.key);
  kind = kind_found rows urids node b row e (self_of urids row.1.kind is.0.kind);
  has_flags = ap is_some (flags_found rows urids node b row e);
  has_bytes = ap is_some (bytes_found rows urids node b row e);
  flags = flags_read rows urids node b row e is.1;
  bytes = bytes_read rows urids node b row e is.0;
}

-- ---- all properties of a node

abbrev pub AreRead : List Triple → List (List ℕ) → ℕ → ℕ → List (ℕ × Prop) → Type 0
AreRead rows urids node b [] = Unit {0}
AreRead rows urids node b (row ∷ rest) = IsRead rows urids node b row × AreRead rows urids node (suc b) rest

pub are_read : (rows : List Triple) (urids : List (List ℕ)) (node b : ℕ) (rest : List (ℕ × Prop)) → AreValues rows urids b rest → AllByRecursion (IsListed urids) rest → AreRead rows urids node b rest
are_read rows urids node b [] values is = tt
are_read rows urids node b (row ∷ rest) values is = (is_read rows urids node b row values.0 is.0, are_read rows urids node (suc b) rest values.1 is.1)

property_is : (rows : List Triple) (urids : List (List ℕ)) (node b : ℕ) (row : ℕ × Prop) → IsRead rows urids node b row → is_property rows (key_row node b urids row) ≡ true
unfolding is_property
property_is rows urids node b row is =
    and_from (is_some (key_in (key_row node b urids row)) && is_some (kind_in rows (key_row node b urids row))) (is_some (flags_term rows (key_row node b urids row)) && is_some (bytes_term rows (key_row node b urids row)))
    (and_from (is_some (key_in (key_row node b urids row))) (is_some (kind_in rows (key_row node b urids row))) (ap is_some is.key) (ap is_some is.kind))
    (and_from (is_some (flags_term rows (key_row node b urids row))) (is_some (bytes_term rows (key_row node b urids row))) is.has_flags is.has_bytes)

pub properties_are : (rows : List Triple) (urids : List (List ℕ)) (node b : ℕ) (rest : List (ℕ × Prop)) → AreRead rows urids node b rest → list_all (is_property rows) (key_rows node b urids rest) ≡ true
properties_are rows urids node b [] are = refl
properties_are rows urids node b (row ∷ rest) are =
    and_from (is_property rows (key_row node b urids row)) (list_all (is_property rows) (key_rows node (suc b) urids rest)) (property_is rows urids node b row are.0) (properties_are rows urids node (suc b) rest are.1)

pub flags_are_read : (rows : List Triple) (urids : List (List ℕ)) (node b : ℕ) (rest : List (ℕ × Prop)) → AreRead rows urids node b rest → list_all (λ property. is_some (flags_in rows property)) (key_rows node b urids rest) ≡ true
flags_are_read rows urids node b [] are = refl
flags_are_read rows urids node b (row ∷ rest) are =
    and_from (is_some (flags_in rows (key_row node b urids row))) (list_all (λ property. is_some (flags_in rows property)) (key_rows node (suc b) urids rest)) (ap is_some are.0.flags) (flags_are_read rows urids node (suc b) rest are.1)

pub bytes_are_read : (rows : List Triple) (urids : List (List ℕ)) (node b : ℕ) (rest : List (ℕ × Prop)) → AreRead rows urids node b rest → list_all (λ property. is_some (bytes_in rows property)) (key_rows node b urids rest) ≡ true
bytes_are_read rows urids node b [] are = refl
bytes_are_read rows urids node b (row ∷ rest) are =
    and_from (is_some (bytes_in rows (key_row node b urids row))) (list_all (λ property. is_some (bytes_in rows property)) (key_rows node (suc b) urids rest)) (ap is_some are.0.bytes) (bytes_are_read rows urids node (suc b) rest are.1)

pub size_is : (rows : List Triple) (urids : List (List ℕ)) (node b : ℕ) (rest : List (ℕ × Prop)) → AreRead rows urids node b rest → size_of rows (key_rows node b urids rest) ≡ bytes_held rest
size_is rows urids node b [] are = refl
size_is rows urids node b (row ∷ rest) are =
    ap (λ o. length (unwrap_or o []) + size_of rows (key_rows node (suc b) urids rest)) are.0.bytes ∙ ap (λ n. length row.1.bytes + n) (size_is rows urids node (suc b) rest are.1)

pub length_is : (urids : List (List ℕ)) (node b : ℕ) (rest : List (ℕ × Prop)) → length (key_rows node b urids rest) ≡ length rest
length_is urids node b [] = refl
length_is urids node b (row ∷ rest) = ap suc (length_is urids node (suc b) rest)

-- ---- numbers

-- a number is that of its URI
pub number_is : (urids : List (List ℕ)) (number : ℕ) → AreNumbered urids → IsNumber urids number → (number ≡ number_of urids (uri_text urids number)) × IsTrue (holds urids (uri_text urids number))
number_is urids number numbered is =
    let text : uri_text urids number ≡ is.0 = ap (λ uri. unwrap_or uri []) is.1 in
    let held = (numbered is.0 number).0 is.1 in
    (held.1 ∙ ap (number_of urids) (sym text), subst (λ (uri : List ℕ). IsTrue (holds urids uri)) (sym text) held.0)

-- other numbers have other URIs
other_uris : (urids : List (List ℕ)) (m n : ℕ) → AreNumbered urids → IsNumber urids m → IsNumber urids n → (m ≡ n → ⊥) → bytes_eq (uri_text urids m) (uri_text urids n) ≡ false
other_uris urids m n numbered first second apart = by (bytes_eq (uri_text urids m) (uri_text urids n)) refl
  where
    by : (b : Bool) → bytes_eq (uri_text urids m) (uri_text urids n) ≡ b → bytes_eq (uri_text urids m) (uri_text urids n) ≡ false
    by false e = e
    by true e =
        let same : uri_text urids m ≡ uri_text urids n = (bytes_eq-Decides (uri_text urids m) (uri_text urids n)).0 e in
        absurd (apart ((number_is urids m numbered first).0 ∙ ap (number_of urids) same ∙ sym (number_is urids n numbered second).0))

none_same : (urids : List (List ℕ)) (node b : ℕ) (row : ℕ × Prop) (rest : List (ℕ × Prop)) → AreNumbered urids → IsWritable urids row → AllByRecursion (IsWritable urids) rest → AllByRecursion (AreApart row) rest
    → list_any (same_term (Iri (row_uri urids row))) (map (λ (property : Triple). property.p) (key_rows node b urids rest)) ≡ false
none_same urids node b row [] numbered is all apart = refl
none_same urids node b row (other ∷ rest) numbered is all apart =
    ap (λ v. v || list_any (same_term (Iri (row_uri urids row))) (map (λ (property : Triple). property.p) (key_rows node (suc b) urids rest))) (other_uris urids row.0 other.0 numbered is.key all.0.key apart.0)
    ∙ none_same urids node (suc b) row rest numbered is all.1 apart.1

pub once_is : (urids : List (List ℕ)) (node b : ℕ) (rest : List (ℕ × Prop)) → AreNumbered urids → AllByRecursion (IsWritable urids) rest → Once rest
    → each_once (map (λ (property : Triple). property.p) (key_rows node b urids rest)) ≡ true
once_is urids node b [] numbered all once = refl
once_is urids node b (row ∷ rest) numbered all once =
    ap (λ v. not v && each_once (map (λ (property : Triple). property.p) (key_rows node (suc b) urids rest))) (none_same urids node (suc b) row rest numbered all.0 all.1 once.0)
    ∙ once_is urids node (suc b) rest numbered all.1 once.1

-- ---- what is stored

prop_is : (rows : List Triple) (urids : List (List ℕ)) (node b : ℕ) (row : ℕ × Prop) → AreNumbered urids → IsWritable urids row → IsRead rows urids node b row → prop_of rows urids (key_row node b urids row) ≡ row.1
prop_is rows urids node b row numbered is read = λ i. record { kind = kind i; flags = flags i; bytes = bytes i }
  where
    kind : number_of urids (unwrap_or (kind_in rows (key_row node b urids row)) []) ≡ row.1.kind
    kind = ap (λ o. number_of urids (unwrap_or o [])) read.kind ∙ sym (number_is urids row.1.kind numbered is.kind).0

    flags : unwrap_or (flags_in rows (key_row node b urids row)) 0 ≡ row.1.flags
    flags = ap (λ o. unwrap_or o 0) read.flags

    bytes : unwrap_or (bytes_in rows (key_row node b urids row)) [] ≡ row.1.bytes
    bytes = ap (λ o. unwrap_or o []) read.bytes

key_is : (rows : List Triple) (urids : List (List ℕ)) (node b : ℕ) (row : ℕ × Prop) → AreNumbered urids → IsWritable urids row → IsRead rows urids node b row → key_number urids (key_row node b urids row) ≡ row.0
key_is rows urids node b row numbered is read = ap (λ o. number_of urids (unwrap_or o [])) read.key ∙ sym (number_is urids row.0 numbered is.key).0

pub stored_is : (rows : List Triple) (urids : List (List ℕ)) (node b : ℕ) (held rest : List (ℕ × Prop)) → AreNumbered urids → AllByRecursion (IsWritable urids) rest → AreRead rows urids node b rest
    → stored rows urids held (key_rows node b urids rest) ≡ kept held rest
stored_is rows urids node b held [] numbered all are = refl
stored_is rows urids node b held (row ∷ rest) numbered all are =
    ap (λ n. stored rows urids (with_property held n (prop_of rows urids (key_row node b urids row))) (key_rows node (suc b) urids rest)) (key_is rows urids node b row numbered all.0 are.0)
    ∙ ap (λ p. stored rows urids (with_property held row.0 p) (key_rows node (suc b) urids rest)) (prop_is rows urids node b row numbered all.0 are.0)
    ∙ stored_is rows urids node (suc b) (with_property held row.0 row.1) rest numbered all.1 are.1

-- ---- which URIs are mapped

abbrev pub AreHeld : List (List ℕ) → List (List ℕ) → Type 0
AreHeld urids uris = AllByRecursion (λ (uri : List ℕ). IsTrue (holds urids uri)) uris

pub uris_held : (rows : List Triple) (urids : List (List ℕ)) (node b : ℕ) (rest : List (ℕ × Prop)) → AreNumbered urids → AllByRecursion (IsWritable urids) rest → AreRead rows urids node b rest
    → AreHeld urids (uris_of rows (key_rows node b urids rest))
uris_held rows urids node b [] numbered all are = tt
uris_held rows urids node b (row ∷ rest) numbered all are =
    subst (λ (uris : List (List ℕ)). AreHeld urids (uris ++ uris_of rows (key_rows node (suc b) urids rest))) (sym own)
    ((number_is urids row.0 numbered all.0.key).1, ((number_is urids row.1.kind numbered all.0.kind).1, uris_held rows urids node (suc b) rest numbered all.1 are.1))
  where
    own : option_to_list (key_in (key_row node b urids row)) ++ option_to_list (kind_in rows (key_row node b urids row)) ≡ row_uri urids row ∷ kind_uri urids row ∷ []
    own = ap (λ o. option_to_list o ++ option_to_list (kind_in rows (key_row node b urids row))) are.0.key ∙ ap (λ o. row_uri urids row ∷ option_to_list o) are.0.kind

pub with_held : (urids uris : List (List ℕ)) → AreHeld urids uris → with_uris urids uris ≡ urids
unfolding with_uris
with_held urids [] all = refl
with_held urids (uri ∷ uris) all = ap (λ l. fold with_uri l uris) (same (holds urids uri) all.0) ∙ with_held urids uris all.1
  where
    same : (b : Bool) → b ≡ true → cond b urids (urids ++ uri ∷ []) ≡ urids
    same true e = refl
    same false e = cc
