-- Each word of a state file is a token, and white space stands after it.
use Rattle.std.proofs.Common.{◌≡◌, ℕ, ◌+◌, ◌^◌, ◌<◌, ◌==◌, Bool, true, false, ◌&&◌, ◌||◌, List, [], ◌∷◌, ◌++◌, length, codes, refl, sym, subst, arith, append_assoc}
use Rattle.std.specs.Prelude.{decimal}
use Rattle.std.proofs.lemmas.Bool.{eqb-true}
use Rattle.std.proofs.lemmas.List.Elements.{All-head, All-tail}
use Rattle.std.specs.Fmt.{digits}
use Rattle.std.specs.List.{AllByRecursion, AllPass}
use Rattle.base64.specs.Engines.{standard}
use Rattle.base64.specs.GeneralPurpose.{encode_of}
use Rattle.state_file.specs.declared.saved.Saved.{Saved}
use Rattle.state_store.specs.Properties.{is_mapped, are_flags, is_storable}
use Rattle.state_store.specs.declared.prop.Prop.{Prop}
use Rattle.turtle_grammar.specs.Characters.{is_white}
use Rattle.turtle_grammar.specs.declared.token.TokenKind.{TokenKind}
use Rattle.turtle_grammar.specs.declared.token.TokenKind.TheVariants.{Iri, Namespace, PrefixedName, LanguageTag, Integer, String, Dot, Semicolon, OpenSquare, CloseSquare, A}
use Rattle.turtle_words.specs.Words.{Word, written, are_white, begins_white, IsToken, IsWord, AreSpaced}
use Rattle.turtle_words.proofs.Tokens.{iris_are_tokens, strings_are_tokens}
use Rattle.state_round.specs.RoundTrip.{IsPlain, IsSelf, IsWritable, IsSaved}
use Rattle.state_round.proofs.Words.{word, angle, quote, row_uri, kind_uri, semicolon, subject_text, property_words, more_words, properties_words, head_words, foot_words, in_file, saved_words, states_words, state_namespace, fx_namespace, file_words}
use Rattle.state_round.proofs.Vocabulary.{dot, semicolon_token, opening_token, closing_token, is_a_token, prefix_word, state_prefix, fx_prefix, fx_saved, fx_name, fx_plugin, state_state, fx_type, fx_flags, fx_bytes, three, seven}
use Rattle.state_round.proofs.Values.{self_excludes, self_of, subject_utf8, subject_plain, state_self, fx_self}
use Rattle.state_round.proofs.Order.{all_in_file}
use Rattle.state_round.proofs.Encoded.{encoded_plain}

-- words that fall into tokens, after white space
pub record AreReady (words : List Word) (more : List ℕ) : Type 0 where
  pub tokens : AllByRecursion IsWord words
  pub white : begins_white (written words more) ≡ true
  pub spaced : AreSpaced words more

-- white space, which isn't missing
abbrev pub IsSpace : List ℕ → Type 0
IsSpace space = (are_white space ≡ true) × (begins_white space ≡ true)

pub blank : IsSpace (codes " ")
unfolding is_white
blank = (refl, refl)

pub next_line : IsSpace (codes "\n")
unfolding is_white
next_line = (refl, refl)

pub empty_line : IsSpace (codes "\n\n")
unfolding is_white
empty_line = (refl, refl)

pub indented : IsSpace (codes "\n\t")
unfolding is_white
indented = (refl, refl)

pub indented_twice : IsSpace (codes "\n\t\t")
unfolding is_white
indented_twice = (refl, refl)

begins_on : (space rest : List ℕ) → begins_white space ≡ true → begins_white (space ++ rest) ≡ true
begins_on [] rest h = cc
begins_on (c ∷ space) rest h = h

pub ready_one : (space text : List ℕ) (kind : TokenKind) (words : List Word) (more : List ℕ) → IsSpace space → IsToken kind text → AreReady words more → AreReady (word space kind text ∷ words) more
ready_one space text kind words more is_space is_token rest = record {
  tokens = (record { white = is_space.0; is_token = is_token }, rest.tokens);
  white = begins_on space (text ++ written words more) is_space.1;
  spaced = (rest.white, rest.spaced);
}

pub ready_end : (more : List ℕ) → IsSpace more → AreReady [] more
ready_end more space = record { tokens = tt; white = space.1; spaced = space.0 }

-- ---- properties

-- what is asked of a property, with flags that a file keeps
abbrev pub IsListed : List (List ℕ) → ℕ × Prop → Type 0
IsListed urids row = IsWritable urids row × (are_flags row.1.flags ≡ true)

iri_token : (iri : List ℕ) → IsSelf iri → IsToken Iri (angle iri)
iri_token iri is = iris_are_tokens iri is.utf8 (self_excludes iri is)

text_token : (text : List ℕ) → IsPlain text → IsToken String (quote text)
text_token text is = strings_are_tokens text is.utf8 is.plain

pub flags_are : (P : ℕ → Type 0) → P 3 → P 7 → (flags : ℕ) → are_flags flags ≡ true → P flags
flags_are P three seven flags h = by (flags == 3) refl (flags == 7) refl h
  where
    by : (a : Bool) → (flags == 3) ≡ a → (b : Bool) → (flags == 7) ≡ b → a || b ≡ true → P flags
    by true e b f h = subst P (sym (eqb-true flags 3 e)) three
    by false e true f h = subst P (sym (eqb-true flags 7 f)) seven
    by false e false f h = cc

flags_token : (flags : ℕ) → are_flags flags ≡ true → IsToken Integer (decimal flags)
unfolding digits
flags_token flags h = flags_are (λ flags. IsToken Integer (decimal flags)) three seven flags h

pub property_ready : (urids : List (List ℕ)) (row : ℕ × Prop) (words : List Word) (more : List ℕ) → IsListed urids row → AreReady words more → AreReady (property_words urids row ++ words) more
property_ready urids row words more is rest =
    ready_one (codes "\n\t\t") (angle (row_uri urids row)) Iri _ more indented_twice (iri_token (row_uri urids row) (self_of urids row.0 is.0.key))
    (ready_one (codes " ") (codes "[") OpenSquare _ more blank opening_token
    (ready_one (codes " ") (codes "fx:type") PrefixedName _ more blank fx_type
    (ready_one (codes " ") (angle (kind_uri urids row)) Iri _ more blank (iri_token (kind_uri urids row) (self_of urids row.1.kind is.0.kind))
    (ready_one (codes " ") (codes ";") Semicolon _ more blank semicolon_token
    (ready_one (codes " ") (codes "fx:flags") PrefixedName _ more blank fx_flags
    (ready_one (codes " ") (decimal row.1.flags) Integer _ more blank (flags_token row.1.flags is.1)
    (ready_one (codes " ") (codes ";") Semicolon _ more blank semicolon_token
    (ready_one (codes " ") (codes "fx:bytes") PrefixedName _ more blank fx_bytes
    (ready_one (codes " ") (quote (encode_of standard row.1.bytes)) String _ more blank (text_token (encode_of standard row.1.bytes) (encoded_plain row.1.bytes))
    (ready_one (codes " ") (codes "]") CloseSquare words more blank closing_token rest))))))))))

more_ready : (urids : List (List ℕ)) (rows : List (ℕ × Prop)) (words : List Word) (more : List ℕ) → AllByRecursion (IsListed urids) rows → AreReady words more → AreReady (more_words urids rows ++ words) more
more_ready urids [] words more is rest = rest
more_ready urids (row ∷ rows) words more is rest =
    subst (λ (ws : List Word). AreReady (semicolon ∷ (property_words urids row ++ ws)) more) refl
    (ready_one (codes " ") (codes ";") Semicolon _ more blank semicolon_token
    (property_ready urids row (more_words urids rows ++ words) more is.0 (more_ready urids rows words more is.1 rest)))

properties_ready : (urids : List (List ℕ)) (rows : List (ℕ × Prop)) (words : List Word) (more : List ℕ) → AllByRecursion (IsListed urids) rows → AreReady words more → AreReady (properties_words urids rows ++ words) more
properties_ready urids [] words more is rest = rest
properties_ready urids (row ∷ rows) words more is rest = property_ready urids row (more_words urids rows ++ words) more is.0 (more_ready urids rows words more is.1 rest)

-- ---- states

saved_ready : (urids : List (List ℕ)) (number : ℕ) (saved : Saved) (words : List Word) (more : List ℕ) → number < 2 ^ 64 → IsPlain saved.name → IsSelf saved.uri → AllByRecursion (IsListed urids) saved.props
    → AreReady words more → AreReady (saved_words urids number saved ++ words) more
saved_ready urids number saved words more low plain is rows rest =
    subst (λ (ws : List Word). AreReady (head_words number saved ++ ws) more) (sym (append_assoc (properties_words urids (in_file urids saved.props)) foot_words words))
    (ready_one (codes "\n\n") (angle (subject_text number)) Iri _ more empty_line (iris_are_tokens (subject_text number) (subject_utf8 number low) (subject_plain number low))
    (ready_one (codes " ") (codes "a") A _ more blank is_a_token
    (ready_one (codes " ") (codes "fx:Saved") PrefixedName _ more blank fx_saved
    (ready_one (codes " ") (codes ";") Semicolon _ more blank semicolon_token
    (ready_one (codes "\n\t") (codes "fx:name") PrefixedName _ more indented fx_name
    (ready_one (codes " ") (quote saved.name) String _ more blank (text_token saved.name plain)
    (ready_one (codes " ") (codes ";") Semicolon _ more blank semicolon_token
    (ready_one (codes "\n\t") (codes "fx:plugin") PrefixedName _ more indented fx_plugin
    (ready_one (codes " ") (angle saved.uri) Iri _ more blank (iri_token saved.uri is)
    (ready_one (codes " ") (codes ";") Semicolon _ more blank semicolon_token
    (ready_one (codes "\n\t") (codes "state:state") PrefixedName _ more indented state_state
    (ready_one (codes " ") (codes "[") OpenSquare _ more blank opening_token
    (properties_ready urids (in_file urids saved.props) (foot_words ++ words) more (all_in_file (IsListed urids) urids saved.props rows)
    (ready_one (codes "\n\t") (codes "]") CloseSquare _ more indented closing_token (ready_one (codes " ") (codes ".") Dot words more blank dot rest)))))))))))))))

-- the flags of what may be on a shelf
listed : (urids : List (List ℕ)) (rows : List (ℕ × Prop)) → AllByRecursion (IsWritable urids) rows → AllPass (is_storable (length urids)) rows → AllByRecursion (IsListed urids) rows
listed urids [] all lawful = tt
listed urids (row ∷ rows) all lawful = (
  (all.0, second (is_mapped (length urids) row.0 && is_mapped (length urids) row.1.kind) (are_flags row.1.flags) (All-head (λ row. is_storable (length urids) row ≡ true) row rows lawful)),
  listed urids rows all.1 (All-tail (λ row. is_storable (length urids) row ≡ true) row rows lawful),
)
  where
    second : (a b : Bool) → a && b ≡ true → b ≡ true
    second true b h = h
    second false b h = cc

pub listed_rows : (urids : List (List ℕ)) (saved : Saved) → IsSaved urids saved → AllByRecursion (IsListed urids) saved.props
listed_rows urids saved is = listed urids saved.props is.rows is.storable.lawful

states_ready : (urids : List (List ℕ)) (number : ℕ) (saves : List Saved) → number + length saves < 2 ^ 64 → AllByRecursion (IsSaved urids) saves → AreReady (states_words urids number saves) (codes "\n")
states_ready urids number [] low all = ready_end (codes "\n") next_line
states_ready urids number (saved ∷ saves) low all =
    saved_ready urids number saved (states_words urids (number + 1) saves) (codes "\n") (omega (arith, low)) all.0.name all.0.uri (listed_rows urids saved all.0)
    (states_ready urids (number + 1) saves (omega (arith, low)) all.1)

-- ---- the file

pub record IsWhole (words : List Word) (more : List ℕ) : Type 0 where
  pub tokens : AllByRecursion IsWord words
  pub spaced : AreSpaced words more

pub file_ready : (urids : List (List ℕ)) (saves : List Saved) → length saves < 2 ^ 64 → AllByRecursion (IsSaved urids) saves → IsWhole (file_words urids saves) (codes "\n")
file_ready urids saves low all =
    let rest = ready_one (codes " ") (codes "state:") Namespace _ (codes "\n") blank state_prefix
    (ready_one (codes " ") (angle state_namespace) Iri _ (codes "\n") blank (iri_token state_namespace state_self)
    (ready_one (codes " ") (codes ".") Dot _ (codes "\n") blank dot
    (ready_one (codes "\n") (codes "@prefix") LanguageTag _ (codes "\n") next_line prefix_word
    (ready_one (codes " ") (codes "fx:") Namespace _ (codes "\n") blank fx_prefix
    (ready_one (codes " ") (angle fx_namespace) Iri _ (codes "\n") blank (iri_token fx_namespace fx_self)
    (ready_one (codes " ") (codes ".") Dot (states_words urids 0 saves) (codes "\n") blank dot (states_ready urids 0 saves (omega (arith, low)) all))))))) in
    record { tokens = (record { white = refl; is_token = prefix_word }, rest.tokens); spaced = (rest.white, rest.spaced) }
