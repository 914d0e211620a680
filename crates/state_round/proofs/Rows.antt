-- The triples that a state file means, and what they say of each subject.
use Rattle.std.proofs.Common.{◌≡◌, ◌⊎◌, inl, inr, ℕ, suc, ◌+◌, ◌<◌, ◌≤◌, Bool, true, false, cond, ◌&&◌, ◌||◌, List, [], ◌∷◌, ◌++◌, filter, None, Some, refl, ap, ◌∙◌, arith, append-nil, ne_eqb}
use Rattle.std.specs.Prelude.{decimal}
use Rattle.std.proofs.lemmas.List.Elements.{filter-append}
use Rattle.std.specs.List.{list_any}
use Rattle.base64.specs.Engines.{standard}
use Rattle.base64.specs.GeneralPurpose.{encode_of}
use Rattle.state_file.specs.declared.saved.Saved.{Saved}
use Rattle.state_store.specs.declared.prop.Prop.{Prop}
use Rattle.triple_store.proofs.SameTerm.{same_term-itself}
use Rattle.triple_store.specs.Triples.{same_term, agrees}
use Rattle.triple_store.specs.declared.term.Term.{Term}
use Rattle.triple_store.specs.declared.term.Term.TheVariants.{Iri, Blank, Literal}
use Rattle.triple_store.specs.declared.term.Triple.{Triple}
use Rattle.turtle_document.specs.Meaning.{is_row}
use Rattle.vocabulary.specs.Words.{iri_of}
use Rattle.vocabulary.specs.declared.word.Word.{Word}
use Rattle.vocabulary.specs.declared.word.Word.TheVariants.{RdfType, StateState, FxSaved, FxName, FxPlugin, FxType, FxFlags, FxBytes, XsdInteger, XsdString}
use Rattle.state_round.proofs.Words.{row_uri, kind_uri, in_file}
use Rattle.state_round.proofs.Values.{subject_iri}

abbrev pub triple : Term → Term → Term → Triple
triple s p o = record { s = s; p = p; o = o }

abbrev pub term_of : Word → Term
term_of word = Iri (iri_of word)

-- ---- the triples

-- of a value, whose node has the number b
abbrev pub type_row : ℕ → List (List ℕ) → ℕ × Prop → Triple
type_row b urids row = triple (Blank b) (term_of FxType) (Iri (kind_uri urids row))

abbrev pub flags_row : ℕ → ℕ × Prop → Triple
flags_row b row = triple (Blank b) (term_of FxFlags) (Literal (decimal row.1.flags) (iri_of XsdInteger) [])

abbrev pub bytes_row : ℕ → ℕ × Prop → Triple
bytes_row b row = triple (Blank b) (term_of FxBytes) (Literal (encode_of standard row.1.bytes) (iri_of XsdString) [])

abbrev pub value_rows : ℕ → List (List ℕ) → ℕ × Prop → List Triple
value_rows b urids row = type_row b urids row ∷ flags_row b row ∷ bytes_row b row ∷ []

abbrev pub key_row : ℕ → ℕ → List (List ℕ) → ℕ × Prop → Triple
key_row node b urids row = triple (Blank node) (Iri (row_uri urids row)) (Blank b)

abbrev pub property_rows : ℕ → ℕ → List (List ℕ) → ℕ × Prop → List Triple
property_rows node b urids row = value_rows b urids row ++ key_row node b urids row ∷ []

abbrev pub properties_rows : ℕ → ℕ → List (List ℕ) → List (ℕ × Prop) → List Triple
properties_rows node b urids [] = []
properties_rows node b urids (row ∷ rows) = property_rows node b urids row ++ properties_rows node (suc b) urids rows

-- the next number after those of values
abbrev pub blanks_after : ℕ → List (ℕ × Prop) → ℕ
blanks_after b [] = b
blanks_after b (row ∷ rows) = blanks_after (suc b) rows

pub rises : (b : ℕ) (rows : List (ℕ × Prop)) → b ≤ blanks_after b rows
rises b [] = omega arith
rises b (row ∷ rows) = let more = rises (suc b) rows in omega (arith, more)

abbrev pub head_rows : Term → Saved → List Triple
head_rows subject saved =
    triple subject (term_of RdfType) (term_of FxSaved) ∷ triple subject (term_of FxName) (Literal saved.name (iri_of XsdString) []) ∷ triple subject (term_of FxPlugin) (Iri saved.uri) ∷ []

abbrev pub node_row : Term → ℕ → Triple
node_row subject node = triple subject (term_of StateState) (Blank node)

abbrev pub saved_rows : Term → ℕ → List (List ℕ) → Saved → List Triple
saved_rows subject b urids saved = head_rows subject saved ++ (properties_rows b (suc b) urids (in_file urids saved.props) ++ node_row subject b ∷ [])

abbrev pub subject_of : List ℕ → ℕ → Term
subject_of base number = Iri (subject_iri base number)

abbrev pub states_rows : List ℕ → ℕ → ℕ → List (List ℕ) → List Saved → List Triple
states_rows base number b urids [] = []
states_rows base number b urids (saved ∷ saves) =
    saved_rows (subject_of base number) b urids saved ++ states_rows base (number + 1) (blanks_after (suc b) (in_file urids saved.props)) urids saves

-- ---- the rows of one subject

abbrev pub own : Term → List Triple → List Triple
own s rows = filter (agrees (Some s) None None) rows

pub own-append : (s : Term) (a b : List Triple) → own s (a ++ b) ≡ own s a ++ own s b
own-append s a b = filter-append (agrees (Some s) None None) a b

-- a row of the subject, and one of another
picked : (b : Bool) (x y : List Triple) → b ≡ true → cond (b && (true && true)) x y ≡ x
picked true x y e = refl
picked false x y e = cc

passed : (b : Bool) (x y : List Triple) → b ≡ false → cond (b && (true && true)) x y ≡ y
passed true x y e = cc
passed false x y e = refl

pub own-here : (s p o : Term) (rows : List Triple) → own s (triple s p o ∷ rows) ≡ triple s p o ∷ own s rows
own-here s p o rows = picked (same_term s s) _ _ (same_term-itself s)

pub own-other : (s t p o : Term) (rows : List Triple) → same_term s t ≡ false → own s (triple t p o ∷ rows) ≡ own s rows
own-other s t p o rows e = passed (same_term s t) _ _ e

-- ---- whether a row is there

abbrev pub says : Term → Term → Triple → Bool
says p o t = same_term p t.p && same_term o t.o

any_own : (rows : List Triple) (s p o : Term) → is_row s p o rows ≡ list_any (says p o) (own s rows)
any_own [] s p o = refl
any_own (t ∷ rows) s p o = by (same_term s t.s) (any_own rows s p o)
  where
    by : (b : Bool) → is_row s p o rows ≡ list_any (says p o) (own s rows)
        → (b && says p o t) || is_row s p o rows ≡ list_any (says p o) (cond (b && (true && true)) (t ∷ own s rows) (own s rows))
    by true h = ap (λ v. says p o t || v) h
    by false h = h

pub no_row : (rows known : List Triple) (s p o : Term) → own s rows ≡ known → list_any (says p o) known ≡ false → is_row s p o rows ≡ false
no_row rows known s p o e none = any_own rows s p o ∙ ap (list_any (says p o)) e ∙ none

-- ---- subjects of other numbers

pub blank_other : (m n : ℕ) → (m ≡ n → ⊥) → same_term (Blank m) (Blank n) ≡ false
blank_other m n apart = ne_eqb m n apart

-- the first row is the subject's, or another's
pub own-first : (s : Term) (t : Triple) (rows : List Triple) → t.s ≡ s → own s (t ∷ rows) ≡ t ∷ own s rows
own-first s t rows e = picked (same_term s t.s) _ _ (ap (same_term s) e ∙ same_term-itself s)

pub own-next : (s : Term) (t : Triple) (rows : List Triple) → same_term s t.s ≡ false → own s (t ∷ rows) ≡ own s rows
own-next s t rows e = passed (same_term s t.s) _ _ e

-- of the rows of a value
pub own_value : (b : ℕ) (urids : List (List ℕ)) (row : ℕ × Prop) → own (Blank b) (value_rows b urids row) ≡ value_rows b urids row
own_value b urids row =
    own-first (Blank b) (type_row b urids row) (flags_row b row ∷ bytes_row b row ∷ []) refl
    ∙ ap (λ l. type_row b urids row ∷ l)
    (own-first (Blank b) (flags_row b row) (bytes_row b row ∷ []) refl ∙ ap (λ l. flags_row b row ∷ l) (own-first (Blank b) (bytes_row b row) [] refl))

pub value_other : (s : Term) (b : ℕ) (urids : List (List ℕ)) (row : ℕ × Prop) → same_term s (Blank b) ≡ false → own s (value_rows b urids row) ≡ []
value_other s b urids row e =
    own-next s (type_row b urids row) (flags_row b row ∷ bytes_row b row ∷ []) e ∙ own-next s (flags_row b row) (bytes_row b row ∷ []) e ∙ own-next s (bytes_row b row) [] e

-- one row more
pub own_push : (rows known : List Triple) (s : Term) (t : Triple) → own s rows ≡ known → t.s ≡ s → own s (rows ++ t ∷ []) ≡ known ++ t ∷ []
own_push rows known s t e is = own-append s rows (t ∷ []) ∙ ap (λ l. l ++ own s (t ∷ [])) e ∙ ap (λ l. known ++ l) (own-first s t [] is)

pub own_past : (rows known : List Triple) (s : Term) (t : Triple) → own s rows ≡ known → same_term s t.s ≡ false → own s (rows ++ t ∷ []) ≡ known
own_past rows known s t e other = own-append s rows (t ∷ []) ∙ ap (λ l. l ++ own s (t ∷ [])) e ∙ ap (λ l. known ++ l) (own-next s t [] other) ∙ append-nil known

-- two lists that have rows of their own
pub own_both : (a b c d : List Triple) (s : Term) → own s a ≡ c → own s b ≡ d → own s (a ++ b) ≡ c ++ d
own_both a b c d s e f = own-append s a b ∙ ap (λ l. l ++ own s b) e ∙ ap (λ l. c ++ l) f

-- ---- of the rows of properties

-- an IRI has none
pub iri_properties : (iri : List ℕ) (node b : ℕ) (urids : List (List ℕ)) (rows : List (ℕ × Prop)) → own (Iri iri) (properties_rows node b urids rows) ≡ []
iri_properties iri node b urids [] = refl
iri_properties iri node b urids (row ∷ rows) = iri_properties iri node (suc b) urids rows

-- a number that lies beside those of the node and of the values has none
pub blank_properties : (m node b : ℕ) (urids : List (List ℕ)) (rows : List (ℕ × Prop)) → (m ≡ node → ⊥) → (m < b) ⊎ (blanks_after b rows ≤ m) → own (Blank m) (properties_rows node b urids rows) ≡ []
blank_properties m node b urids [] apart beside = refl
blank_properties m node b urids (row ∷ rows) apart beside =
    own_both (property_rows node b urids row) (properties_rows node (suc b) urids rows) [] [] (Blank m)
    (own_both (value_rows b urids row) (key_row node b urids row ∷ []) [] [] (Blank m) (value_other (Blank m) b urids row (blank_other m b (outside rows beside)))
    (own-next (Blank m) (key_row node b urids row) [] (blank_other m node apart)))
    (blank_properties m node (suc b) urids rows apart (further beside))
  where
    outside : (rows : List (ℕ × Prop)) → (m < b) ⊎ (blanks_after (suc b) rows ≤ m) → m ≡ b → ⊥
    outside rows (inl less) e = omega (arith, less, e)
    outside rows (inr most) e = let more = rises (suc b) rows in omega (arith, most, e, more)

    further : (m < b) ⊎ (blanks_after (suc b) rows ≤ m) → (m < suc b) ⊎ (blanks_after (suc b) rows ≤ m)
    further (inl less) = inl (omega (arith, less))
    further (inr most) = inr most
