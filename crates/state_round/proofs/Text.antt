-- The text of a state file is its words.
use Rattle.std.proofs.Common.{◌≡◌, ℕ, ◌+◌, List, [], ◌∷◌, ◌++◌, map, codes, Some, refl, sym, ap, ◌∙◌, append_assoc, append-nil}
use Rattle.std.specs.Prelude.{decimal}
use Rattle.std.specs.List.{AllByRecursion}
use Rattle.state_file.specs.Order.{in_order}
use Rattle.state_file.specs.StateText.{value_text, held_text, line_end, properties_text, head_text, saved_text, states_text, state_text}
use Rattle.state_file.specs.declared.saved.Saved.{Saved}
use Rattle.state_store.specs.Properties.{held}
use Rattle.state_store.specs.declared.prop.Prop.{Prop}
use Rattle.turtle_words.specs.Words.{Word, written}
use Rattle.state_round.proofs.Order.{Rise, all_in_file, keys_in_order, held_each}
use Rattle.state_round.proofs.Words.{row_uri, semicolon, property_words, properties_words, head_words, foot_words, in_file, saved_words, states_words, first_words, file_words}

pub written-append : (a b : List Word) (more : List ℕ) → written (a ++ b) more ≡ written a (written b more)
written-append [] b more = refl
written-append (word ∷ a) b more = ap (λ l. word.space ++ (word.text ++ l)) (written-append a b more)

-- ---- one property

-- what the text has of a property, before what ends its line
row_text : List (List ℕ) → ℕ × Prop → List ℕ
row_text urids row = codes "\t\t<" ++ (row_uri urids row ++ (codes "> " ++ value_text urids row.1))

row_written : (urids : List (List ℕ)) (row : ℕ × Prop) (rest : List ℕ) → written (property_words urids row) rest ≡ codes "\n" ++ (row_text urids row ++ rest)
unfolding row_text
row_written urids row rest = simp append_assoc refl

-- ---- all properties

-- what ends the line of a property, by those that follow
abbrev end_of : List (ℕ × Prop) → List ℕ
end_of [] = codes "\n"
end_of (row ∷ rows) = codes " ;\n"

abbrev pairs_text : List (List ℕ) → List (ℕ × Prop) → List ℕ
pairs_text urids [] = []
pairs_text urids (row ∷ rows) = (row_text urids row ++ end_of rows) ++ pairs_text urids rows

pairs_written : (urids : List (List ℕ)) (rows : List (ℕ × Prop)) (rest : List ℕ) → written (properties_words urids rows) (codes "\n" ++ rest) ≡ codes "\n" ++ (pairs_text urids rows ++ rest)
pairs_written urids [] rest = refl
pairs_written urids (row ∷ []) rest =
    row_written urids row (codes "\n" ++ rest)
    ∙ ap (λ l. codes "\n" ++ l) (sym (ap (λ l. l ++ rest) (append-nil (row_text urids row ++ codes "\n")) ∙ append_assoc (row_text urids row) (codes "\n") rest))
pairs_written urids (row ∷ second ∷ rows) rest =
    written-append (property_words urids row) (semicolon ∷ properties_words urids (second ∷ rows)) (codes "\n" ++ rest)
    ∙ row_written urids row (written (semicolon ∷ properties_words urids (second ∷ rows)) (codes "\n" ++ rest))
    ∙ ap (λ l. codes "\n" ++ (row_text urids row ++ (codes " ;" ++ l))) (pairs_written urids (second ∷ rows) rest)
    ∙ ap (λ l. codes "\n" ++ l)
    (sym (append_assoc (row_text urids row ++ codes " ;\n") (pairs_text urids (second ∷ rows)) rest ∙ append_assoc (row_text urids row) (codes " ;\n") (pairs_text urids (second ∷ rows) ++ rest)))

same_end : (rows : List (ℕ × Prop)) → line_end (map (λ row. row.0) rows) ≡ end_of rows
same_end [] = refl
same_end (row ∷ rows) = refl

pairs_are : (urids : List (List ℕ)) (props rows : List (ℕ × Prop)) → AllByRecursion (λ (row : ℕ × Prop). held props row.0 ≡ Some row.1) rows → properties_text urids props (map (λ row. row.0) rows) ≡ pairs_text urids rows
unfolding row_text
pairs_are urids props [] all = refl
pairs_are urids props (row ∷ rows) all =
    ap (λ o. ((codes "\t\t<" ++ (row_uri urids row ++ (codes "> " ++ held_text urids o))) ++ line_end (map (λ (row : ℕ × Prop). row.0) rows)) ++ properties_text urids props (map (λ (row : ℕ × Prop). row.0) rows)) all.0
    ∙ ap (λ l. ((codes "\t\t<" ++ (row_uri urids row ++ (codes "> " ++ value_text urids row.1))) ++ l) ++ properties_text urids props (map (λ (row : ℕ × Prop). row.0) rows)) (same_end rows)
    ∙ ap (λ l. ((codes "\t\t<" ++ (row_uri urids row ++ (codes "> " ++ value_text urids row.1))) ++ end_of rows) ++ l) (pairs_are urids props rows all.1)

-- ---- states

head_written : (number : ℕ) (saved : Saved) (rest : List ℕ) → written (head_words number saved) (codes "\n" ++ rest) ≡ codes "\n" ++ (head_text number saved ++ rest)
head_written number saved rest = simp append_assoc (ap (λ l. codes "\n\n<#save" ++ l) (append_assoc (decimal number) (62 ∷ []) _))

saved_written : (urids : List (List ℕ)) (number : ℕ) (saved : Saved) (rest : List ℕ) → Rise saved.props → written (saved_words urids number saved) (codes "\n" ++ rest) ≡ codes "\n" ++ (saved_text urids number saved ++ rest)
saved_written urids number saved rest rise =
    let found : AllByRecursion (λ (row : ℕ × Prop). held saved.props row.0 ≡ Some row.1) (in_file urids saved.props) =
    all_in_file (λ (row : ℕ × Prop). held saved.props row.0 ≡ Some row.1) urids saved.props (held_each saved.props rise) in
    let own : properties_text urids saved.props (in_order urids (map (λ row. row.0) saved.props)) ≡ pairs_text urids (in_file urids saved.props) =
    ap (properties_text urids saved.props) (keys_in_order urids saved.props) ∙ pairs_are urids saved.props (in_file urids saved.props) found in
    written-append (head_words number saved) (properties_words urids (in_file urids saved.props) ++ foot_words) (codes "\n" ++ rest)
    ∙ ap (written (head_words number saved)) (written-append (properties_words urids (in_file urids saved.props)) foot_words (codes "\n" ++ rest) ∙ pairs_written urids (in_file urids saved.props) (codes "\t] .\n" ++ rest))
    ∙ head_written number saved (pairs_text urids (in_file urids saved.props) ++ (codes "\t] .\n" ++ rest))
    ∙ ap (λ l. codes "\n" ++ (head_text number saved ++ (l ++ (codes "\t] .\n" ++ rest)))) (sym own)
    ∙ ap (λ l. codes "\n" ++ l)
    (sym (append_assoc (head_text number saved) (properties_text urids saved.props (in_order urids (map (λ row. row.0) saved.props)) ++ codes "\t] .\n") rest
    ∙ ap (λ l. head_text number saved ++ l) (append_assoc (properties_text urids saved.props (in_order urids (map (λ row. row.0) saved.props))) (codes "\t] .\n") rest)))

states_written : (urids : List (List ℕ)) (number : ℕ) (saves : List Saved) → AllByRecursion (λ (saved : Saved). Rise saved.props) saves → written (states_words urids number saves) (codes "\n") ≡ codes "\n" ++ states_text urids number saves
states_written urids number [] all = refl
states_written urids number (saved ∷ saves) all =
    written-append (saved_words urids number saved) (states_words urids (number + 1) saves) (codes "\n")
    ∙ ap (written (saved_words urids number saved)) (states_written urids (number + 1) saves all.1)
    ∙ saved_written urids number saved (states_text urids (number + 1) saves) all.0

pub file_written : (urids : List (List ℕ)) (saves : List Saved) → AllByRecursion (λ (saved : Saved). Rise saved.props) saves → written (file_words urids saves) (codes "\n") ≡ state_text urids saves
file_written urids saves all = ap (written first_words) (states_written urids 0 saves all)
