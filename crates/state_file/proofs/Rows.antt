-- Rows of a subject, cut down to those of a predicate, are the rows of both; and rows without a pattern are all rows.
use Rattle.std.proofs.Common.{◌≡◌, Bool, true, false, cond, List, [], ◌∷◌, map, filter, None, Some, refl, ap, ◌∙◌}
use Rattle.std.specs.Prelude.{◌&&◌}
use Rattle.triple_store.specs.declared.term.Term.{Term}
use Rattle.triple_store.specs.declared.term.Term.TheVariants.{Iri}
use Rattle.triple_store.specs.declared.term.Triple.{Triple}
use Rattle.triple_store.specs.Triples.{same_term, agrees}
use Rattle.vocabulary.specs.Words.{iri_of}
use Rattle.vocabulary.specs.declared.word.Word.{Word}
use Rattle.state_file.specs.declared.objects.Kind.{Kind}
use Rattle.state_file.specs.Objects.{names, is_of_kind, objects_of}
use Rattle.state_file.specs.States.{states_in}

-- one row, which agrees with the subject and names the predicate or not
keeps : (a b : Bool) (row : Triple) (more less : List Triple) (test : Triple → Bool) → test row ≡ b → filter test more ≡ less → filter test (cond (a && (true && true)) (row ∷ more) more) ≡ cond (a && (b && true)) (row ∷ less) less
keeps false b row more less test h e = e
keeps true true row more less test h e = ap (λ t. cond t (row ∷ filter test more) (filter test more)) h ∙ ap (λ rest. row ∷ rest) e
keeps true false row more less test h e = ap (λ t. cond t (row ∷ filter test more) (filter test more)) h ∙ e

filter-agrees : (rows : List Triple) (subject : Term) (predicate : Word) → filter (λ (row : Triple). names predicate row.p) (filter (agrees (Some subject) None None) rows) ≡ filter (agrees (Some subject) (Some (Iri (iri_of predicate))) None) rows
filter-agrees [] subject predicate = refl
filter-agrees (row ∷ rows) subject predicate =
    keeps (same_term subject row.s) (names predicate row.p) row (filter (agrees (Some subject) None None) rows) _ (λ (t : Triple). names predicate t.p) refl (filter-agrees rows subject predicate)

pub objects-found : (rows found : List Triple) (subject : Term) (predicate : Word) (kind : Kind) → found ≡ filter (agrees (Some subject) None None) rows
    → filter (is_of_kind kind) (map (λ (row : Triple). row.o) (filter (λ (row : Triple). names predicate row.p) found)) ≡ filter (is_of_kind kind) (objects_of rows subject predicate)
unfolding objects_of
objects-found rows found subject predicate kind e =
    ap (λ kept. filter (is_of_kind kind) (map (λ (row : Triple). row.o) (filter (λ (row : Triple). names predicate row.p) kept))) e
    ∙ ap (λ kept. filter (is_of_kind kind) (map (λ (row : Triple). row.o) kept)) (filter-agrees rows subject predicate)

every : (rows : List Triple) → filter (agrees None None None) rows ≡ rows
every [] = refl
every (row ∷ rows) = ap (λ rest. row ∷ rest) (every rows)

pub states-found : (rows found : List Triple) → found ≡ filter (agrees None None None) rows → states_in found ≡ states_in rows
states-found rows found e = ap states_in (e ∙ every rows)
