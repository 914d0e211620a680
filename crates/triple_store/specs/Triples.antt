-- What a graph's rows say: which agree with a pattern, how many blank numbers they use, and what adding a triple leaves.
use Rattle.std.specs.Prelude.{◌≡◌, ◌≢◌, ℕ, ◌+◌, max, nat_eq, Bool, true, false, ◌&&◌, List, [], ◌∷◌, ◌++◌, fold, Option, None, Some, Contains, AllPairs}
use Rattle.std.specs.Str.{bytes_eq}
use Rattle.triple_store.specs.declared.term.Term.{Term}
use Rattle.triple_store.specs.declared.term.Term.TheVariants.{Iri, Blank, Literal}
use Rattle.triple_store.specs.declared.term.Triple.{Triple}

-- term equality of RDF 1.1, sections 3.2 to 3.4: the same kind, and the same characters
abbrev pub same_term : Term → Term → Bool
same_term (Iri a) (Iri b) = bytes_eq a b
same_term (Blank m) (Blank n) = nat_eq m n
same_term (Literal a d l) (Literal b e m) = bytes_eq a b && (bytes_eq d e && bytes_eq l m)
same_term _ _ = false

-- a term is the wanted one, where one is wanted
abbrev pub allows : Option Term → Term → Bool
allows None _ = true
allows (Some wanted) term = same_term wanted term

-- a triple agrees with a pattern of subject, predicate and object
abbrev pub agrees : Option Term → Option Term → Option Term → Triple → Bool
agrees s p o t = allows s t.s && (allows p t.p && allows o t.o)

-- one above the number of a blank node; other terms have none
abbrev pub blanks_of_term : Term → ℕ
blanks_of_term (Blank n) = n + 1
blanks_of_term _ = 0

-- one above the greatest blank number of a triple
abbrev pub blanks_of_triple : Triple → ℕ
blanks_of_triple t = max (blanks_of_term t.s) (max (blanks_of_term t.p) (blanks_of_term t.o))

-- one above the greatest blank number of the rows
abbrev pub blanks_of : List Triple → ℕ
blanks_of rows = fold (λ most t. max most (blanks_of_triple t)) 0 rows

-- no two rows are equal
abbrev pub AreDistinct : List Triple → Type 0
AreDistinct rows = AllPairs (λ s t. s ≢ t) rows

-- a triple was added at the end where it is new, and else nothing changed
abbrev pub Adds : List Triple → Triple → Bool → List Triple → Type 0
Adds old t true new = (¬ Contains old t) × (new ≡ old ++ t ∷ [])
Adds old t false new = Contains old t × (new ≡ old)
