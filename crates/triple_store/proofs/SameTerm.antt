-- `same_term` and `==` of triples are equality.
use Rattle.std.proofs.Common.{◌≡◌, ℕ, Bool, true, false, not, cond, ◌&&◌, ◌||◌, List, [], ◌∷◌, ◌++◌, Contains, length, slice_index_or, zero, suc, ◌<◌, refl, ap, sym, subst, ◌∙◌, true≢false, arith}
use Rattle.std.specs.List.{list_any}
use Rattle.std.specs.Str.{bytes_eq}
use Rattle.std.proofs.lemmas.Bool.{eqb-true, eq-eqb}
use Rattle.std.proofs.lemmas.Map.Views.{Contains-from_any}
use Rattle.std.proofs.lemmas.Slice.Eq.{bytes_eq-Decides}
use Rattle.indexmap.specs.IndexSet.{insert_key}
use Rattle.triple_store.specs.contracts.term.TermClone.TheImpl.{by_variants as copies}
use Rattle.triple_store.specs.contracts.term.TermPartialEq.TheImpl.{eq-value as term_eq}
use Rattle.triple_store.specs.contracts.term.TriplePartialEq.TheImpl.{eq-value as triple_eq}
use Rattle.triple_store.specs.Triples.{same_term, Adds}
use Rattle.triple_store.specs.declared.term.Term.{Term}
use Rattle.triple_store.specs.declared.term.Term.TheVariants.{Iri, Blank, Literal}
use Rattle.triple_store.specs.declared.term.Triple.{Triple}

-- the parts of a test that holds
first_true : (a b : Bool) → (a && b) ≡ true → a ≡ true
first_true true b h = refl
first_true false b h = h

second_true : (a b : Bool) → (a && b) ≡ true → b ≡ true
second_true true b h = h
second_true false b h = absurd (true≢false (sym h))

both_true : (a b : Bool) → a ≡ true → b ≡ true → (a && b) ≡ true
both_true a b p q = ap (λ v. v && b) p ∙ q

pub same_term-true : (a b : Term) → same_term a b ≡ true → a ≡ b
same_term-true (Iri a) (Iri b) h = ap Iri ((bytes_eq-Decides a b).0 h)
same_term-true (Blank m) (Blank n) h = ap Blank (eqb-true m n h)
same_term-true (Literal a d l) (Literal b e m) h =
    let rest : (bytes_eq d e && bytes_eq l m) ≡ true = second_true (bytes_eq a b) (bytes_eq d e && bytes_eq l m) h in
    let same_a : a ≡ b = (bytes_eq-Decides a b).0 (first_true (bytes_eq a b) (bytes_eq d e && bytes_eq l m) h) in
    let same_d : d ≡ e = (bytes_eq-Decides d e).0 (first_true (bytes_eq d e) (bytes_eq l m) rest) in
    let same_l : l ≡ m = (bytes_eq-Decides l m).0 (second_true (bytes_eq d e) (bytes_eq l m) rest) in
    cc
same_term-true (Iri a) (Blank n) h = absurd (true≢false (sym h))
same_term-true (Iri a) (Literal b e m) h = absurd (true≢false (sym h))
same_term-true (Blank n) (Iri b) h = absurd (true≢false (sym h))
same_term-true (Blank n) (Literal b e m) h = absurd (true≢false (sym h))
same_term-true (Literal a d l) (Iri b) h = absurd (true≢false (sym h))
same_term-true (Literal a d l) (Blank n) h = absurd (true≢false (sym h))

own_bytes : (a : List ℕ) → bytes_eq a a ≡ true
own_bytes a = (bytes_eq-Decides a a).1 refl

pub same_term-itself : (a : Term) → same_term a a ≡ true
same_term-itself (Iri a) = own_bytes a
same_term-itself (Blank n) = eq-eqb n n refl
same_term-itself (Literal a d l) = both_true _ _ (own_bytes a) (both_true _ _ (own_bytes d) (own_bytes l))

-- it is symmetric
pub same_term-swapped : (a b : Term) → same_term a b ≡ same_term b a
same_term-swapped a b = by (same_term a b) (same_term b a) refl refl
  where
    by : (v w : Bool) → same_term a b ≡ v → same_term b a ≡ w → same_term a b ≡ same_term b a
    by true w p q = let e : a ≡ b = same_term-true a b p in p ∙ sym (subst (λ t. same_term t a ≡ true) e (same_term-itself a))
    by false true p q = let e : b ≡ a = same_term-true b a q in subst (λ t. same_term t b ≡ true) e (same_term-itself b) ∙ sym q
    by false false p q = p ∙ sym q

-- what `==` of two triples computes
abbrev pub same_triple : Triple → Triple → Bool
same_triple a b = same_term a.s b.s && (same_term a.p b.p && same_term a.o b.o)

pub same_triple-true : (a b : Triple) → same_triple a b ≡ true → a ≡ b
same_triple-true a b h =
    let rest : (same_term a.p b.p && same_term a.o b.o) ≡ true = second_true (same_term a.s b.s) (same_term a.p b.p && same_term a.o b.o) h in
    let same_s : a.s ≡ b.s = same_term-true a.s b.s (first_true (same_term a.s b.s) (same_term a.p b.p && same_term a.o b.o) h) in
    let same_p : a.p ≡ b.p = same_term-true a.p b.p (first_true (same_term a.p b.p) (same_term a.o b.o) rest) in
    let same_o : a.o ≡ b.o = same_term-true a.o b.o (second_true (same_term a.p b.p) (same_term a.o b.o) rest) in
    λ i. record { s = same_s i; p = same_p i; o = same_o i }

pub same_triple-itself : (a : Triple) → same_triple a a ≡ true
same_triple-itself a = both_true _ _ (same_term-itself a.s) (both_true _ _ (same_term-itself a.p) (same_term-itself a.o))

-- a copy of a term is the term
pub copy_of_term : (a b : Term) → copies a b → b ≡ a
copy_of_term (Iri a) (Iri b) h = ap Iri h
copy_of_term (Blank m) (Blank n) h = ap Blank h
copy_of_term (Literal a d l) (Literal b e m) h = λ i. Literal (h.0 i) (h.1.0 i) (h.1.1 i)
copy_of_term (Iri a) (Blank n) h = absurd h
copy_of_term (Iri a) (Literal b e m) h = absurd h
copy_of_term (Blank n) (Iri b) h = absurd h
copy_of_term (Blank n) (Literal b e m) h = absurd h
copy_of_term (Literal a d l) (Iri b) h = absurd h
copy_of_term (Literal a d l) (Blank n) h = absurd h

-- a copy of a triple is the triple
pub copy_of_triple : (a b : Triple) → copies a.s b.s → copies a.p b.p → copies a.o b.o → b ≡ a
copy_of_triple a b s p o =
    let same_s : b.s ≡ a.s = copy_of_term a.s b.s s in
    let same_p : b.p ≡ a.p = copy_of_term a.p b.p p in
    let same_o : b.o ≡ a.o = copy_of_term a.o b.o o in
    λ i. record { s = same_s i; p = same_p i; o = same_o i }

-- `==` of terms, and of triples, is these tests
eq_of_two : (a b : Term) → term_eq.it a b ≡ same_term a b
eq_of_two (Iri a) (Iri b) = refl
eq_of_two (Blank m) (Blank n) = refl
eq_of_two (Literal a d l) (Literal b e m) = refl
eq_of_two (Iri a) (Blank n) = refl
eq_of_two (Iri a) (Literal b e m) = refl
eq_of_two (Blank n) (Iri b) = refl
eq_of_two (Blank n) (Literal b e m) = refl
eq_of_two (Literal a d l) (Iri b) = refl
eq_of_two (Literal a d l) (Blank n) = refl

pub eq_of_terms : term_eq.it ≡ same_term
eq_of_terms = λ i a b. eq_of_two a b i

pub eq_of_triples : triple_eq.it ≡ same_triple
eq_of_triples = λ i a b. eq_of_two a.s b.s i && (eq_of_two a.p b.p i && eq_of_two a.o b.o i)

-- a triple that is at a place is found
found_at : (rows : List Triple) (t : Triple) (k : ℕ) → k < length rows → slice_index_or rows k t ≡ t → list_any (same_triple t) rows ≡ true
found_at [] t k h e = absurd (omega arith)
found_at (u ∷ rows) t zero h e = ap (λ v. same_triple t v || list_any (same_triple t) rows) e ∙ ap (λ b. b || list_any (same_triple t) rows) (same_triple-itself t)
found_at (u ∷ rows) t (suc k) h e = ap (λ b. same_triple t u || b) (found_at rows t k (omega arith) e) ∙ either (same_triple t u)
  where
    either : (b : Bool) → (b || true) ≡ true
    either true = refl
    either false = refl

contains_same : (rows : List Triple) (t : Triple) → (list_any (same_triple t) rows ≡ true → Contains rows t) × (Contains rows t → list_any (same_triple t) rows ≡ true)
contains_same rows t = (Contains-from_any same_triple-true t rows, λ h. found_at rows t h.0 h.1 h.2)

-- a look-up answers whether the triple is there
pub contains_is : (rows : List Triple) (t : Triple) → (list_any (triple_eq.it t) rows ≡ true → Contains rows t) × (Contains rows t → list_any (triple_eq.it t) rows ≡ true)
contains_is rows t =
    subst (λ (eq : Triple → Triple → Bool). (list_any (eq t) rows ≡ true → Contains rows t) × (Contains rows t → list_any (eq t) rows ≡ true)) (sym eq_of_triples) (contains_same rows t)

-- what an insert leaves
pub adds : (old new : List Triple) (t : Triple) (is_new : Bool) → is_new ≡ not (list_any (triple_eq.it t) old) → new ≡ insert_key triple_eq.it old t → Adds old t is_new new
adds old new t is_new e keys = by is_new (list_any (triple_eq.it t) old) e refl
  where
    by : (n b : Bool) → n ≡ not (list_any (triple_eq.it t) old) → list_any (triple_eq.it t) old ≡ b → Adds old t n new
    by true true p q = absurd (true≢false (p ∙ ap not q))
    by true false p q = ((λ h. true≢false (sym ((contains_is old t).1 h) ∙ q)), keys ∙ ap (λ b. cond b old (old ++ t ∷ [])) q)
    by false true p q = ((contains_is old t).0 q, keys ∙ ap (λ b. cond b old (old ++ t ∷ [])) q)
    by false false p q = absurd (true≢false (sym (p ∙ ap not q)))

-- a triple that is new stands at the end
pub added : (old new : List Triple) (t : Triple) (is_new : Bool) → Adds old t is_new new → (¬ Contains old t) → new ≡ old ++ t ∷ []
added old new t true h not_there = h.1
added old new t false h not_there = absurd (not_there h.0)

-- so does a copy of it
pub copy_added : (old new : List Triple) (t copy : Triple) (is_new : Bool) → Adds old copy is_new new → (¬ Contains old t) → copy ≡ t → new ≡ old ++ t ∷ []
copy_added old new t copy is_new h not_there same =
    added old new copy is_new h (λ there. not_there (subst (Contains old) same there)) ∙ ap (λ u. old ++ u ∷ []) same
