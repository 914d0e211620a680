-- The subjects of a class, looked up in a set.
use Rattle.std.proofs.Common.{◌≡◌, Bool, true, false, cond, ◌&&◌, ◌||◌, List, [], ◌∷◌, ◌++◌, map, filter, None, Some, Result, Ok, Err, OnOk, refl, ap, sym, subst, ◌∙◌}
use Rattle.std.specs.List.{list_any}
use Rattle.std.proofs.lemmas.List.Folds.{list_any-append}
use Rattle.indexmap.specs.IndexSet.{insert_key}
use Rattle.triple_store.specs.Triples.{same_term, agrees}
use Rattle.triple_store.specs.contracts.term.TermPartialEq.TheImpl.{eq-value as term_eq}
use Rattle.triple_store.specs.declared.term.Term.{Term}
use Rattle.triple_store.specs.declared.term.Term.TheVariants.{Iri}
use Rattle.triple_store.specs.declared.term.Triple.{Triple}
use Rattle.triple_store.proofs.SameTerm.{eq_of_terms, same_term-true}
use Rattle.vocabulary.specs.declared.word.Word.TheVariants.{RdfType, Lv2Plugin}
use Rattle.vocabulary.specs.Words.{iri_of}
use Rattle.plugin_decl.specs.Naming.{names}
use Rattle.plugin_decl.specs.Objects.{object, objects_of, has, is_a}
use Rattle.session_load.specs.Names.{subject}

-- one row, by what its three terms are
step : (a b c : Bool) (s : Term) (row : Triple) (left right : List Triple) → same_term s row.s ≡ a → names Lv2Plugin row.o ≡ c
    → list_any (same_term s) (map subject left) ≡ list_any (names Lv2Plugin) (map object right)
    → list_any (same_term s) (map subject (cond (true && (b && c)) (row ∷ left) left)) ≡ list_any (names Lv2Plugin) (map object (cond (a && (b && true)) (row ∷ right) right))
step true true true s row left right p q h =
    ap (λ v. v || list_any (same_term s) (map subject left)) p ∙ sym (ap (λ v. v || list_any (names Lv2Plugin) (map object right)) q)
step true true false s row left right p q h = h ∙ sym (ap (λ v. v || list_any (names Lv2Plugin) (map object right)) q)
step false true true s row left right p q h = ap (λ v. v || list_any (same_term s) (map subject left)) p ∙ h
step false true false s row left right p q h = h
step true false c s row left right p q h = h
step false false c s row left right p q h = h

classed : (rows : List Triple) (s : Term)
    → list_any (same_term s) (map subject (filter (agrees None (Some (Iri (iri_of RdfType))) (Some (Iri (iri_of Lv2Plugin)))) rows))
    ≡ list_any (names Lv2Plugin) (map object (filter (agrees (Some s) (Some (Iri (iri_of RdfType))) None) rows))
classed [] s = refl
classed (row ∷ rows) s =
    step (same_term s row.s) (same_term (Iri (iri_of RdfType)) row.p) (names Lv2Plugin row.o) s row _ _ refl refl (classed rows s)

-- the subjects of the rows with this predicate and this object are those of the class
pub plugins_among : (rows : List Triple) (type class : Term) → type ≡ Iri (iri_of RdfType) → class ≡ Iri (iri_of Lv2Plugin)
    → (s : Term) → list_any (same_term s) (map subject (filter (agrees None (Some type) (Some class)) rows)) ≡ is_a rows s Lv2Plugin
unfolding has objects_of
plugins_among rows type class t c s =
    (λ i. list_any (same_term s) (map subject (filter (agrees None (Some (t i)) (Some (c i))) rows))) ∙ classed rows s

-- what is found after an insert: the term, and what was found before
found : (q k : Term) (keys : List Term) (b : Bool) → list_any (same_term k) keys ≡ b
    → list_any (same_term q) (cond b keys (keys ++ k ∷ [])) ≡ (list_any (same_term q) keys || same_term q k)
found q k keys true e = by (same_term q k) refl
  where
    by : (b : Bool) → same_term q k ≡ b → list_any (same_term q) keys ≡ (list_any (same_term q) keys || b)
    by true p =
        let there : list_any (same_term q) keys ≡ true = subst (λ t. list_any (same_term t) keys ≡ true) (sym (same_term-true q k p)) e in
        there ∙ sym (ap (λ v. v || true) there)
    by false p = either (list_any (same_term q) keys)
      where
        either : (v : Bool) → v ≡ (v || false)
        either true = refl
        either false = refl
found q k keys false e = list_any-append (same_term q) keys (k ∷ []) ∙ ap (λ v. list_any (same_term q) keys || v) (either (same_term q k))
  where
    either : (v : Bool) → (v || false) ≡ v
    either true = refl
    either false = refl

-- the terms of a set, and the subjects of the rows that are left
abbrev pub finds : List Term → List Triple → Term → Bool
finds keys left s = list_any (same_term s) (keys ++ map subject left)

or_assoc : (a b c : Bool) → ((a || b) || c) ≡ (a || (b || c))
or_assoc true b c = refl
or_assoc false b c = refl

-- a row's subject goes from those that are left into the set
pub finds-insert : (keys more : List Term) (k : Term) (row : Triple) (left : List Triple) → k ≡ row.s → more ≡ insert_key term_eq.it keys k
    → (s : Term) → finds more left s ≡ finds keys (row ∷ left) s
finds-insert keys more k row left e m q =
    let same : more ≡ insert_key same_term keys k = m ∙ ap (λ eq. insert_key eq keys k) eq_of_terms in
    ap (λ ks. list_any (same_term q) (ks ++ map subject left)) same
    ∙ list_any-append (same_term q) (insert_key same_term keys k) (map subject left)
    ∙ ap (λ v. v || list_any (same_term q) (map subject left)) (found q k keys (list_any (same_term k) keys) refl)
    ∙ or_assoc (list_any (same_term q) keys) (same_term q k) (list_any (same_term q) (map subject left))
    ∙ ap (λ t. list_any (same_term q) keys || (same_term q t || list_any (same_term q) (map subject left))) e
    ∙ sym (list_any-append (same_term q) keys (row.s ∷ map subject left))

append_nil : (terms : List Term) → terms ++ [] ≡ terms
append_nil [] = refl
append_nil (term ∷ terms) = ap (λ rest. term ∷ rest) (append_nil terms)

pub finds-end : (keys : List Term) (left : List Triple) → left ≡ [] → (s : Term) → list_any (same_term s) keys ≡ finds keys left s
finds-end keys left e s = sym (ap (λ rest. finds keys rest s) e ∙ ap (list_any (same_term s)) (append_nil keys))

-- what a call leaves if it ends well
pub then-ok : {A E : Type 0} (P Q : Type 0) (r : Result A E) → (P → Q) → OnOk r P → OnOk r Q
then-ok P Q (Ok x) f h = f h
then-ok P Q (Err e) f h = tt
