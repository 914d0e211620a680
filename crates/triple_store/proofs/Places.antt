-- Where a subject stands in the map of ends, and what a write there leaves.
use Rattle.std.proofs.Common.{◌≡◌, ℕ, suc, ◌+◌, Bool, true, false, cond, not, List, [], ◌∷◌, arith, Option, Some, Bor, slice_get, refl, ap, sym, subst, ◌∙◌}
use Rattle.std.proofs.lemmas.Map.Entries.{hash_map_get_place}
use Rattle.std.proofs.lemmas.Option.{slice_get-map}
use Rattle.std.specs.Cmp.{IsEquivalence}
use Rattle.std.specs.List.{position_or_len}
use Rattle.std.specs.Map.{keys_of}
use Rattle.std.specs.Map.Iter.{deref_pair}
use Rattle.std.specs.Option.{option_map, unwrap_or}
use Rattle.indexmap.proofs.CallerLemmas.{updates-with_value_at}
use Rattle.indexmap.specs.IndexMap.{IndexMap, keys, get, insert_entry, insert_index, with_value_at, IsUnique}
use Rattle.triple_store.specs.contracts.term.TermPartialEq.TheImpl.{eq-value as term_eq}
use Rattle.triple_store.specs.Triples.{same_term}
use Rattle.triple_store.specs.declared.subjects.Ends.{Ends}
use Rattle.triple_store.specs.declared.term.Term.{Term}
use Rattle.triple_store.proofs.Changes.{Sets, sets, sets-own, twice, inserted}
use Rattle.triple_store.proofs.SameTerm.{same_term-true, same_term-itself, same_term-swapped, eq_of_terms}

-- `==` of terms is an equivalence
laws : IsEquivalence term_eq.it
laws = subst IsEquivalence (sym eq_of_terms) (record {
  refl = same_term-itself;
  symm = same_term-swapped;
  congr = λ a b t h. ap (λ (u : Term). same_term u t) (same_term-true a b h);
})

-- the key of the entry at a place
key_at : {S : Type 0} (m : IndexMap Term Ends S) (i : ℕ) (key : Term) (e : Ends) → slice_get m.entries i ≡ Some (key, e) → slice_get (keys m) i ≡ Some key
key_at m i key e at = slice_get-map (λ (p : Term × Ends). p.0) m.entries i ∙ ap (option_map (λ (p : Term × Ends). p.0)) at

-- a place that was looked at, where the subject was
pub place-looked : {S : Type 0} (m : IndexMap Term Ends S) (i : ℕ) (r : Option (Bor Term × Bor Ends)) (key : Bor Term) (e : Bor Ends) (s : Term)
    → option_map deref_pair r ≡ slice_get m.entries i → r ≡ Some (key, e) → same_term key.now s ≡ true → slice_get (keys m) i ≡ Some s
place-looked m i r key e s entry is same =
    key_at m i key.now e.now (sym entry ∙ ap (option_map deref_pair) is) ∙ ap Some (same_term-true key.now s same)

-- the entry there, of which the subject is the key
own_entry : {S : Type 0} (m : IndexMap Term Ends S) (i : ℕ) (s key : Term) (e : Ends) → slice_get (keys m) i ≡ Some s → slice_get m.entries i ≡ Some (key, e) → slice_get m.entries i ≡ Some (s, e)
own_entry m i s key e at entry = entry ∙ ap (λ k. Some (k, e)) (ap (λ o. unwrap_or o s) (sym (key_at m i key e entry) ∙ at))

-- what is kept for the subject is the value there
pub kept-at : {S : Type 0} (m : IndexMap Term Ends S) (i : ℕ) (s key : Term) (e : Ends)
    → slice_get (keys m) i ≡ Some s → slice_get m.entries i ≡ Some (key, e) → IsUnique term_eq.it m → get same_term m s ≡ Some e
kept-at m i s key e at entry unique =
    subst (λ (eq : Term → Term → Bool). get eq m s ≡ Some e) eq_of_terms (hash_map_get_place laws m i s e unique (own_entry m i s key e at entry))

-- what is kept after a write there
pub written-at : {S : Type 0} (m : IndexMap Term Ends S) (i : ℕ) (s key : Term) (e new : Ends)
    → slice_get (keys m) i ≡ Some s → slice_get m.entries i ≡ Some (key, e) → IsUnique term_eq.it m → Sets (get same_term m) s (Some new) (get same_term (with_value_at m i new))
written-at m i s key e new at entry unique =
    sets m (with_value_at m i new) s (Some new) (updates-with_value_at m i new laws unique s e (own_entry m i s key e at entry)).0

-- a subject that is inserted stands where it stood, or at the end
key-inserted : (es : List (Term × Ends)) (s : Term) (e : Ends) → slice_get (keys_of (insert_entry same_term es s e)) (position_or_len (same_term s) (keys_of es)) ≡ Some s
key-inserted [] s e = refl
key-inserted (f ∷ es) s e = by (same_term s f.0) refl (key-inserted es s e)
  where
    by : (b : Bool) → same_term s f.0 ≡ b → slice_get (keys_of (insert_entry same_term es s e)) (position_or_len (same_term s) (keys_of es)) ≡ Some s
        → slice_get (keys_of (cond b ((f.0, e) ∷ es) (f ∷ insert_entry same_term es s e))) (cond (not b) (1 + position_or_len (same_term s) (keys_of es)) 0) ≡ Some s
    by true same rest = ap Some (sym (same_term-true s f.0 same))
    by false other rest = let next : 1 + position_or_len (same_term s) (keys_of es) ≡ suc (position_or_len (same_term s) (keys_of es)) = omega arith in rw next rest

inserted-at : {S : Type 0} (m n : IndexMap Term Ends S) (s key : Term) (e : Ends) (i : ℕ)
    → key ≡ s → n.entries ≡ insert_entry term_eq.it m.entries key e → i ≡ insert_index term_eq.it m key → slice_get (keys n) i ≡ Some s
inserted-at m n s key e i same entries at =
    ap (λ es. slice_get (keys_of es) i) entries ∙ ap (slice_get (keys_of (insert_entry term_eq.it m.entries key e))) at
    ∙ subst (λ (eq : Term → Term → Bool). slice_get (keys_of (insert_entry eq m.entries key e)) (position_or_len (eq key) (keys m)) ≡ Some key) (sym eq_of_terms) (key-inserted m.entries key e) ∙ ap Some same

some_last : (a b : Ends) → Some a ≡ Some b → a.last ≡ b.last
some_last a b h = cc

-- what is kept after an insert, and then a write of the first end there
pub replaced-at : {S : Type 0} (m n : IndexMap Term Ends S) (s key : Term) (place first : ℕ) (i : ℕ) (there : Term) (e : Ends)
    → key ≡ s → n.entries ≡ insert_entry term_eq.it m.entries key (record { first = place; last = place }) → i ≡ insert_index term_eq.it m key
    → ((q : Term) → get term_eq.it n q ≡ cond (term_eq.it key q) (Some (record { first = place; last = place })) (get term_eq.it m q))
    → slice_get n.entries i ≡ Some (there, e) → IsUnique term_eq.it n
    → Sets (get same_term m) s (Some (record { first = first; last = place })) (get same_term (with_value_at n i (record { first = first; last = e.last })))
replaced-at m n s key place first i there e same entries at updates entry unique =
    let only : Ends = record { first = place; last = place } in
    let new : Ends = record { first = first; last = e.last } in
    let own = inserted-at m n s key only i same entries at in
    let put : Sets (get same_term m) s (Some only) (get same_term n) = inserted m n s key only same updates in
    let last : e.last ≡ place = some_last e only (sym (kept-at n i s there e own entry unique) ∙ sets-own (get same_term m) (get same_term n) s (Some only) put) in
    subst (λ l. Sets (get same_term m) s (Some (record { first = first; last = l })) (get same_term (with_value_at n i new))) last
    (twice (get same_term m) (get same_term n) (get same_term (with_value_at n i new)) s (Some only) (Some new) put (written-at n i s there e new own entry unique))
