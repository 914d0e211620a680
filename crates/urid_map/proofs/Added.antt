-- URIs of which no two are the same, mapped in turn, stand in their order. To compare quickly, each is read as a number to the base 256.
use Rattle.std.proofs.Common.{◌≡◌, ℕ, ◌+◌, ◌*◌, Bool, true, false, not, cond, ◌&&◌, ◌||◌, nat_eq, List, [], ◌∷◌, ◌++◌, map, fold, refl, sym, ap, subst, ◌∙◌, append_assoc}
use Rattle.std.specs.List.{list_any}
use Rattle.std.specs.Str.{bytes_eq}
use Rattle.std.proofs.lemmas.Bool.{eq-eqb}
use Rattle.std.proofs.lemmas.Slice.Eq.{bytes_eq-Decides}
use Rattle.urid_map.specs.Numbers.{with_uri, with_uris}
use Rattle.urid_map.specs.Table.{initial}
use Rattle.vocabulary.specs.Words.{iri_of}
use Rattle.vocabulary.specs.declared.word.Word.{Word}

abbrev pub value : List ℕ → ℕ
value uri = fold (λ n c. n * 256 + c) 0 uri

-- each number is new when its turn comes
abbrev pub all_new : List ℕ → List ℕ → Bool
all_new held [] = true
all_new held (n ∷ next) = not (list_any (nat_eq n) held) && all_new (held ++ n ∷ []) next

-- URIs with other values are others
not_held : (uri : List ℕ) (urids : List (List ℕ)) → list_any (nat_eq (value uri)) (map value urids) ≡ false → list_any (bytes_eq uri) urids ≡ false
not_held uri [] h = refl
not_held uri (x ∷ xs) h = by (not_held uri xs) (bytes_eq uri x) refl (nat_eq (value uri) (value x)) refl h
  where
    by : (list_any (nat_eq (value uri)) (map value xs) ≡ false → list_any (bytes_eq uri) xs ≡ false) → (b : Bool) → bytes_eq uri x ≡ b → (n : Bool) → nat_eq (value uri) (value x) ≡ n → (n || list_any (nat_eq (value uri)) (map value xs)) ≡ false → (b || list_any (bytes_eq uri) xs) ≡ false
    by more false same false other rest = more rest
    by more false same true other rest = cc
    by more true same true other rest = cc
    by more true same false other rest =
        let e : uri ≡ x = (bytes_eq-Decides uri x).0 same in
        let t : nat_eq (value uri) (value x) ≡ true = eq-eqb (value uri) (value x) (ap value e) in
        cc

values_push : (urids : List (List ℕ)) (uri : List ℕ) → map value (urids ++ uri ∷ []) ≡ map value urids ++ value uri ∷ []
values_push [] uri = refl
values_push (x ∷ xs) uri = ap (λ l. value x ∷ l) (values_push xs uri)

nothing_after : {X : Type 0} (xs : List X) → xs ≡ xs ++ []
nothing_after [] = refl
nothing_after (x ∷ xs) = ap (λ l. x ∷ l) (nothing_after xs)

added : (urids uris : List (List ℕ)) → all_new (map value urids) (map value uris) ≡ true → fold with_uri urids uris ≡ urids ++ uris
added urids [] h = nothing_after urids
added urids (x ∷ xs) h = by (added (urids ++ x ∷ []) xs) (list_any (nat_eq (value x)) (map value urids)) refl h
  where
    by : (all_new (map value (urids ++ x ∷ [])) (map value xs) ≡ true → fold with_uri (urids ++ x ∷ []) xs ≡ (urids ++ x ∷ []) ++ xs)
        → (b : Bool) → list_any (nat_eq (value x)) (map value urids) ≡ b → (not b && all_new (map value urids ++ value x ∷ []) (map value xs)) ≡ true
        → fold with_uri (with_uri urids x) xs ≡ urids ++ x ∷ xs
    by more true found rest = cc
    by more false none rest =
        let new : with_uri urids x ≡ urids ++ x ∷ [] = ap (λ b. cond b urids (urids ++ x ∷ [])) (not_held x urids none) in
        let next : all_new (map value (urids ++ x ∷ [])) (map value xs) ≡ true = subst (λ l. all_new l (map value xs) ≡ true) (sym (values_push urids x)) rest in
        ap (λ l. fold with_uri l xs) new ∙ more next ∙ append_assoc urids (x ∷ []) xs

added_to_none : (uris : List (List ℕ)) → all_new [] (map value uris) ≡ true → with_uris [] uris ≡ uris
unfolding with_uris
added_to_none uris h = added [] uris h

initial_new : all_new [] (map value initial) ≡ true
unfolding iri_of
initial_new = refl

-- those of the table
pub initial_added : with_uris [] initial ≡ initial
initial_added = added_to_none initial initial_new

-- what a loop over words does
pub mapped_in_turn : (urids : List (List ℕ)) (words : List Word)
    → fold (λ held word. with_uri held (iri_of word)) urids words ≡ with_uris urids (map iri_of words)
unfolding with_uris
mapped_in_turn urids [] = refl
mapped_in_turn urids (word ∷ words) = mapped_in_turn (with_uri urids (iri_of word)) words
