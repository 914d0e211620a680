-- Which names stay within a bundle, and what an IRI names.
use Rattle.std.proofs.Common.{◌≡◌, ℕ, Bool, true, false, not, cond, ◌&&◌, nat_eq, List, [], ◌∷◌, ◌++◌, filter, All, take, drop, length, Option, None, Some, refl, ap, sym, ◌∙◌, true≢false}
use Rattle.std.specs.Prelude.{◌==◌, IsUtf8}
use Rattle.std.specs.List.{list_any, list_all, filter_map, cons_option, starts_with, slice_split, AllByRecursion}
use Rattle.std.specs.Str.{is_utf8, bytes_eq}
use Rattle.std.proofs.lemmas.Slice.Eq.{bytes_eq-Decides}
use Rattle.std.proofs.lemmas.Str.{is_utf8-from_IsUtf8, IsUtf8-from_is_utf8}
use Rattle.std.proofs.lemmas.List.Elements.{All-from_recursion}
use Rattle.percent_encoding.specs.Percent.{percent_decode}
use Rattle.plugin_decl.specs.Objects.{is_a}
use Rattle.vocabulary.specs.declared.word.Word.TheVariants.{Lv2Plugin}
use Rattle.triple_store.specs.Triples.{agrees}
use Rattle.triple_store.specs.declared.term.Term.{Term}
use Rattle.triple_store.specs.declared.term.Term.TheVariants.{Iri, Blank, Literal}
use Rattle.triple_store.specs.declared.term.Triple.{Triple}
use lib.Utf8.{encode}
use Rattle.session_load.specs.Names.{manifest, folder_iri, is_segment, is_inside, inside, is_bare, file_named, see_also, file_by, file_at, each_once, files_named}

-- the tests of a text's bytes decide
pub judged : (name : List ℕ) (zero segments : Bool) → IsUtf8 name → zero ≡ list_any (λ c. c == 0) name
    → segments ≡ list_all is_segment (slice_split (λ c. c == 47) name) → (not zero && segments) ≡ is_inside name
unfolding is_inside
judged name zero segments utf8 e f =
    (λ i. not (e i) && f i) ∙ ap (λ b. b && (not (list_any (λ c. c == 0) name) && list_all is_segment (slice_split (λ c. c == 47) name))) (sym (is_utf8-from_IsUtf8 name utf8))

not_utf8 : (name : List ℕ) → (IsUtf8 name → ⊥) → (b : Bool) → is_utf8 name ≡ b → is_inside name ≡ false
unfolding is_inside
not_utf8 name bad true e = absurd (bad (IsUtf8-from_is_utf8 name e))
not_utf8 name bad false e = ap (λ b. b && (not (list_any (λ c. c == 0) name) && list_all is_segment (slice_split (λ c. c == 47) name))) e

pub none-not_utf8 : (name : List ℕ) → (IsUtf8 name → ⊥) → None ≡ inside name
none-not_utf8 name bad = ap (λ b. cond b (Some name) None) (sym (not_utf8 name bad (is_utf8 name) refl))

-- equality of bytes is symmetric
bytes_eq-swapped : (a b : List ℕ) → bytes_eq a b ≡ bytes_eq b a
bytes_eq-swapped a b = by (bytes_eq a b) (bytes_eq b a) refl refl
  where
    by : (v w : Bool) → bytes_eq a b ≡ v → bytes_eq b a ≡ w → bytes_eq a b ≡ bytes_eq b a
    by true true p q = p ∙ sym q
    by false false p q = p ∙ sym q
    by true false p q = absurd (true≢false (sym ((bytes_eq-Decides b a).1 (sym ((bytes_eq-Decides a b).0 p))) ∙ q))
    by false true p q = absurd (true≢false (sym ((bytes_eq-Decides a b).1 (sym ((bytes_eq-Decides b a).0 q))) ∙ p))

-- an IRI with a query or a fragment names no file
pub none-not_bare : (folder iri : List ℕ) → is_bare iri ≡ false → None ≡ file_named folder iri
unfolding file_named
none-not_bare folder iri e = by (starts_with nat_eq iri folder) (is_bare iri) e
  where
    by : (a b : Bool) → b ≡ false → None ≡ cond (a && b) (inside (percent_decode (drop (length folder) iri))) None
    by true b e = ap (λ b. cond b (inside (percent_decode (drop (length folder) iri))) None) (sym e)
    by false b e = refl

-- nor does one that begins otherwise
pub none-elsewhere : (folder iri : List ℕ) → bytes_eq (take (length folder) iri) folder ≡ false → None ≡ file_named folder iri
unfolding file_named
none-elsewhere folder iri e =
    ap (λ a. cond (a && is_bare iri) (inside (percent_decode (drop (length folder) iri))) None) (sym (bytes_eq-swapped folder (take (length folder) iri) ∙ e))

pub named : (folder iri : List ℕ) → is_bare iri ≡ true → bytes_eq (take (length folder) iri) folder ≡ true
    → inside (percent_decode (drop (length folder) iri)) ≡ file_named folder iri
unfolding file_named
named folder iri bare e =
    let begins : bytes_eq folder (take (length folder) iri) ≡ true = bytes_eq-swapped folder (take (length folder) iri) ∙ e in
    sym (λ i. cond (begins i && bare i) (inside (percent_decode (drop (length folder) iri))) None)

manifest_utf8 : IsUtf8 manifest
unfolding encode
manifest_utf8 = (manifest, (refl, refl))

pub manifest_inside : is_inside manifest ≡ true
unfolding is_inside
manifest_inside = ap (λ b. b && true) (is_utf8-from_IsUtf8 manifest manifest_utf8)

-- what is named, if anything is, lies inside
IsKept : Option (List ℕ) → Type 0
IsKept None = Unit {0}
IsKept (Some name) = is_inside name ≡ true

kept-inside : (name : List ℕ) (b : Bool) → is_inside name ≡ b → IsKept (cond b (Some name) None)
unfolding IsKept
kept-inside name true e = e
kept-inside name false e = tt

kept-if : (b : Bool) (found : Option (List ℕ)) → IsKept found → IsKept (cond b found None)
unfolding IsKept
kept-if true found h = h
kept-if false found h = tt

kept-named : (folder iri : List ℕ) → IsKept (file_named folder iri)
unfolding file_named
kept-named folder iri =
    kept-if (starts_with nat_eq iri folder && is_bare iri) _ (kept-inside (percent_decode (drop (length folder) iri)) _ refl)

kept-by : (folder : List ℕ) (object : Term) → IsKept (file_by folder object)
unfolding IsKept
kept-by folder (Iri iri) = kept-named folder iri
kept-by folder (Blank n) = tt
kept-by folder (Literal text datatype lang) = tt

AreInside : List (List ℕ) → Type 0
AreInside names = AllByRecursion (λ name. is_inside name ≡ true) names

found : (name : Option (List ℕ)) (names : List (List ℕ)) → IsKept name → AreInside names → AreInside (cons_option name names)
unfolding IsKept AreInside
found None names h all = all
found (Some name) names h all = (h, all)

none : AreInside []
unfolding AreInside
none = tt

all_found : (folder : List ℕ) (all rows : List Triple) → AreInside (filter_map (file_at folder all) rows)
all_found folder all [] = none
all_found folder all (row ∷ rows) = found (file_at folder all row) _ (kept-if (is_a all row.s Lv2Plugin) _ (kept-by folder row.o)) (all_found folder all rows)

kept-once : (b : Bool) (name : List ℕ) (without within : List (List ℕ)) → is_inside name ≡ true → AreInside without → AreInside within
    → AreInside (cond b without (name ∷ within))
unfolding AreInside
kept-once true name without within h all more = all
kept-once false name without within h all more = (h, more)

once : (before names : List (List ℕ)) → AreInside names → AreInside (each_once before names)
unfolding AreInside
once before [] all = tt
once before (name ∷ names) all =
    kept-once (list_any (bytes_eq name) before) name _ _ all.0 (once before names all.1) (once (before ++ name ∷ []) names all.1)

pub all_inside : (number : ℕ) (rows : List Triple) → All (λ name. is_inside name ≡ true) (files_named number rows)
unfolding files_named AreInside
all_inside number rows =
    All-from_recursion _ _
    (once (manifest ∷ []) _ (all_found (folder_iri number) rows (filter (agrees None (Some see_also) None) rows)))
