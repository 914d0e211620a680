-- Names that are put into a set in order, each once.
use Rattle.std.proofs.Common.{◌≡◌, ℕ, Bool, true, false, cond, List, [], ◌∷◌, ◌++◌, filter, Option, None, Some, refl, ap, sym, ◌∙◌, append_assoc}
use Rattle.std.specs.List.{list_any, filter_map, cons_option}
use Rattle.std.specs.Str.{bytes_eq}
use Rattle.triple_store.specs.Triples.{same_term, agrees}
use Rattle.triple_store.specs.declared.term.Term.{Term}
use Rattle.triple_store.specs.declared.term.Triple.{Triple}
use Rattle.plugin_decl.specs.Objects.{is_a}
use Rattle.vocabulary.specs.declared.word.Word.TheVariants.{Lv2Plugin}
use Rattle.session_load.specs.Names.{manifest, folder_iri, see_also, file_by, file_of, file_at, joined, each_once, files_named}

-- the names so far, and those that the rows left still bring
abbrev pub so_far : List Term → List ℕ → List (List ℕ) → List Triple → List (List ℕ)
so_far plugins folder keys left = keys ++ each_once keys (filter_map (file_of plugins folder) left)

once : (keys : List (List ℕ)) (name : List ℕ) (names : List (List ℕ)) (b : Bool) → list_any (bytes_eq name) keys ≡ b
    → cond b keys (keys ++ name ∷ []) ++ each_once (cond b keys (keys ++ name ∷ [])) names
    ≡ keys ++ cond b (each_once keys names) (name ∷ each_once (keys ++ name ∷ []) names)
once keys name names true e = refl
once keys name names false e = append_assoc keys (name ∷ []) (each_once (keys ++ name ∷ []) names)

one_more : (keys : List (List ℕ)) (found : Option (List ℕ)) (names : List (List ℕ))
    → joined keys found ++ each_once (joined keys found) names ≡ keys ++ each_once keys (cons_option found names)
one_more keys None names = refl
one_more keys (Some name) names = once keys name names (list_any (bytes_eq name) keys) refl

-- a row goes from those that are left into the set
pub so_far-next : (plugins : List Term) (folder : List ℕ) (keys more : List (List ℕ)) (row : Triple) (left : List Triple)
    → more ≡ joined keys (file_of plugins folder row) → so_far plugins folder more left ≡ so_far plugins folder keys (row ∷ left)
so_far-next plugins folder keys more row left e =
    ap (λ ks. so_far plugins folder ks left) e ∙ one_more keys (file_of plugins folder row) (filter_map (file_of plugins folder) left)

append_nil : (names : List (List ℕ)) → names ++ [] ≡ names
append_nil [] = refl
append_nil (name ∷ names) = ap (λ rest. name ∷ rest) (append_nil names)

pub so_far-end : (plugins : List Term) (folder : List ℕ) (keys : List (List ℕ)) (left : List Triple) → left ≡ [] → keys ≡ so_far plugins folder keys left
so_far-end plugins folder keys left e = sym (ap (λ rest. so_far plugins folder keys rest) e ∙ append_nil keys)

-- what the rows name, where their subjects are looked up in a set
same_files : (plugins : List Term) (folder : List ℕ) (rows left : List Triple) → ((s : Term) → list_any (same_term s) plugins ≡ is_a rows s Lv2Plugin)
    → filter_map (file_of plugins folder) left ≡ filter_map (file_at folder rows) left
same_files plugins folder rows [] h = refl
same_files plugins folder rows (row ∷ left) h =
    ap (λ b. cons_option (cond b (file_by folder row.o) None) (filter_map (file_of plugins folder) left)) (h row.s)
    ∙ ap (λ rest. cons_option (file_at folder rows row) rest) (same_files plugins folder rows left h)

-- the whole set
pub all_named : (number : ℕ) (rows : List Triple) (plugins : List Term) (folder : List ℕ) (keys more : List (List ℕ)) → folder ≡ folder_iri number
    → ((s : Term) → list_any (same_term s) plugins ≡ is_a rows s Lv2Plugin) → keys ≡ manifest ∷ []
    → more ≡ so_far plugins folder keys (filter (agrees None (Some see_also) None) rows) → more ≡ manifest ∷ files_named number rows
unfolding files_named
all_named number rows plugins folder keys more f h k e =
    e
    ∙ (λ i. so_far plugins (f i) (k i) (filter (agrees None (Some see_also) None) rows))
    ∙ ap (λ names. manifest ∷ each_once (manifest ∷ []) names) (same_files plugins (folder_iri number) rows (filter (agrees None (Some see_also) None) rows) h)
