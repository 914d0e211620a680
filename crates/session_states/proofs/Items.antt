-- Items that are gone through in order: paths that are put into a set, each once; restores that are found; properties that are copied.
use Rattle.std.proofs.Common.{◌≡◌, ℕ, suc, ◌+◌, ◌<◌, ◌≤◌, Bool, true, false, cond, List, [], ◌∷◌, ◌++◌, length, drop, map, get_or, Option, None, Some, refl, ap, sym, ◌∙◌, append_assoc, add-one}
use Rattle.std.proofs.lemmas.List.{drop_all, append-nil}
use Rattle.std.proofs.Math.Seq.{drop-cons}
use Rattle.std.specs.List.{list_any, filter_map, cons_option}
use Rattle.std.specs.Option.{option_to_list}
use Rattle.std.specs.Str.{bytes_eq}
use Rattle.session_load.specs.Names.{joined, each_once}
use Rattle.session_states.specs.Restores.{path_in}
use Rattle.session_states.specs.declared.restore.Restore.{Restore}

-- the first of the items that are left
first_left : {X : Type 0} (xs : List X) (k : ℕ) (x : X) → k < length xs → x ≡ get_or xs k x → drop k xs ≡ x ∷ drop (k + 1) xs
first_left xs k x within e =
    drop-cons xs k x within ∙ ap (λ y. y ∷ drop (suc k) xs) (sym e) ∙ ap (λ n. x ∷ drop n xs) (sym (add-one k))

-- ---- paths

-- the paths so far, and those that the restores left still bring
abbrev pub so_far : List (List ℕ) → List Restore → List (List ℕ)
so_far keys left = keys ++ each_once keys (map path_in left)

once : (keys : List (List ℕ)) (name : List ℕ) (names : List (List ℕ)) (b : Bool) → list_any (bytes_eq name) keys ≡ b
    → cond b keys (keys ++ name ∷ []) ++ each_once (cond b keys (keys ++ name ∷ [])) names
    ≡ keys ++ cond b (each_once keys names) (name ∷ each_once (keys ++ name ∷ []) names)
once keys name names true e = refl
once keys name names false e = append_assoc keys (name ∷ []) (each_once (keys ++ name ∷ []) names)

pub next_path : (keys more : List (List ℕ)) (restores : List Restore) (k : ℕ) (restore : Restore) → k < length restores → restore ≡ get_or restores k restore
    → more ≡ joined keys (Some restore.path) → so_far more (drop (k + 1) restores) ≡ so_far keys (drop k restores)
next_path keys more restores k restore within e j =
    ap (λ ks. so_far ks (drop (k + 1) restores)) j
    ∙ once keys restore.path (map path_in (drop (k + 1) restores)) (list_any (bytes_eq restore.path) keys) refl
    ∙ ap (λ left. so_far keys left) (sym (first_left restores k restore within e))

pub all_paths : (keys whole : List (List ℕ)) (restores : List Restore) (k : ℕ) → length restores ≤ k → so_far keys (drop k restores) ≡ whole → keys ≡ whole
all_paths keys whole restores k past e = sym (append-nil keys) ∙ ap (λ left. so_far keys left) (sym (drop_all k restores past)) ∙ e

-- ---- what is found

one_option : {Y : Type 0} (found : Option Y) (rest : List Y) → option_to_list found ++ rest ≡ cons_option found rest
one_option None rest = refl
one_option (Some y) rest = refl

pub next_found : {X Y : Type 0} (f : X → Option Y) (held more : List Y) (xs : List X) (k : ℕ) (x : X) → k < length xs → x ≡ get_or xs k x
    → more ≡ held ++ option_to_list (f x) → more ++ filter_map f (drop (k + 1) xs) ≡ held ++ filter_map f (drop k xs)
next_found f held more xs k x within e j =
    ap (λ h. h ++ filter_map f (drop (k + 1) xs)) j
    ∙ append_assoc held (option_to_list (f x)) (filter_map f (drop (k + 1) xs))
    ∙ ap (λ rest. held ++ rest) (one_option (f x) (filter_map f (drop (k + 1) xs)))
    ∙ ap (λ left. held ++ filter_map f left) (sym (first_left xs k x within e))

pub all_found : {X Y : Type 0} (f : X → Option Y) (held whole : List Y) (xs : List X) (k : ℕ) → length xs ≤ k → held ++ filter_map f (drop k xs) ≡ whole → held ≡ whole
all_found f held whole xs k past e = sym (append-nil held) ∙ ap (λ left. held ++ filter_map f left) (sym (drop_all k xs past)) ∙ e

-- ---- what is made of each

pub next_made : {X Y : Type 0} (f : X → Y) (held more : List Y) (xs : List X) (k : ℕ) (x : X) → k < length xs → x ≡ get_or xs k x
    → more ≡ held ++ f x ∷ [] → more ++ map f (drop (k + 1) xs) ≡ held ++ map f (drop k xs)
next_made f held more xs k x within e j =
    ap (λ h. h ++ map f (drop (k + 1) xs)) j
    ∙ append_assoc held (f x ∷ []) (map f (drop (k + 1) xs))
    ∙ ap (λ left. held ++ map f left) (sym (first_left xs k x within e))

pub all_made : {X Y : Type 0} (f : X → Y) (held whole : List Y) (xs : List X) (k : ℕ) → length xs ≤ k → held ++ map f (drop k xs) ≡ whole → held ≡ whole
all_made f held whole xs k past e = sym (append-nil held) ∙ ap (λ left. held ++ map f left) (sym (drop_all k xs past)) ∙ e
