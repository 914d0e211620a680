-- Keys that are looked up one after another stand each once.
use Rattle.std.proofs.Common.{◌≡◌, Bool, true, false, not, List, [], ◌∷◌, ◌++◌, refl, ap, ◌∙◌}
use Rattle.std.specs.Prelude.{◌&&◌, ◌||◌}
use Rattle.std.specs.List.{list_any}
use Rattle.triple_store.proofs.SameTerm.{same_term-swapped}
use Rattle.triple_store.specs.Triples.{same_term}
use Rattle.triple_store.specs.declared.term.Term.{Term}
use Rattle.state_file.specs.Rules.{each_once}

-- each of these keys is new where it stands after those that were seen
abbrev pub are_new : List Term → List Term → Bool
are_new seen [] = true
are_new seen (key ∷ keys) = not (list_any (same_term key) seen) && are_new (seen ++ key ∷ []) keys

-- none of these was seen
abbrev pub none_seen : List Term → List Term → Bool
none_seen seen [] = true
none_seen seen (key ∷ keys) = not (list_any (same_term key) seen) && none_seen seen keys

any-push : (key last : Term) (seen : List Term) → list_any (same_term key) (seen ++ last ∷ []) ≡ (list_any (same_term key) seen || same_term key last)
any-push key last [] = by (same_term key last)
  where
    by : (b : Bool) → (b || false) ≡ b
    by true = refl
    by false = refl
any-push key last (x ∷ seen) = ap (λ b. same_term key x || b) (any-push key last seen) ∙ by (same_term key x)
  where
    by : (b : Bool) → (b || (list_any (same_term key) seen || same_term key last)) ≡ ((b || list_any (same_term key) seen) || same_term key last)
    by true = refl
    by false = refl

none-pushed : (seen keys : List Term) (last : Term) → none_seen (seen ++ last ∷ []) keys ≡ (none_seen seen keys && not (list_any (same_term last) keys))
none-pushed seen [] last = refl
none-pushed seen (key ∷ keys) last =
    ap (λ b. not b && none_seen (seen ++ last ∷ []) keys) (any-push key last seen)
    ∙ (ap (λ b. not (list_any (same_term key) seen || b) && none_seen (seen ++ last ∷ []) keys) (same_term-swapped key last)
    ∙ (ap (λ b. not (list_any (same_term key) seen || same_term last key) && b) (none-pushed seen keys last)
    ∙ by (list_any (same_term key) seen) (same_term last key) (none_seen seen keys) (list_any (same_term last) keys)))
  where
    by : (a b c d : Bool) → (not (a || b) && (c && not d)) ≡ ((not a && c) && not (b || d))
    by true b c d = refl
    by false true true d = refl
    by false true false d = refl
    by false false c d = refl

pub new-once : (seen keys : List Term) → are_new seen keys ≡ (none_seen seen keys && each_once keys)
new-once seen [] = refl
new-once seen (key ∷ keys) =
    ap (λ b. not (list_any (same_term key) seen) && b) (new-once (seen ++ key ∷ []) keys ∙ ap (λ b. b && each_once keys) (none-pushed seen keys key))
    ∙ by (list_any (same_term key) seen) (none_seen seen keys) (list_any (same_term key) keys) (each_once keys)
  where
    by : (a b c d : Bool) → (not a && ((b && not c) && d)) ≡ ((not a && b) && (not c && d))
    by true b c d = refl
    by false true true d = refl
    by false true false d = refl
    by false false c d = refl

none-of-none : (keys : List Term) → none_seen [] keys ≡ true
none-of-none [] = refl
none-of-none (key ∷ keys) = none-of-none keys

pub new_from_none : (keys : List Term) → are_new [] keys ≡ each_once keys
new_from_none keys = new-once [] keys ∙ ap (λ b. b && each_once keys) (none-of-none keys)
