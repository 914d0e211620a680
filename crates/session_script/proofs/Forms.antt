-- Lines with too few or too many words.
use Rattle.std.proofs.Common.{◌≡◌, ℕ, ◌<◌, List, [], ◌∷◌, length, refl, ap, ◌∙◌, arith}
use Rattle.session_script.specs.declared.keyword.Keyword.TheVariants.{Cable, At}
use Rattle.session_script.specs.Line.{cable_of, at_patch_set_of}
use Rattle.session_script.specs.Line.Line.{miscounted}

cable_rest : (source output target input : List ℕ) (rest : List (List ℕ)) → 1 < length rest → cable_of (source ∷ output ∷ target ∷ input ∷ rest) ≡ miscounted Cable
cable_rest source output target input [] h = absurd (omega arith)
cable_rest source output target input (delayed ∷ []) h = absurd (omega arith)
cable_rest source output target input (delayed ∷ word ∷ rest) h = refl

-- a `cable` line goes on with at most five words
pub cable_long : (ws ws1 ws2 ws3 ws4 : List (List ℕ)) (source output target input : List ℕ) → ws ≡ source ∷ ws1 → ws1 ≡ output ∷ ws2 → ws2 ≡ target ∷ ws3 → ws3 ≡ input ∷ ws4 → 1 < length ws4 → cable_of ws ≡ miscounted Cable
cable_long ws ws1 ws2 ws3 ws4 source output target input e1 e2 e3 e4 h =
    ap cable_of (e1 ∙ ap (λ rest. source ∷ rest) (e2 ∙ ap (λ rest. output ∷ rest) (e3 ∙ ap (λ rest. target ∷ rest) e4))) ∙ cable_rest source output target input ws4 h

patch_rest : (block name property form : List ℕ) (rest : List (List ℕ)) → ((length rest ≡ 1) → ⊥) → at_patch_set_of block (name ∷ property ∷ form ∷ rest) ≡ miscounted At
patch_rest block name property form [] h = refl
patch_rest block name property form (value ∷ []) h = absurd (h refl)
patch_rest block name property form (value ∷ word ∷ rest) h = refl

-- a `patch-set` goes on with four words
pub patch_count : (block : List ℕ) (ws ws1 ws2 ws3 : List (List ℕ)) (name property form : List ℕ) → ws ≡ name ∷ ws1 → ws1 ≡ property ∷ ws2 → ws2 ≡ form ∷ ws3 → ((length ws3 ≡ 1) → ⊥) → at_patch_set_of block ws ≡ miscounted At
patch_count block ws ws1 ws2 ws3 name property form e1 e2 e3 h =
    ap (at_patch_set_of block) (e1 ∙ ap (λ rest. name ∷ rest) (e2 ∙ ap (λ rest. property ∷ rest) e3)) ∙ patch_rest block name property form ws3 h
