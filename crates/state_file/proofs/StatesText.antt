-- The text of the states from a place on begins with that of the state at it.
use Rattle.std.proofs.Common.{◌≡◌, ℕ, suc, ◌+◌, ◌<◌, List, ◌∷◌, ◌++◌, length, get_or, drop, sym, ap, ◌∙◌, append_assoc, drop-cons, arith}
use Rattle.state_file.specs.StateText.{saved_text, states_text}
use Rattle.state_file.specs.declared.saved.Saved.{Saved}

-- a list from a place on
from_here : (saves : List Saved) (n : ℕ) (saved : Saved) → n < length saves → saved ≡ get_or saves n saved → drop n saves ≡ saved ∷ drop (n + 1) saves
from_here saves n saved within here =
    drop-cons saves n saved within ∙ (ap (λ s. s ∷ drop (suc n) saves) (sym here) ∙ ap (λ k. saved ∷ drop k saves) (let same : suc n ≡ n + 1 = omega arith in same))

-- one state more
pub states_more : (urids : List (List ℕ)) (saves : List Saved) (n : ℕ) (saved : Saved) (before after : List ℕ) → n < length saves → saved ≡ get_or saves n saved
    → after ≡ before ++ saved_text urids n saved
    → after ++ states_text urids (n + 1) (drop (n + 1) saves) ≡ before ++ states_text urids n (drop n saves)
states_more urids saves n saved before after within here grown =
    ap (λ l. l ++ states_text urids (n + 1) (drop (n + 1) saves)) grown
    ∙ (append_assoc before (saved_text urids n saved) (states_text urids (n + 1) (drop (n + 1) saves))
    ∙ ap (λ l. before ++ states_text urids n l) (sym (from_here saves n saved within here)))
