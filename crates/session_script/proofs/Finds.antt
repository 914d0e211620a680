-- Where nothing is found, nothing passes.
use Rattle.std.proofs.Common.{◌≡◌, ℕ, zero, suc, ◌<◌, Bool, true, false, cond, Option, Some, None, List, [], ◌∷◌, length, get_or, refl, arith}
use Rattle.std.specs.List.{find}
use Rattle.session_script.specs.declared.draft.Draft.{Draft}
use Rattle.session_script.specs.declared.fault.ScriptRule.TheVariants.{Head, Order, Range, Same, Unknown, Iri, Name, Block, Form}
use Rattle.session_script.specs.Line.{Line}
use Rattle.session_script.specs.Rules.{breaks, broken_rule, table}
use Rattle.session_script.proofs.Booleans.{some-none}

past : {X : Type 0} (b : Bool) (x : X) (o : Option X) → cond b (Some x) o ≡ None → (b ≡ false) × (o ≡ None)
past true x o e = absurd (some-none x e)
past false x o e = (refl, e)

pub find_none : {X : Type 0} (p : X → Bool) (xs : List X) (d : X) → find p xs ≡ None → (k : ℕ) → k < length xs → p (get_or xs k d) ≡ false
find_none p [] d e k h = absurd (omega arith)
find_none p (x ∷ xs) d e zero h = (past (p x) x (find p xs) e).0
find_none p (x ∷ xs) d e (suc k) h = find_none p xs d (past (p x) x (find p xs) e).1 k (omega arith)

-- a line that breaks no rule breaks none of these
pub not_late : (d : Draft) (line : Line) → broken_rule d line ≡ None → breaks Order d line ≡ false
not_late d line h = find_none (λ rule. breaks rule d line) table Head h 2 (omega arith)

pub not_out_of_range : (d : Draft) (line : Line) → broken_rule d line ≡ None → breaks Range d line ≡ false
not_out_of_range d line h = find_none (λ rule. breaks rule d line) table Head h 6 (omega arith)

pub not_misnamed : (d : Draft) (line : Line) → broken_rule d line ≡ None → breaks Name d line ≡ false
not_misnamed d line h = find_none (λ rule. breaks rule d line) table Head h 7 (omega arith)

pub not_same : (d : Draft) (line : Line) → broken_rule d line ≡ None → breaks Same d line ≡ false
not_same d line h = find_none (λ rule. breaks rule d line) table Head h 8 (omega arith)

pub not_unknown : (d : Draft) (line : Line) → broken_rule d line ≡ None → breaks Unknown d line ≡ false
not_unknown d line h = find_none (λ rule. breaks rule d line) table Head h 9 (omega arith)

pub not_iri : (d : Draft) (line : Line) → broken_rule d line ≡ None → breaks Iri d line ≡ false
not_iri d line h = find_none (λ rule. breaks rule d line) table Head h 11 (omega arith)

pub not_out_of_blocks : (d : Draft) (line : Line) → broken_rule d line ≡ None → breaks Block d line ≡ false
not_out_of_blocks d line h = find_none (λ rule. breaks rule d line) table Head h 12 (omega arith)

pub not_malformed : (d : Draft) (line : Line) → broken_rule d line ≡ None → breaks Form d line ≡ false
not_malformed d line h = find_none (λ rule. breaks rule d line) table Head h 13 (omega arith)
