-- The containers that are open, outermost first.
use Rattle.std.proofs.Common.{◌≡◌, ℕ, ◌+◌, ◌-◌, Bool, false, sym, ap, ◌∙◌, drop, List, [], ◌∷◌, ◌++◌, length, take, refl, Some}
use Rattle.atom_forge.specs.declared.level.Level.{Level}
use Rattle.atom_core.specs.Spelling.{u32}
use Rattle.atom_forge.specs.Forged.{Forged, innermost, begins, sized, closed}

pub begins-last : (levels : List Level) (l : Level) → begins (levels ++ l ∷ []) ≡ l.at
begins-last [] l = refl
begins-last (m ∷ []) l = refl
begins-last (m ∷ (n ∷ levels)) l = begins-last (n ∷ levels) l

pub innermost-last : (levels : List Level) (l : Level) → innermost (levels ++ l ∷ []) ≡ Some l.holds
innermost-last [] l = refl
innermost-last (m ∷ []) l = refl
innermost-last (m ∷ (n ∷ levels)) l = innermost-last (n ∷ levels) l

-- the innermost container is closed
pub closes : (old : Forged) (levels : List Level) (l : Level) (bytes : List ℕ) (size : ℕ) (waits : Bool) → old.levels ≡ levels ++ l ∷ []
    → levels ≡ take (length old.levels - 1) old.levels → bytes ≡ take l.at old.bytes ++ (u32 size ++ drop (l.at + 4) old.bytes)
    → size ≡ length old.bytes - l.at - 8 → waits ≡ false
    → record { room = old.room; bytes = bytes; levels = levels; waits = waits } ≡ closed old
closes old levels l bytes size waits split rest text count still =
    let place : l.at ≡ begins old.levels = sym (ap begins split ∙ begins-last levels l) in
    let sized_is : bytes ≡ sized old.bytes (begins old.levels) =
    text ∙ ap (λ n. take l.at old.bytes ++ (u32 n ++ drop (l.at + 4) old.bytes)) count ∙ ap (λ n. sized old.bytes n) place in
    ap (λ (b : List ℕ). record { room = old.room; bytes = b; levels = levels; waits = waits }) sized_is
    ∙ ap (λ (ls : List Level). record { room = old.room; bytes = sized old.bytes (begins old.levels); levels = ls; waits = waits }) rest
    ∙ ap (λ (w : Bool). record { room = old.room; bytes = sized old.bytes (begins old.levels); levels = take (length old.levels - 1) old.levels; waits = w }) still
