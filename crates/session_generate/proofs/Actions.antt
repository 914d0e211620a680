-- The line of an action, by the number that was drawn for it.
use Rattle.std.proofs.Common.{◌≡◌, ℕ, ◌%◌, List, ◌++◌, sym, ap, ◌∙◌}
use Rattle.std.specs.Prelude.{codes, decimal}
use Rattle.session_generate.specs.Draws.{next, drawn}
use Rattle.session_generate.specs.Lines.{Written, after_draw, action_by, action_at}

-- what a kind of action writes after the beginning of its line is what its number says
pub chosen : (kind block state choice : ℕ) (begun : List ℕ) (old : Written) → state ≡ next old.state → choice ≡ drawn state → choice % 4 ≡ kind
    → begun ≡ old.text ++ (codes "at " ++ decimal block) → action_by kind (record { state = state; text = begun }) ≡ action_at block (after_draw old)
chosen kind block state choice begun old moved drew is started =
    let number : kind ≡ drawn (next old.state) % 4 = sym is ∙ ap (λ n. n % 4) (drew ∙ ap drawn moved) in
    λ i. action_by (number i) (record { state = moved i; text = started i })
