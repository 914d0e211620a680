-- The words of the command line.
use Rattle.std.specs.Prelude.{◌≡◌, List, ℕ, [], ◌∷◌, codes}
use Rattle.host_main.specs.declared.command.Command.{Command}
use Rattle.host_main.specs.declared.command.Command.TheVariants.{Check, Render}

-- the words are `check BUNDLE`
abbrev pub IsCheck : List (List ℕ) → List ℕ → Type 0
IsCheck words bundle = words ≡ codes "check" ∷ bundle ∷ []

-- the words are `render SESSION OUT`
abbrev pub IsRender : List (List ℕ) → List ℕ → List ℕ → Type 0
IsRender words session name = words ≡ codes "render" ∷ session ∷ name ∷ []

-- the words say this command
abbrev pub Commands : List (List ℕ) → Command → Type 0
Commands words (Check bundle) = IsCheck words bundle.now
Commands words (Render session name) = IsRender words session.now name.now

-- the words say no command
pub record IsOfNoForm (words : List (List ℕ)) : Type 0 where
  pub no_check : (bundle : List ℕ) → IsCheck words bundle → ⊥
  pub no_render : (session name : List ℕ) → IsRender words session name → ⊥
