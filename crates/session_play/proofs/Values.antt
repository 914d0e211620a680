-- What the rule on values says.
use Rattle.std.proofs.Common.{◌≡◌, ℕ, Bool, true, false, List, [], ◌∷◌, Option, Some, None, refl, sym, true≢false}
use Rattle.interaction.specs.Interaction.{Interaction, done, ask}
use Rattle.session_play.specs.Looking.{open_call}
use Rattle.session_play.specs.Notices.{untold}
use Rattle.session_play.specs.Value.{Ending}
use Rattle.session_play.specs.ValueRule.{is_long, same, attempts_so, tells_so}
use Rattle.session_play.specs.ValueLaws.{AttemptsAreAsked, NoticesAreMade}

are_same : (a b : Bool) → same a b ≡ true → b ≡ a
are_same true b e = e
are_same false true e = sym e
are_same false false e = refl

asked_by : {F B : Type 0} → (long : Bool) (call o : Option (Interaction (Ending F B))) → o ≡ call → attempts_so long call ≡ true
    → (asked : List ℕ) × (next : ℕ → Interaction (Ending F B)) × (o ≡ Some (ask asked next)) × (is_long asked ≡ long)
asked_by long None o e so = absurd (true≢false (sym so))
asked_by long (Some (done ending)) o e so = absurd (true≢false (sym so))
asked_by long (Some (ask asked next)) o e so = (asked, next, e, are_same long (is_long asked) so)

pub attempts_are_asked : {F B : Type 0} → AttemptsAreAsked F B
attempts_are_asked run long own so = asked_by long (open_call own) (open_call own) refl so

made_by : (long : Bool) (left o : List (List ℕ)) → o ≡ left → tells_so long left ≡ true → (told : List ℕ) × (later : List (List ℕ)) × (o ≡ told ∷ later) × (is_long told ≡ long)
made_by long [] o e so = absurd (true≢false (sym so))
made_by long (told ∷ later) o e so = (told, later, e, are_same long (is_long told) so)

pub notices_are_made : {F B : Type 0} → NoticesAreMade F B
notices_are_made run long inst own so = made_by long (untold run.setup own) (untold run.setup own) refl so
