-- A call of a part is a call of any kind of part.
use Rattle.std.proofs.Common.{◌≡◌, ℕ, List, [], ◌∷◌, ap, sym, subst}
use Rattle.interaction.specs.Interaction.{Interaction, done, ask}
use Rattle.interaction.specs.Attempts.{Attempt, Plays}
use Rattle.plug_api.specs.declared.ports.Ports.{Ports}
use Rattle.plug_api.specs.Inputs.{Inputs, Outputs}
use Rattle.plug_api.specs.Ports.{inputs_of}
use Rattle.plug_api.specs.Running.{Runs, Works}
use Rattle.stock_codes.specs.Wrapped.{wrapped}

plays_wrapped : {P Q X : Type 0} (wrap : P → Q) (call : Interaction (P × X)) (attempts : List Attempt) (part : P) (x : X)
    → Plays call attempts (part, x) → Plays (wrapped wrap call) attempts (wrap part, x)
plays_wrapped {P} {Q} {X} wrap (done end) [] part x plays = ap (λ (both : P × X). (wrap both.0, both.1)) plays
plays_wrapped wrap (done end) (attempt ∷ attempts) part x plays = absurd plays
plays_wrapped wrap (ask body next) [] part x plays = absurd plays
plays_wrapped wrap (ask body next) (attempt ∷ attempts) part x plays =
    (plays.0, plays_wrapped wrap (next attempt.answer) attempts part x plays.1)

pub runs_wrapped : {F G S : Type 0} (wrap : F → G) (run : F → Inputs → Interaction (F × Outputs)) (whole : G → Inputs → Interaction (G × Outputs))
    (went : S → List Attempt → S → Type 0) (front new_front : F) (lent new_lent : Ports) (sched new_sched : S)
    → whole (wrap front) (inputs_of lent) ≡ wrapped wrap (run front (inputs_of lent))
    → Runs run went front lent sched new_front new_lent new_sched
    → Runs whole went (wrap front) lent sched (wrap new_front) new_lent new_sched
runs_wrapped {F} {G} wrap run whole went front new_front lent new_lent sched new_sched is ran = (
  ran.0,
  ran.1,
  ran.2,
  subst (λ (call : Interaction (G × Outputs)). Plays call ran.0 (wrap new_front, ran.1)) (sym is)
      (plays_wrapped wrap (run front (inputs_of lent)) ran.0 new_front ran.1 ran.3),
  ran.4,
  ran.5,
)

pub works_wrapped : {B C S : Type 0} (wrap : B → C) (call : Interaction (B × ℕ)) (went : S → List Attempt → S → Type 0) (answer new_answer : S)
    (new_back : B) (status : ℕ) → Works call went answer new_back status new_answer
    → Works (wrapped wrap call) went answer (wrap new_back) status new_answer
works_wrapped wrap call went answer new_answer new_back status worked =
    (worked.0, worked.1, plays_wrapped wrap call worked.0 new_back status worked.2)
