-- A part of one kind as a part of any kind.
use Rattle.interaction.specs.Interaction.{Interaction, done, ask}

-- the same call: it makes the same attempts, and ends with the same beside the part
abbrev pub wrapped : {P Q X : Type 0} → (P → Q) → Interaction (P × X) → Interaction (Q × X)
wrapped wrap (done end) = done (wrap end.0, end.1)
wrapped wrap (ask body next) = ask body (λ answer. wrapped wrap (next answer))
