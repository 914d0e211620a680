use Rattle.std.proofs.Common.{◌<◌, ◌≤◌, List, ℕ, length, sym, ap, subst, ◌∙◌, arith, rules}
use Rattle.std.proofs.Math.Bridge.{le_prop}
use Rattle.std.proofs.Math.Logic.{∥∥₁_elim}
use Rattle.atom_core.specs.Answer.{IsAtom}
use Rattle.atom_core.specs.Spelling.{kind_of, body_of}
use Rattle.atom_forge.proofs.Pieces.{framed-length}
use Rattle.atom_forge.specs.Forged.{Forged}
use Rattle.plug_api.proofs.Given.{events_given}
use Rattle.plug_api.proofs.ports.Ports.events.Goals as goal

some : (bytes : List ℕ) → ∥ IsAtom bytes ∥₁ → 1 ≤ length bytes
some bytes is = ∥∥₁_elim is le_prop (λ a. omega (arith, ap length a.1.bytes_are, framed-length (kind_of a.0) (body_of a.0)))

pub view-requires-clause-one : goal.view-requires-clause-one
view-requires-clause-one c = subst (λ (f : Forged). 0 < length f.bytes) (sym c.forge-forge.ensures) (omega (arith, some _ c.requires.atom))

pub returns-clause-signal : goal.returns-clause-signal
returns-clause-signal c = λ numbered there. search (rules, events_given)
