use Rattle.std.proofs.Common.{◌∙◌}
use Rattle.std.proofs.Math.Bridge.{le_prop}
use Rattle.std.proofs.Math.Logic.{∥∥₁_elim}
use Rattle.atom_core.proofs.Readings.{header_long, says}
use Rattle.atom_core.proofs.view.AtomView.kind.Goals as goal

pub u32_at-requires : goal.u32_at-requires
u32_at-requires c = ∥∥₁_elim c.args.self.now.spelled le_prop (λ a. header_long c.args.self.now.bytes.now a.0 a.1)

pub returns-clause-value : goal.returns-clause-value
returns-clause-value c = λ v spells. c.u32_at.ensures ∙ (says c.args.self.now.bytes.now v spells).kind
