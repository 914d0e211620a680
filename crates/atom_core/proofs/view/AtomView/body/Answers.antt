use Rattle.std.proofs.Common.{◌∙◌}
use Rattle.std.proofs.Math.Bridge.{le_prop}
use Rattle.std.proofs.Math.Logic.{∥∥₁_elim}
use Rattle.atom_core.proofs.Readings.{header_long, says}
use Rattle.atom_core.proofs.view.AtomView.body.Goals as goal

pub behind-requires : goal.behind-requires
behind-requires c = ∥∥₁_elim c.args.self.now.spelled le_prop (λ a. header_long c.args.self.now.bytes.now a.0 a.1)

pub returns-clause-value : goal.returns-clause-value
returns-clause-value c = λ v spells. c.behind.ensures ∙ (says c.args.self.now.bytes.now v spells).body
