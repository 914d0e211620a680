use Rattle.std.proofs.Common.{◌∙◌, refl, ap, sym}
use Rattle.turtle_document.specs.Machine.Move.{to}
use Rattle.turtle_read.specs.Faults.{leaf_of}
use Rattle.turtle_read.specs.Moves as moves
use Rattle.turtle_read.specs.Readers.{config_of, inside}
use Rattle.turtle_read.proofs.Moves as laws
use Rattle.turtle_read.proofs.reader.Reader.at_prefix.Goals as goal

pub returns-in_ok-prefix-in-Namespace-clause-moves : goal.returns-in_ok-prefix-in-Namespace-clause-moves
returns-in_ok-prefix-in-Namespace-clause-moves c =
    ap (λ k. moves.at_prefix k (leaf_of c.args.token) c.args.dot c.args.self.now.outer (inside c.args.self.now)) c.in-Namespace.is
    ∙ laws.prefix_namespace (leaf_of c.args.token) c.args.dot c.args.self.now.outer (inside c.args.self.now) c.in_ok-prefix-in-Namespace.prefix (c.in_ok-prefix-in-Namespace.ensures ∙ c.prefix_text.ensures)
    ∙ ap (λ s. to (config_of s) (inside s)) (sym c.expect.ensures)

pub returns-in_default-clause-moves : goal.returns-in_default-clause-moves
returns-in_default-clause-moves c =
    (refl, laws.prefix_other c.args.token.kind (leaf_of c.args.token) c.args.dot c.args.self.now.outer (inside c.args.self.now) c.in_default.not-Namespace)
