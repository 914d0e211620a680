use Rattle.std.proofs.Common.{◌∙◌, [], refl, ap, sym}
use Rattle.triple_store.specs.declared.term.Term.TheVariants as terms
use Rattle.turtle_document.specs.Machine.{Config}
use Rattle.turtle_read.specs.Faults.{leaf_of}
use Rattle.turtle_read.specs.Moves as moves
use Rattle.turtle_read.specs.Readers.{inside}
use Rattle.turtle_read.proofs.Moves as laws
use Rattle.turtle_read.proofs.Stops.{stops_unnamed, follows_as, residual}
use Rattle.turtle_read.proofs.reader.Reader.typed_by.Goals as goal

pub returns-in_err-datatype-clause-moves : goal.returns-in_err-datatype-clause-moves
returns-in_err-datatype-clause-moves c =
    residual c.args.token.at c.from_residual.result c.in_err-datatype.field-0.0 _ _ _ c.from_residual.ensures.1
    (stops_unnamed c.args.token.at c.in_err-datatype.field-0.0 c.args.token.kind (leaf_of c.args.token) (inside c.args.self.now) _ c.in_err-datatype.ensures.err
    (laws.typed_none c.args.token.kind (leaf_of c.args.token) c.args.text c.args.hole c.args.self.now.outer (inside c.args.self.now))
    (laws.typed_fault c.args.token.kind (leaf_of c.args.token) c.args.text c.args.hole c.args.self.now.outer (inside c.args.self.now)))

pub returns-clause-moves : goal.returns-clause-moves
returns-clause-moves c =
    follows_as c.args.token.at c.fill_typed.result _ _ _ _
    (laws.typed_named c.args.token.kind (leaf_of c.args.token) c.args.text c.args.hole c.args.self.now.outer (inside c.args.self.now) c.in_ok-datatype.datatype (terms.Literal c.args.text c.in_ok-datatype.datatype []) c.in_ok-datatype.ensures.ok refl
    ∙ ap (λ st. moves.filled c.args.hole c.args.token.at (terms.Literal c.args.text c.in_ok-datatype.datatype []) c.args.self.now.outer st) (sym c.in_ok-datatype.ensures.state)
    ∙ ap (λ (x : Config). moves.filled c.args.hole c.args.token.at (terms.Literal c.args.text c.in_ok-datatype.datatype []) x.outer (inside c.datatype.new.self)) (sym c.in_ok-datatype.ensures.same))
    (c.fill_typed.ensures.moves c.args.token.at)
