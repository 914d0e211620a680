use Rattle.std.proofs.Common.{ap, sym, ◌∙◌}
use Rattle.triple_store.proofs.SameTerm.{copy_of_term}
use Rattle.turtle_read.specs.Moves as moves
use Rattle.turtle_read.specs.Readers.{inside}
use Rattle.turtle_read.proofs.Stops.{gives_as}
use Rattle.turtle_read.proofs.Bounds.{term_as}
use Rattle.turtle_read.proofs.reader.Reader.add_of.Goals as goal

pub returns-clause-value : goal.returns-clause-value
returns-clause-value c =
    gives_as _ c.add.result _ _
    (ap (λ x. moves.add c.args.at x c.args.predicate.now c.args.term (inside c.args.self.now)) (sym (copy_of_term c.args.subject.now c.in_ok-s.s c.in_ok-s.ensures.cases))
    ∙ ap (λ x. moves.add c.args.at c.in_ok-s.s x c.args.term (inside c.args.self.now)) (sym (copy_of_term c.args.predicate.now c.in_ok-p.p c.in_ok-p.ensures.cases)))
    c.add.ensures.value

pub add-requires-clause-s : goal.add-requires-clause-s
add-requires-clause-s c = term_as _ c.args.subject.now c.in_ok-s.s (copy_of_term c.args.subject.now c.in_ok-s.s c.in_ok-s.ensures.cases) c.requires.subject

pub add-requires-clause-p : goal.add-requires-clause-p
add-requires-clause-p c = term_as _ c.args.predicate.now c.in_ok-p.p (copy_of_term c.args.predicate.now c.in_ok-p.p c.in_ok-p.ensures.cases) c.requires.predicate
