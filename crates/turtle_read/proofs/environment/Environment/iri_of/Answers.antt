use Rattle.std.proofs.Common.{◌∙◌, ap, sym, subst, Some, Ok, Contains, List, ℕ}
use Rattle.indexmap.specs.IndexMap.{get}
use Rattle.std.specs.Str.{bytes_eq}
use Rattle.turtle_read.specs.States.{state_of}
use Rattle.turtle_read.proofs.Recents.{found, more_known, read_known, known}
use Rattle.turtle_read.proofs.environment.Environment.iri_of.Goals as goal

pub returns-in-Some-clause-value : goal.returns-in-Some-clause-value
returns-in-Some-clause-value c =
    found c.args.token.kind c.args.token.text.now c.in_ok-clone.field-0 c.args.token.at (state_of c.args.self.now) c.args.self.now.recent c.args.self.now.known
    (subst (λ (iri : List ℕ). Contains c.args.self.now.recent (Some (known c.args.token.kind c.args.token.text.now iri))) (sym c.in_ok-clone.ensures.cases) c.in-Some.ensures)

pub invariant_of-self-2-clause-known : goal.invariant_of-self-2-clause-known
invariant_of-self-2-clause-known c =
    more_known c.args.self.now.base (get bytes_eq c.args.self.now.prefixes) c.args.self.now.recent c.keep.new.self (known c.args.token.kind c.args.token.text.now c.in_ok-clone-2.field-0) c.args.self.now.known
    (read_known c.args.token.kind c.args.token.text.now c.in_ok-clone-2.field-0 c.args.token.at (state_of c.args.self.now) (c.in_ok-iri.ensures ∙ ap Ok c.in-Some-2.is ∙ ap (λ iri. Ok (Some iri)) (sym c.in_ok-clone-2.ensures.cases)))
    c.keep.ensures
