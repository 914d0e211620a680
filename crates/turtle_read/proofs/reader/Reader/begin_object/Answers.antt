use Rattle.std.specs.Option.{option_map}
use Rattle.turtle_value.specs.Quotings.{quoting_of}
use Rattle.std.proofs.Common.{ap, sym, ◌∙◌}
use Rattle.turtle_document.specs.Machine.Move.{to}
use Rattle.turtle_read.specs.Faults.{leaf_of}
use Rattle.turtle_read.specs.Readers.{config_of, inside}
use Rattle.turtle_read.proofs.Moves as laws
use Rattle.turtle_read.proofs.Stops.{follows_as}
use Rattle.turtle_read.proofs.reader.Reader.begin_object.Goals as goal

pub returns-in_ok-text-in-Some-clause-moves : goal.returns-in_ok-text-in-Some-clause-moves
returns-in_ok-text-in-Some-clause-moves c =
    laws.quoted c.args.token.kind c.in-Some.quotes c.args.hole (leaf_of c.args.token) c.args.self.now.outer (inside c.args.self.now) c.in_ok-text-in-Some.text (ap (option_map quoting_of) (sym c.in-Some.is) ∙ c.quotes_of.ensures) c.in_ok-text-in-Some.ensures ∙ ap (λ s. to (config_of s) (inside s)) (sym c.expect.ensures)

pub returns-in-None-clause-moves : goal.returns-in-None-clause-moves
returns-in-None-clause-moves c =
    follows_as c.args.token.at c.begin_short.result _ _ _ _ (laws.not_quoted c.args.token.kind c.args.hole (leaf_of c.args.token) c.args.self.now.outer (inside c.args.self.now) (ap (option_map quoting_of) (sym c.in-None.is) ∙ c.quotes_of.ensures)) c.begin_short.ensures.moves
