use Rattle.std.proofs.Common.{◌∙◌, refl, ap, sym}
use Rattle.triple_store.specs.declared.term.Term.TheVariants as terms
use Rattle.turtle_document.specs.Vocabulary.{rdf_lang_string}
use Rattle.turtle_document.specs.Machine.Move.{to}
use Rattle.turtle_grammar.specs.Value.{tag_of}
use Rattle.turtle_read.specs.Faults.{leaf_of}
use Rattle.turtle_read.specs.Moves as moves
use Rattle.turtle_read.specs.Readers.{config_of, inside}
use Rattle.turtle_read.proofs.Moves as laws
use Rattle.turtle_read.proofs.Stops.{follows_as}
use Rattle.turtle_read.proofs.reader.Reader.after_string.Goals as goal

pub returns-in-LanguageTag-clause-moves : goal.returns-in-LanguageTag-clause-moves
returns-in-LanguageTag-clause-moves c =
    follows_as c.args.token.at c.tagged_by.result _ _ _ _ (ap (λ k. moves.after_string k (leaf_of c.args.token) c.args.text c.args.at c.args.hole c.args.self.now.outer (inside c.args.self.now)) c.in-LanguageTag.is
    ∙ laws.string_tag (leaf_of c.args.token) c.args.text c.args.at c.args.hole c.args.self.now.outer (inside c.args.self.now) (tag_of c.args.token.text.now) (terms.Literal c.args.text rdf_lang_string (tag_of c.args.token.text.now)) refl refl)
    (c.tagged_by.ensures.moves c.args.token.at)

pub returns-in-DoubleCaret-clause-moves : goal.returns-in-DoubleCaret-clause-moves
returns-in-DoubleCaret-clause-moves c =
    ap (λ k. moves.after_string k (leaf_of c.args.token) c.args.text c.args.at c.args.hole c.args.self.now.outer (inside c.args.self.now)) c.in-DoubleCaret.is
    ∙ laws.string_caret (leaf_of c.args.token) c.args.text c.args.at c.args.hole c.args.self.now.outer (inside c.args.self.now)
    ∙ ap (λ s. to (config_of s) (inside s)) (sym c.expect.ensures)
