use Rattle.std.proofs.Common.{ℕ, List, refl, subst, ◌∙◌}
use Rattle.turtle_document.specs.Answer.{IsReadAs}
use Rattle.turtle_lex.specs.Reading.{IsBegun}
use Rattle.turtle_read.specs.Answers.{Tells}
use Rattle.turtle_read.specs.Readers.{config_of, inside}
use Rattle.turtle_read.specs.Tokens.{leaf_in}
use Rattle.turtle_read.proofs.Bounds.{counted_first, counted_next, counted_room, counted_on}
use Rattle.turtle_read.proofs.Taken.{at_first, is_token, further, at_next, stops_at, breaks, is_document, ends_early, told_on, steps_as, ended}
use Rattle.turtle_read.proofs.document.take_tokens.Goals as goal

pub loop-token-init : goal.loop-token-init
loop-token-init c =
    let P : List ℕ → Type 0 = λ bytes. IsBegun bytes c.new-lexer.result in (
      at_first c.args.text.now c.new-lexer.result (config_of c.args.reader.now) (inside c.args.reader.now) c.utf8.text (subst P c.as_bytes.ensures.value c.new-lexer.ensures) c.requires.next c.requires.outer,
      refl,
      counted_first c.requires.begun.0 c.requires.begun.1 (config_of c.args.reader.now) (inside c.args.reader.now) c.requires.next c.requires.outer c.requires.begun.2 c.requires.begun.3,
    )

pub returns-in_err-token-clause-err : goal.returns-in_err-token-clause-err
returns-in_err-token-clause-err c =
    told_on (Tells (IsReadAs (inside c.args.reader.now) c.args.text.now)) c.from_residual.result _ c.from_residual.ensures.1
    (breaks (inside c.args.reader.now) c.args.text.now c.loop-token.lexer (config_of c.loop-token.reader) (inside c.loop-token.reader) c.in_err-token.field-0.0 c.next.new.lexer c.loop-token.invariant.0 c.in_err-token.ensures.steps)

pub returns-in_err-token-clause-kept : goal.returns-in_err-token-clause-kept
returns-in_err-token-clause-kept c = c.loop-token.invariant.1

pub take_token-requires-clause-token : goal.take_token-requires-clause-token
take_token-requires-clause-token c =
    is_token (inside c.args.reader.now) c.args.text.now c.loop-token.lexer (config_of c.loop-token.reader) (inside c.loop-token.reader) c.in-Some.token c.next.new.lexer c.loop-token.invariant.0
    (steps_as c.loop-token.lexer c.next.new.lexer _ _ c.in-Some.is c.in_ok-token.ensures.steps)

pub take_token-requires-clause-next : goal.take_token-requires-clause-next
take_token-requires-clause-next c = counted_next (config_of c.loop-token.reader) (inside c.loop-token.reader) c.loop-token.reader.environment.room c.loop-token.invariant.2

pub take_token-requires-clause-room : goal.take_token-requires-clause-room
take_token-requires-clause-room c = counted_room (config_of c.loop-token.reader) (inside c.loop-token.reader) c.loop-token.reader.environment.room c.loop-token.invariant.2

pub loop-token-smaller : goal.loop-token-smaller
loop-token-smaller c =
    further (inside c.args.reader.now) c.args.text.now c.loop-token.lexer (config_of c.loop-token.reader) (inside c.loop-token.reader) c.in-Some.token c.next.new.lexer c.loop-token.invariant.0
    (steps_as c.loop-token.lexer c.next.new.lexer _ _ c.in-Some.is c.in_ok-token.ensures.steps)

pub loop-token-preserved : goal.loop-token-preserved
loop-token-preserved c = (
  at_next (inside c.args.reader.now) c.args.text.now c.loop-token.lexer (config_of c.loop-token.reader) (inside c.loop-token.reader) c.in-Some.token c.next.new.lexer
      (config_of c.take_token.new.reader) (inside c.take_token.new.reader) c.loop-token.invariant.0
      (steps_as c.loop-token.lexer c.next.new.lexer _ _ c.in-Some.is c.in_ok-token.ensures.steps) c.in_ok-take_token.ensures.moves,
  c.in_ok-take_token.ensures.kept ∙ c.loop-token.invariant.1,
  counted_on (config_of c.loop-token.reader) c.in-Some.token.kind (leaf_in c.args.text.now c.in-Some.token) (inside c.loop-token.reader)
      (config_of c.take_token.new.reader) (inside c.take_token.new.reader) c.loop-token.invariant.2 c.in_ok-take_token.ensures.moves,
)

pub returns-in_err-take_token-clause-err : goal.returns-in_err-take_token-clause-err
returns-in_err-take_token-clause-err c =
    told_on (Tells (IsReadAs (inside c.args.reader.now) c.args.text.now)) c.from_residual-in_err-take_token.result _ c.from_residual-in_err-take_token.ensures.1
    (stops_at (inside c.args.reader.now) c.args.text.now c.loop-token.lexer (config_of c.loop-token.reader) (inside c.loop-token.reader) c.in-Some.token c.next.new.lexer c.in_err-take_token.field-0.0 c.loop-token.invariant.0
    (steps_as c.loop-token.lexer c.next.new.lexer _ _ c.in-Some.is c.in_ok-token.ensures.steps) c.in_err-take_token.ensures.moves)

pub returns-in_err-take_token-clause-kept : goal.returns-in_err-take_token-clause-kept
returns-in_err-take_token-clause-kept c = c.in_err-take_token.ensures.kept ∙ c.loop-token.invariant.1

pub returns-in-Statement-clause-ok : goal.returns-in-Statement-clause-ok
returns-in-Statement-clause-ok c =
    is_document (inside c.args.reader.now) c.args.text.now c.loop-token.lexer (config_of c.loop-token.reader) (inside c.loop-token.reader) c.next.new.lexer c.loop-token.invariant.0
    (ended c.loop-token.lexer c.next.new.lexer _ c.in_default.not-Some c.in_ok-token.ensures.steps) c.in-Statement.is

pub returns-in-Statement-clause-kept : goal.returns-in-Statement-clause-kept
returns-in-Statement-clause-kept c = c.loop-token.invariant.1

pub returns-in_default-next : goal.returns-in_default-next
returns-in_default-next c =
    record {
      ok = tt;
      err = ends_early (inside c.args.reader.now) c.args.text.now c.loop-token.lexer (config_of c.loop-token.reader) (inside c.loop-token.reader) c.next.new.lexer c.loop-token.invariant.0
          (ended c.loop-token.lexer c.next.new.lexer _ c.in_default.not-Some c.in_ok-token.ensures.steps) c.in_default-next.not-Statement;
      kept = c.loop-token.invariant.1;
    }
