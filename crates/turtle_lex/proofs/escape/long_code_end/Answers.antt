use Rattle.std.proofs.Common.{Ok, Err}
use Rattle.std.proofs.lemmas.Result.{err_from_is_err_and}
use Rattle.turtle_grammar.specs.Pattern.{times, char}
use Rattle.turtle_lex.specs.Enclosure.{plane_code}
use Rattle.turtle_lex.specs.declared.escape.Digit.TheVariants.{Zero}
use Rattle.turtle_lex.proofs.Inside.{inside_then, inside_stop}
use Rattle.turtle_lex.proofs.Codes.{digit_live, plane_live}
use Rattle.turtle_lex.proofs.escape.long_code_end.Goals as goal

pub returns-clause-inside : goal.returns-clause-inside
returns-clause-inside c =
    inside_then c.args.text.now c.args.from c.in_ok-third.third (times 2 (char 48)) plane_code c.plane_end.result
    (inside_then c.args.text.now c.args.from c.in_ok-second.second (char 48) (char 48) (Ok c.in_ok-third.third) c.in_ok-second.ensures.inside c.in_ok-third.ensures.inside (digit_live Zero))
    c.plane_end.ensures.inside plane_live

pub returns-in_err-third-clause-inside : goal.returns-in_err-third-clause-inside
returns-in_err-third-clause-inside c =
    let p = err_from_is_err_and c.from_residual-in_err-third.result c.from_residual-in_err-third.ensures.1 in
    rw (p.1, p.2) (inside_stop c.args.text.now c.args.from (times 2 (char 48)) plane_code c.in_err-third.field-0.0 (inside_then c.args.text.now c.args.from c.in_ok-second.second (char 48) (char 48) (Err c.in_err-third.field-0.0) c.in_ok-second.ensures.inside c.in_err-third.ensures.inside (digit_live Zero)) plane_live)

pub returns-in_err-second-clause-inside : goal.returns-in_err-second-clause-inside
returns-in_err-second-clause-inside c =
    let p = err_from_is_err_and c.from_residual.result c.from_residual.ensures.1 in
    rw (p.1, p.2) (inside_stop c.args.text.now c.args.from (times 2 (char 48)) plane_code c.in_err-second.field-0.0 (inside_stop c.args.text.now c.args.from (char 48) (char 48) c.in_err-second.field-0.0 c.in_err-second.ensures.inside (digit_live Zero)) plane_live)
