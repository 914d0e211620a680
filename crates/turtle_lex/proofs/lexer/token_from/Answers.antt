use Rattle.turtle_grammar.specs.Tokens.Answer.{next as token_next, end as text_end}
use Rattle.turtle_lex.proofs.Assembly.{gap_found, answered, token_answer, fault_answer}
use Rattle.turtle_lex.proofs.lexer.token_from.Goals as goal

pub char_at-requires : goal.char_at-requires
char_at-requires c =
    (gap_found c.args.text.now c.args.from c.gap_end-at.result c.requires c.gap_end-at.ensures).place

pub found_at-requires-clause-place : goal.found_at-requires-clause-place
found_at-requires-clause-place c =
    (gap_found c.args.text.now c.args.from c.gap_end-at.result c.requires c.gap_end-at.ensures).place

pub returns-in-None-clause-value : goal.returns-in-None-clause-value
returns-in-None-clause-value c =
    answered c.args.text.now c.args.from c.gap_end-at.result text_end (gap_found c.args.text.now c.args.from c.gap_end-at.result c.requires c.gap_end-at.ensures) c.in-None.ensures

pub returns-in-Ok-clause-place : goal.returns-in-Ok-clause-place
returns-in-Ok-clause-place c =
    c.in-Ok.ensures.3

pub returns-in-Ok-clause-value : goal.returns-in-Ok-clause-value
returns-in-Ok-clause-value c =
    answered c.args.text.now c.args.from c.gap_end-at.result (token_next (record { kind = c.in-Ok.kind; at = c.gap_end-at.result; upto = c.in-Ok.upto })) (gap_found c.args.text.now c.args.from c.gap_end-at.result c.requires c.gap_end-at.ensures) (token_answer c.args.text.now c.gap_end-at.result c.in-Ok.kind c.in-Ok.upto c.in-Ok.ensures)

pub returns-in-Err-clause-value : goal.returns-in-Err-clause-value
returns-in-Err-clause-value c =
    fault_answer c.args.text.now c.args.from c.gap_end-at.result c.in-Err.stop c.fault_of.result c.fault_of.ensures (gap_found c.args.text.now c.args.from c.gap_end-at.result c.requires c.gap_end-at.ensures) c.in-Err.ensures
