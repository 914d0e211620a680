use Rattle.std.proofs.Common.{not, rules, tests, ap, ◌∙◌}
use Rattle.std.specs.Str.Iter.{lines_rest}
use Rattle.std.proofs.lemmas.Iterator.{YieldsList-from_map_by}
use Rattle.std.proofs.lemmas.Iterator.Search.{position_from_yields_List}
use Rattle.std.proofs.lemmas.Iterator.Splits.{YieldsList-from_lines}
use Rattle.session_script.specs.Later.{is_playable}
use Rattle.session_script.specs.Line.{line_of}
use Rattle.session_script.specs.Said.{said}
use Rattle.session_script.specs.Words.{words}
use Rattle.session_script.proofs.later.lines_before.Goals as goal

pub returns-clause-value : goal.returns-clause-value
returns-clause-value c =
    position_from_yields_List (λ line. not (is_playable c.args.insts.now line)) _ _ _ c.position.ensures.ran
    (YieldsList-from_map_by _ said (λ line. line_of (words line)) (YieldsList-from_lines c.args.text.now (ap lines_rest c.map.ensures.source ∙ c.lines.ensures.rest))
    c.map.ensures.closure (λ x r q k. search (rules, tests)))
    (λ x b q k. search (rules, tests))
