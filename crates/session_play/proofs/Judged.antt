-- Each record is lawful with its values, or has one first violation.
use Rattle.session_play.specs.Laws.{IsLawfulOrBroken, IsBrokenOnce, IsLawfulOnly}
use Rattle.session_play.specs.Rules.{judging}
use Rattle.session_play.proofs.Verdicts.{has_some_verdict, has_one_violation, lawful_has_none}

pub is_lawful_or_broken : {F B : Type 0} → IsLawfulOrBroken F B
is_lawful_or_broken run steps = has_some_verdict (judging run) steps

pub is_broken_once : {F B : Type 0} → IsBrokenOnce F B
is_broken_once run steps line other broken also = has_one_violation (judging run) steps line other broken also

pub is_lawful_only : {F B : Type 0} → IsLawfulOnly F B
is_lawful_only run steps line broken = lawful_has_none (judging run) steps line broken
