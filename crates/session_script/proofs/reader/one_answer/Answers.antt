use Rattle.session_script.proofs.Laws as laws
use Rattle.session_script.proofs.reader.one_answer.Goals as goal

pub returns-clause-session : goal.returns-clause-session
returns-clause-session c = laws.one_session

pub returns-clause-line : goal.returns-clause-line
returns-clause-line c = laws.one_line

pub returns-clause-limit : goal.returns-clause-limit
returns-clause-limit c = laws.one_limit

pub returns-clause-no_line : goal.returns-clause-no_line
returns-clause-no_line c = laws.no_line

pub returns-clause-no_limit : goal.returns-clause-no_limit
returns-clause-no_limit c = laws.no_limit

pub returns-clause-line_first : goal.returns-clause-line_first
returns-clause-line_first c = laws.line_first
