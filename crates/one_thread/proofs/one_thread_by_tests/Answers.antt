use Rattle.one_thread.proofs.Tests.{tests_say, tests_are_kept}
use Rattle.one_thread.proofs.one_thread_by_tests.Goals as goal

pub returns-clause-enough : goal.returns-clause-enough
returns-clause-enough g c = tests_say

pub returns-clause-needed : goal.returns-clause-needed
returns-clause-needed g c = tests_are_kept
