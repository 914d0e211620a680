-- Worked records, by computation.
use Rattle.std.proofs.Common.{true, false, [], ◌∷◌, ◌++◌, refl}
use Rattle.std.specs.Fmt.{digits}
use Rattle.urid_map.specs.Numbers.{with_uris}
use Rattle.atom_core.specs.Place.{number_at, wide_at}
use Rattle.atom_core.specs.Spelling.{u32, i32, i64}
use Rattle.record_law.specs.declared.shape.Broken.TheVariants.{Value}
use Rattle.record_law.specs.Case.{drop_line, double_line, put_line}
use Rattle.step_law.specs.declared.actor.Actor.TheVariants.{Audio}
use Rattle.step_law.specs.declared.ring.Ring.TheVariants.{Jobs}
use Rattle.step_law.specs.Entry.{long_of}
use Rattle.one_thread.proofs.Tests.{tests_say}
use Rattle.worked_plays.specs.Sessions.{amplified, amplified_steps, bursting, bursting_steps, empty_steps, fetching, fetching_steps, telling, telling_steps}
use Rattle.worked_plays.specs.Shows.{PlaysAs, Breaks, times, amplified_summary, empty_summary, fetching_summary, bursting_summary, telling_summary}

pub two_blocks : PlaysAs (amplified 2 false) amplified_steps (times 8 (0 ∷ 32 ∷ [])) amplified_summary
unfolding digits
two_blocks = record { one_thread = tests_say (amplified 2 false) amplified_steps refl refl; heard = refl; told = refl }

pub no_block : PlaysAs (amplified 0 false) empty_steps [] empty_summary
unfolding digits
no_block = record { one_thread = tests_say (amplified 0 false) empty_steps refl refl; heard = refl; told = refl }

pub delayed_blocks : PlaysAs (amplified 2 true) amplified_steps (times 8 (0 ∷ []) ++ times 4 (0 ∷ 32 ∷ [])) amplified_summary
unfolding digits
delayed_blocks = record { one_thread = tests_say (amplified 2 true) amplified_steps refl refl; heard = refl; told = refl }

pub three_jobs : PlaysAs fetching fetching_steps (times 4 (0 ∷ []) ++ times 2 (128 ∷ 0 ∷ []) ++ times 2 (0 ∷ 1 ∷ [])) fetching_summary
unfolding digits number_at wide_at
three_jobs = record { one_thread = tests_say fetching fetching_steps refl refl; heard = refl; told = refl }

pub a_burst : PlaysAs bursting bursting_steps [] bursting_summary
unfolding digits number_at wide_at
a_burst = record { one_thread = tests_say bursting bursting_steps refl refl; heard = refl; told = refl }

pub an_answer : PlaysAs telling telling_steps [] telling_summary
unfolding digits with_uris number_at wide_at u32 i32 i64
an_answer = record { one_thread = tests_say telling telling_steps refl refl; heard = refl; told = refl }

pub job_too_few : Breaks fetching fetching_steps (drop_line 9) 9 Value
unfolding number_at wide_at
job_too_few = refl

pub job_too_many : Breaks fetching fetching_steps (double_line 9) 10 Value
unfolding number_at wide_at
job_too_many = refl

pub job_too_long : Breaks fetching fetching_steps (put_line 9 (long_of Audio (Jobs 0))) 9 Value
unfolding number_at wide_at
job_too_long = refl

pub notice_too_few : Breaks telling telling_steps (drop_line 10) 10 Value
unfolding number_at wide_at u32 i32 i64
notice_too_few = refl

pub notice_too_many : Breaks telling telling_steps (double_line 10) 11 Value
unfolding number_at wide_at u32 i32 i64
notice_too_many = refl
