-- What a judge keeps of a history that broke no rule.
use Rattle.std.specs.Prelude.{◌≡◌, ◌+◌, ◌*◌, ◌<◌, ◌^◌, length}
use Rattle.step_law.specs.declared.entry.Entry.{Entry}
use Rattle.record_law.specs.declared.shape.Shape.{Shape}
use Rattle.record_law.specs.Message.{History}
use Rattle.record_law.specs.Protocol.{about_in, follow_in}
use Rattle.record_terms.specs.declared.message.Message.{Message}
use Rattle.record_terms.specs.Message.{meaning_of}
use Rattle.record_order.specs.Queues.{AreQueues, AreThere, HaveRoom}
use Rattle.record_order.specs.Tracked.{IsTracker, Stands}
use Rattle.record_rules.specs.Counts.{TellsCounts}
use Rattle.record_legal.specs.declared.judge.Judge.{Judge}

-- it is one of this session: each actor has its tracker, and each ring a queue with room for all that a record may show
pub record IsJudge (s : Shape) (judge : Judge) : Type 0 where
  pub tracker : IsTracker s judge.tracker
  pub count : length judge.queues.queues.items ≡ 18 + 3 * length s.insts
  pub room : HaveRoom (s.cells + 2) judge.queues.queues.items
  pub there : AreThere s judge.queues.queues.items

-- what it keeps is of this history
pub record Judged (s : Shape) (h : History) (judge : Judge) : Type 0 where
  pub tracker : Stands s judge.tracker h
  pub queues : AreQueues judge.queues.queues.items h
  pub counts : TellsCounts s h judge.counts

-- what it keeps is of some history
abbrev pub HasJudged : Shape → Judge → Type 0
HasJudged s judge = (h : History) × (length h < 2 ^ 63) × Judged s h judge

-- by the order of work, an entry that comes after a history is about this
abbrev pub IsAbout : Shape → History → Entry → Message → Type 0
IsAbout s h e about = about_in (follow_in s h e) ≡ meaning_of about
