use Rattle.std.proofs.Common.{◌≡◌, ◌+◌, ◌<◌, ◌^◌, length, None, sym, subst, ◌∙◌, arith}
use Rattle.record_law.specs.Message.{History}
use Rattle.record_law.specs.Protocol.{follow_in}
use Rattle.record_law.specs.Rules.{first_broken}
use Rattle.record_rules.specs.Counts.{IsFollowing}
use Rattle.record_order.specs.Queues.{AreQueues}
use Rattle.order_base.proofs.Sessions.{session_keeps}
use Rattle.record_legal.proofs.Keeping.{names_take, names_send, finds, fits, following, has_about, goes_as, about_there, meant_as, noted_as}
use Rattle.record_legal.proofs.judge.Judge.follow_formed.Goals as goal

pub brought-brought-requires : goal.brought-brought-requires
brought-brought-requires c = names_take c.args.shape.now c.args.self.now.queues.queues.items c.args.entry c.requires.form c.requires.judge.count

pub step-follows-requires-clause-limits : goal.step-follows-requires-clause-limits
step-follows-requires-clause-limits c = session_keeps c.args.shape.now c.requires.session

pub note-requires-clause-sends : goal.note-requires-clause-sends
note-requires-clause-sends c = names_send c.args.shape.now c.args.self.now.queues.queues.items c.args.entry c.requires.form c.requires.judge.count

pub note-requires-clause-takes : goal.note-requires-clause-takes
note-requires-clause-takes c = names_take c.args.shape.now c.args.self.now.queues.queues.items c.args.entry c.requires.form c.requires.judge.count

pub note-requires-clause-room : goal.note-requires-clause-room
note-requires-clause-room c =
    let h : History = c.requires.judged.0 in let few : length h < 2 ^ 63 = c.requires.judged.1 in let was = c.requires.judged.2 in
    let follows : IsFollowing c.args.shape.now h c.args.entry c.step-follows.result =
    following c.step-follows.result (follow_in c.args.shape.now h c.args.entry) (c.step-follows.ensures.goes.says h (omega arith) was.tracker (c.brought-brought.ensures.brought h was.queues)) in
    let none : first_broken c.args.shape.now h c.args.entry ≡ None = sym (c.judge.ensures.broken h was.counts follows) ∙ c.in-None.is in
    fits c.args.shape.now h c.args.self.now.queues.queues.items c.args.entry none was.queues c.requires.judge.room

pub note-requires-clause-finds : goal.note-requires-clause-finds
note-requires-clause-finds c =
    let h : History = c.requires.judged.0 in let few : length h < 2 ^ 63 = c.requires.judged.1 in let was = c.requires.judged.2 in
    let follows : IsFollowing c.args.shape.now h c.args.entry c.step-follows.result =
    following c.step-follows.result (follow_in c.args.shape.now h c.args.entry) (c.step-follows.ensures.goes.says h (omega arith) was.tracker (c.brought-brought.ensures.brought h was.queues)) in
    let none : first_broken c.args.shape.now h c.args.entry ≡ None = sym (c.judge.ensures.broken h was.counts follows) ∙ c.in-None.is in
    finds c.args.shape.now h c.args.self.now.queues.queues.items c.args.entry none was.queues

pub returns-in-Some-clause-broken : goal.returns-in-Some-clause-broken
returns-in-Some-clause-broken c = λ h few was.
    let follows : IsFollowing c.args.shape.now h c.args.entry c.step-follows.result =
    following c.step-follows.result (follow_in c.args.shape.now h c.args.entry) (c.step-follows.ensures.goes.says h (omega (arith, few)) was.tracker (c.brought-brought.ensures.brought h was.queues)) in
    sym c.in-Some.is ∙ c.judge.ensures.broken h was.counts follows

pub returns-in-None-clause-broken : goal.returns-in-None-clause-broken
returns-in-None-clause-broken c = λ h few was.
    let follows : IsFollowing c.args.shape.now h c.args.entry c.step-follows.result =
    following c.step-follows.result (follow_in c.args.shape.now h c.args.entry) (c.step-follows.ensures.goes.says h (omega (arith, few)) was.tracker (c.brought-brought.ensures.brought h was.queues)) in
    sym c.in-None.is ∙ c.judge.ensures.broken h was.counts follows

pub returns-in-None-clause-about : goal.returns-in-None-clause-about
returns-in-None-clause-about c = λ h few was.
    let follows : IsFollowing c.args.shape.now h c.args.entry c.step-follows.result =
    following c.step-follows.result (follow_in c.args.shape.now h c.args.entry) (c.step-follows.ensures.goes.says h (omega (arith, few)) was.tracker (c.brought-brought.ensures.brought h was.queues)) in
    let kept : first_broken c.args.shape.now h c.args.entry ≡ None = sym (c.judge.ensures.broken h was.counts follows) ∙ c.in-None.is in
    let about = has_about c.args.shape.now h c.args.entry c.step-follows.result kept follows in
    sym (meant_as c.args.shape.now h c.args.entry c.step-follows.result c.unwrap_or-about.result about.0 follows about.1 c.unwrap_or-about.ensures)

pub returns-in-None-clause-there : goal.returns-in-None-clause-there
returns-in-None-clause-there c =
    about_there c.args.shape.now c.step-follows.result c.unwrap_or-about.result c.step-follows.ensures.about c.unwrap_or-about.ensures

pub returns-in-None-clause-judge : goal.returns-in-None-clause-judge
returns-in-None-clause-judge c = record {
  tracker = c.step-follows.ensures.tracker;
  count = c.note.ensures.count ∙ c.requires.judge.count;
  room = c.note.ensures.room (c.args.shape.now.cells + 2) c.requires.judge.room;
  there = c.note.ensures.there c.args.shape.now (about_there c.args.shape.now c.step-follows.result c.unwrap_or-about.result c.step-follows.ensures.about c.unwrap_or-about.ensures) c.requires.judge.there;
}

pub returns-in-None-clause-judged : goal.returns-in-None-clause-judged
returns-in-None-clause-judged c = λ h few was.
    let brought = c.brought-brought.ensures.brought h was.queues in
    let follows : IsFollowing c.args.shape.now h c.args.entry c.step-follows.result =
    following c.step-follows.result (follow_in c.args.shape.now h c.args.entry) (c.step-follows.ensures.goes.says h (omega (arith, few)) was.tracker brought) in
    let kept : first_broken c.args.shape.now h c.args.entry ≡ None = sym (c.judge.ensures.broken h was.counts follows) ∙ c.in-None.is in
    let about = has_about c.args.shape.now h c.args.entry c.step-follows.result kept follows in
    record {
      tracker = goes_as c.args.shape.now c.args.self.now.tracker c.step-follows.new.self c.brought-brought.result c.args.entry c.step-follows.result about.0 about.1 c.step-follows.ensures.goes h (omega (arith, few)) was.tracker brought;
      queues = subst (λ (it : History). AreQueues c.note.new.self.queues.items it)
          (noted_as c.args.shape.now h c.args.entry c.step-follows.result c.unwrap_or-about.result about.0 follows about.1 c.unwrap_or-about.ensures) (c.note.ensures.noted h was.queues);
      counts = c.judge.ensures.kept h c.in-None.is few was.counts follows;
    }
