use Rattle.replay_core.proofs.DeskLemmas.{new-signals, new-ready}
use Rattle.replay_core.proofs.desk.Desk.silence.Goals as goal

pub returns-clause-silent : goal.returns-clause-silent
returns-clause-silent c =
    let s = c.args.session.now in
    new-signals s c.args.self.now c.silence.new.self _ c.requires (c.silence.ensures.as_new s.block c.requires.whole)

pub returns-clause-ready : goal.returns-clause-ready
returns-clause-ready c =
    let s = c.args.session.now in
    let desk = c.args.self.now in
    new-ready s desk c.silence.new.self c.requires (new-signals s desk c.silence.new.self _ c.requires (c.silence.ensures.as_new s.block c.requires.whole))
