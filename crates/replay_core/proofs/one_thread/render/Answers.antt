use Rattle.replay_core.specs.Play.{meaning_of}
use Rattle.replay_core.proofs.RunLemmas.{outcome-of}
use Rattle.replay_core.proofs.one_thread.render.Goals as goal

pub returns : goal.returns
returns g c =
    let code = meaning_of g.C.Codes.make_of g.C.Front.Front.activate_of g.C.Front.Front.run_of g.C.Front.Front.deactivate_of in
    outcome-of code g.C.Front.Front.uri_of c.args.session.now c.in_ok-run.run' c.play_whole.new.self c.ended.result
    c.in_ok-run.ensures.steps c.in_ok-run.ensures.moment c.in_ok-play_whole.ensures.plays c.in_ok-play_whole.ensures.made
    c.ended.ensures.steps c.ended.ensures.pcm c.ended.ensures.summary
