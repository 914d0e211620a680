use Rattle.std.proofs.Common.{◌≡◌, ◌<◌, List, [], ◌∷◌, ◌++◌, length, get_or, sym, ap, ◌∙◌, arith}
use Rattle.std.proofs.lemmas.List.{get_or-map, length-map}
use Rattle.session_script.specs.declared.session.Inst.{Inst}
use Rattle.step_law.specs.declared.actor.Actor.TheVariants.{Control}
use Rattle.step_law.specs.declared.call.Call.TheVariants.{Make}
use Rattle.step_record.specs.Entry.{begin_of, end_of}
use Rattle.replay_core.specs.Run.{moment_of}
use Rattle.replay_core.specs.Signals.{uris_of, uri_at}
use Rattle.replay_core.proofs.RunLemmas.{steps-called, put-next, uris-push, stock-at}
use Rattle.replay_core.proofs.run.Run.make.Goals as goal

pub returns-clause-plays : goal.returns-clause-plays
returns-clause-plays g c =
    let run = c.args.self.now in
    let s = c.args.session.now in
    let i = c.args.inst in
    let fronts = run.fronts.items in
    let inst = c.index-as_slice-inst.result in
    let make = g.C.Codes.make_of in
    let made : c.in_ok-front.front ≡ make (uri_at s i) = c.in_ok-front.ensures ∙ ap (λ (insts : List Inst). make (get_or insts i inst).uri) c.as_slice.ensures ∙ ap make (sym (get_or-map (λ (inst : Inst). inst.uri) s.insts i inst [] c.requires.there)) in
    let there : length fronts < length (uris_of s) = omega (arith, length-map s.insts (λ (inst : Inst). inst.uri), c.requires.next, c.requires.there) in
    let uri = ap g.C.Front.Front.uri_of made ∙ g.met.C.Codes.made_of (uri_at s i) (stock-at s i inst c.requires.playable c.requires.there) ∙ ap (uri_at s) (sym c.requires.next) in
    record {
      steps = steps-called run.steps c.push.new.self c.push-3.new.self c.begin.result c.end.result (begin_of Control Make i) (end_of Control Make i) c.in_ok-push.ensures.ok c.in_ok-push-3.ensures.ok c.begin.ensures c.end.ensures;
      moment = ap (λ (fronts : List g.row.C-Front.Denot). record (moment_of run) { fronts = fronts }) (c.in_ok-push-2.ensures.items ∙ ap (λ (f : g.row.C-Front.Denot). fronts ++ f ∷ []) made ∙ sym (put-next fronts i (make (uri_at s i)) c.requires.next));
      running = record {
        fronts = rw c.in_ok-push-2.ensures.items (uris-push g.C.Front.Front.uri_of s fronts c.in_ok-front.front c.requires.running.fronts there uri);
        desk = c.requires.running.desk;
      };
    }
