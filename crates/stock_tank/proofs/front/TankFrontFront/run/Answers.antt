use Rattle.std.proofs.Common.{false, ◌^◌, ◌<◌, pos, FitsSigned, sym, subst, rules}
use Rattle.std.specs.Int.{w64}
use Rattle.std.proofs.lemmas.Bool.{and_parts}
use Rattle.plug_api.specs.Ports.{ports_of}
use Rattle.plug_api.proofs.Lent.{events_spelled, audio_sounds}
use Rattle.stock_tank.specs.Playing.{AreTimed}
use Rattle.stock_tank.proofs.Given.{Reads, timed_given, can_play}
use Rattle.stock_tank.proofs.Ran.{Found, Wrote, heard_through, tank_ran}
use Rattle.stock_tank.proofs.front.TankFrontFront.run.Goals as goal

pub events-requires-clause-atom : goal.events-requires-clause-atom
events-requires-clause-atom g c =
    let ports = and_parts _ _ (and_parts _ _ c.requires.fits).0 in events_spelled c.args.ports.now 0 c.requires.lent ports.0

pub play-from-requires-clause-can : goal.play-from-requires-clause-can
play-from-requires-clause-can g c =
    let ports = and_parts _ _ c.requires.fits in can_play c.args.ports.now c.requires.lent (and_parts _ _ ports.0).1 ports.1

pub play-from-requires-clause-times : goal.play-from-requires-clause-times
play-from-requires-clause-times g c =
    let lent = c.args.ports.now in
    let ports = and_parts _ _ c.requires.fits in
    let reads : Reads lent c.args.self.now.key c.events.result.bytes.now c.of-requests.result =
    record { lends = c.requires.lent; port = (and_parts _ _ ports.0).0; bytes_are = c.events.ensures.sequence; reads = c.of-requests.ensures } in
    let whole = (c.requires.lent.outputs.sounds 2 (audio_sounds false (ports_of lent) 2 ports.1)).whole in
    subst (λ n. AreTimed (pos 0) n c.of-requests.result) (sym whole) (timed_given lent c.args.self.now.key c.events.result.bytes.now c.of-requests.result reads)

pub returns-clause-ran : goal.returns-clause-ran
returns-clause-ran g c =
    let lent = c.args.ports.now in
    let front = c.args.self.now in
    let last = c.play-from.new.self in
    let mid = c.play-from.new.ports in
    let new = c.hear.new.ports in
    let requests = c.of-requests.result in
    let bytes = c.events.result.bytes.now in
    let ports = and_parts _ _ c.requires.fits in
    let atoms = and_parts _ _ ports.0 in
    let reads : Reads lent front.key bytes requests =
    record { lends = c.requires.lent; port = atoms.0; bytes_are = c.events.ensures.sequence; reads = c.of-requests.ensures } in
    let small : c.args.self.now.key < 2 ^ 32 = search rules in
    let level : FitsSigned w64 c.args.self.now.level.0 = search rules in
    let found : Found lent front bytes requests = record { reads = reads; tells = atoms.1; heard = ports.1; small = small; level = level } in
    let wrote : Wrote lent mid new front last c.play-from.result c.frames-to.result requests c.to_sample.result = record {
      played = c.play-from.ensures.played;
      level = c.play-from.ensures.level;
      reached = c.play-from.ensures.from;
      whole = c.frames-to.ensures.frames;
      sample_is = c.to_sample.ensures;
      outputs = heard_through mid c.frames-to.new.ports new c.play-from.result c.frames-to.result c.to_sample.result c.frames-to.ensures.same
          c.frames-to.ensures.same_loan c.hear.ensures.outputs;
    } in
    tank_ran g.S.Sched.went front last lent mid new c.args.sched.now c.play-from.new.sched c.play-from.result c.frames-to.result bytes requests
    c.to_sample.result found wrote c.play-from.ensures.told
