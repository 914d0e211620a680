-- One request more.
use Rattle.std.proofs.Common.{◌≡◌, ℕ, ◌≤◌, List, [], ◌∷◌, ◌++◌, length, ℤ, pos, to_z, of_z, sym, ap, ◌∙◌, subst, append_assoc}
use Rattle.std.specs.Int.{w64}
use Rattle.std.proofs.lemmas.Int.{to_z-of_z}
use Rattle.stock_tank.specs.declared.front.TankFront.{TankFront}
use Rattle.stock_tank.specs.Requests.{Request}
use Rattle.stock_tank.specs.Levels.{sets_in, jobs_for}
use Rattle.stock_tank.specs.Playing.{Playing, step, steps, playing, block_of, AreTimed, HasPlayed, Told}
use Rattle.stock_tank.proofs.Outputs.{played_then, now_is}
use Rattle.stock_tank.proofs.Turns.{timed_next, within_next, jobs_next, told_more}
use Rattle.stock_tank.proofs.front.TankFront.play.Goals as goal

pub loop-time-preserved : goal.loop-time-preserved
loop-time-preserved g c =
    let known = c.loop-time.invariant in
    let lent = c.args.ports.now in
    let mid = c.loop-time.ports in
    let new = c.take-from.new.ports in
    let key = c.args.self.now.key in
    let frames = length (block_of lent) in
    let now : Playing = playing c.loop-time.self.level c.loop-time.from mid in
    let time = c.in-Some.time in
    let ask = c.in-Some.ask in
    let rest = c.next.new.self in
    let split : c.loop-time.requests ≡ (time, ask) ∷ rest = c.in-Some.ensures.steps.0 in
    let same : to_z w64 (of_z w64 time) ≡ time = to_z-of_z w64 time c.in-Some.ensures.steps.1 in
    let same_key : c.loop-time.self.key ≡ key = ap (λ (f : TankFront). f.key) known.front in
    let next : Playing = step key now (time, ask) in
    let next_is : step c.loop-time.self.key now (to_z w64 (of_z w64 time), ask) ≡ next =
    ap (λ k. step k now (to_z w64 (of_z w64 time), ask)) same_key ∙ ap (λ (z : ℤ). step key now (z, ask)) same in
    let played = subst (λ (p : Playing). HasPlayed mid new p) next_is c.take-from.ensures.played in
    let level_is : c.take-from.new.self.level ≡ next.level =
    ap (λ (f : TankFront). f.level) c.take-from.ensures.level ∙ ap (λ (p : Playing). p.level) next_is in
    let from_is : c.take-from.result ≡ next.from = c.take-from.ensures.from ∙ ap (λ (p : Playing). p.from) next_is in
    let reached = now_is mid new c.take-from.new.self.level c.take-from.result next played level_is from_is in
    let timed = subst (λ (requests : List Request). AreTimed (pos c.loop-time.from) frames requests) split known.times in
    let first = jobs_for (sets_in ((time, ask) ∷ [])) in
    let told : Told g.S.Sched.went c.loop-time.sched first c.take-from.new.sched =
    subst (λ (z : ℤ). Told g.S.Sched.went c.loop-time.sched (jobs_for (sets_in ((z, ask) ∷ []))) c.take-from.new.sched) same c.take-from.ensures.told in
    record {
      played = played_then lent mid new now (playing c.take-from.new.self.level c.take-from.result new) known.played
          (subst (λ (p : Playing). HasPlayed mid new p) (sym reached) played);
      goes = ap (λ (p : Playing). steps key p rest) reached ∙ ap (steps key now) (sym split) ∙ known.goes;
      front = ap (λ k. record { key = k; level = c.take-from.new.self.level }) (ap (λ (f : TankFront). f.key) c.take-from.ensures.level ∙ same_key);
      within = subst (λ n. n ≤ frames) (sym from_is) (within_next key now frames time ask rest known.within timed);
      times = subst (λ n. AreTimed (pos n) frames rest) (sym from_is) (timed_next key now frames time ask rest timed);
      told = (
        known.told.0 ++ first,
        told_more g.S.Sched.went c.args.sched.now c.loop-time.sched c.take-from.new.sched known.told.0 first g.met.S.Sched.chains known.told.1 told,
        append_assoc known.told.0 first (jobs_for (sets_in rest))
            ∙ ap (λ (jobs : List (List ℕ)). known.told.0 ++ jobs) (sym (jobs_next time ask rest))
            ∙ ap (λ (requests : List Request). known.told.0 ++ jobs_for (sets_in requests)) (sym split)
            ∙ known.told.2,
      );
    }
