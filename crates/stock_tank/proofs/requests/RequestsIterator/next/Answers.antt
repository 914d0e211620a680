use Rattle.std.proofs.Common.{◌≡◌, ◌∷◌, length, ℤ, FitsSigned, sym, ap, ◌∙◌, subst, arith}
use Rattle.std.specs.Int.{w64}
use Rattle.std.proofs.lemmas.Int.{to_z-of_z}
use Rattle.stock_tank.specs.Requests.{requests_in}
use Rattle.stock_tank.proofs.Requesting.{events_after, none_left, some_left, time_fits}
use Rattle.stock_tank.proofs.requests.RequestsIterator.next.Goals as goal

pub invariant_of-self-inside : goal.invariant_of-self-inside
invariant_of-self-inside c =
    (events_after c.self.inside.events c.next.result c.next.new.self c.self.inside.spelled c.next.ensures.steps, tt)

pub returns-in_err-time-clause-steps : goal.returns-in_err-time-clause-steps
returns-in_err-time-clause-steps c =
    rw c.from_residual.ensures
    (sym c.self.view_is ∙ none_left c.self.inside.key c.self.inside.events c.next.new.self c.self.inside.spelled c.in_err-time.ensures.steps)

first : (c : goal.After-ask_of) → c.args.self.now ≡ (c.in_ok-time.time, c.ask_of.result) ∷ requests_in c.self.inside.key c.next.new.self
first c =
    sym c.self.view_is
    ∙ some_left c.self.inside.key c.self.inside.events (c.in_ok-time.time, c.in_ok-time.atom) c.next.new.self c.ask_of.result c.self.inside.spelled
    c.in_ok-time.ensures.steps c.ask_of.ensures

pub returns-clause-steps : goal.returns-clause-steps
returns-clause-steps c =
    let fits = time_fits c.self.inside.events (c.in_ok-time.time, c.in_ok-time.atom) c.next.new.self c.self.inside.spelled c.in_ok-time.ensures.steps in
    subst (λ (time : ℤ). (c.args.self.now ≡ (time, c.ask_of.result) ∷ requests_in c.self.inside.key c.next.new.self) × FitsSigned w64 time)
    (sym (to_z-of_z w64 c.in_ok-time.time fits)) (first c, fits)

pub returns-clause-goes : goal.returns-clause-goes
returns-clause-goes c =
    let less : length c.args.self.now ≡ length ((c.in_ok-time.time, c.ask_of.result) ∷ requests_in c.self.inside.key c.next.new.self) = ap length (first c) in
    record { on = λ finite. (tt, tt, omega (arith, less)); keeps = tt; rests = λ finite. tt }
