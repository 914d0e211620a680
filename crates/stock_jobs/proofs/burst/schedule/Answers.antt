-- The front of a block of equal bytes.
use Rattle.std.proofs.Common.{◌≡◌, ◌∙◌, [], ◌∷◌, take, replicate, subst, ap}
use Rattle.std.proofs.lemmas.List.{take-replicate}
use Rattle.stock_jobs.proofs.burst.schedule.Goals as goal

pub returns : goal.returns
returns g c =
    let body : take c.from.result (replicate 300 c.args.number) ≡ replicate c.args.size c.args.number =
    ap (λ n. take n (replicate 300 c.args.number)) c.from.ensures ∙ take-replicate c.args.size 300 c.args.number c.requires in
    subst (λ said. g.S.Sched.went c.args.sched.now (record { body = said; answer = c.schedule_work.result } ∷ []) c.schedule_work.new.self) body
    c.schedule_work.ensures
