use Rattle.std.proofs.Common.{◌+◌, ◌^◌, ◌-◌, ℕ, min, sym, ap, ◌∙◌}
use Rattle.record_counts.specs.declared.looks.Looks.{Looks}
use Rattle.record_counts.specs.Step.{step_of}
use Rattle.record_counts.proofs.LookLaws.{by_audio, by_other}
use Rattle.record_counts.proofs.looks.Looks.go_on.Goals as goal

pub returns-then-is_by : goal.returns-then-is_by
returns-then-is_by c shape h about less told =
    rw c.note.ensures
    (by_audio shape h (step_of c.args.entry about) c.args.self.now told (sym c.if-is_by.ensures) less c.saturating_add-self.result
    (c.saturating_add-self.ensures ∙ ap (λ (it : Looks). min (it.known + c.worth.result) (2 ^ 64 - 1)) c.note.ensures
    ∙ ap (λ (n : ℕ). min (c.args.self.now.known + n) (2 ^ 64 - 1)) c.worth.ensures))

pub returns-else-is_by : goal.returns-else-is_by
returns-else-is_by c shape h about less told =
    rw c.note.ensures
    (by_other shape h (step_of c.args.entry about) c.args.self.now told (sym c.if-is_by.ensures))
