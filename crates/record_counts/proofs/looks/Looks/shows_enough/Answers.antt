use Rattle.std.proofs.Common.{ℕ, nat_le, length, ap, sym, ◌∙◌, arith}
use Rattle.std.specs.List.{list_all}
use Rattle.step_law.specs.declared.actor.Actor.TheVariants.{Audio}
use Rattle.step_law.specs.declared.entry.Kind.{Kind}
use Rattle.step_law.specs.declared.entry.Kind.TheVariants.{Send, Take}
use Rattle.step_law.specs.Ring.{ring_at}
use Rattle.record_law.specs.History.{count, settled, progress_in}
use Rattle.record_law.specs.Looks.{shown_by, shows_enough}
use Rattle.record_law.specs.Shape.{sender}
use Rattle.record_counts.proofs.Forms.{is_on_ring, form_ring}
use Rattle.record_counts.proofs.LookLaws.{le_same, countdown_all, settled_in_turn}
use Rattle.record_counts.proofs.looks.Looks.shows_enough.Goals as goal

pub returns-in-Look : goal.returns-in-Look
returns-in-Look c h session counted told turn form =
    let waits = c.settled_waiting.ensures h session counted told (form_ring c.args.shape.now c.args.entry form (ap is_on_ring c.in-Look.is)) in
    let sent : ℕ = count Send (ring_at c.args.entry.a) (settled (sender c.args.shape.now (ring_at c.args.entry.a)) h) in
    let taken : ℕ = count Take (ring_at c.args.entry.a) h in
    let shown = c.from.ensures in
    le_same c.settled_waiting.result c.from.result sent (shown_by (ring_at c.args.entry.a) h c.args.entry.b)
    (λ le. omega (arith, waits, le, shown)) (λ le. omega (arith, waits, le, shown))
    ∙ sym (ap (λ (kind : Kind). shows_enough c.args.shape.now h kind c.args.entry.a c.args.entry.b) c.in-Look.is)

pub returns-in-Beat : goal.returns-in-Beat
returns-in-Beat c h session counted told turn form =
    let seen = c.from-in-Beat.ensures in
    let knew = told.settled in
    le_same c.args.self.now.settled c.from-in-Beat.result (length (progress_in c.args.shape.now (settled Audio h))) c.args.entry.a
    (λ le. omega (arith, knew, le, seen)) (λ le. omega (arith, knew, le, seen))
    ∙ sym (countdown_all (length (progress_in c.args.shape.now (settled Audio h))) c.args.entry.a)
    ∙ sym (ap (list_all (λ progress. nat_le progress c.args.entry.a)) (settled_in_turn c.args.shape.now h turn))
    ∙ sym (ap (λ (kind : Kind). shows_enough c.args.shape.now h kind c.args.entry.a c.args.entry.b) c.in-Beat.is)
