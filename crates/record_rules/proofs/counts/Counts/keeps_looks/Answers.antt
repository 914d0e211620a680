use Rattle.std.proofs.Common.{◌&&◌, ◌<◌, ◌+◌, Bool, ap, sym, ◌∙◌}
use Rattle.step_law.specs.Actor.{actor_number, actor_at}
use Rattle.step_law.specs.declared.actor.Actor.{Actor}
use Rattle.record_law.specs.History.{own}
use Rattle.record_law.specs.Looks.{shows_enough, last_shows_no_more}
use Rattle.record_counts.proofs.Forms.{form_actor_within}
use Rattle.record_rules.proofs.Ending.{ends_in_turn}
use Rattle.record_rules.proofs.counts.Counts.keeps_looks.Goals as goal

pub returns-then-shows_enough : goal.returns-then-shows_enough
returns-then-shows_enough c h told form =
    let turn = ends_in_turn c.args.shape.now h told.kept in
    let within : actor_number c.from_number-actor.result < 2 + c.args.shape.now.workers = rw c.from_number-actor.ensures.number (form_actor_within c.args.shape.now c.args.entry form) in
    let enough = c.shows_enough.ensures h c.requires told.rings told.looks turn form in
    let last = c.last_shows_no_more.ensures c.args.shape.now h told.kept told.rings told.looks turn within in
    ap (λ (b : Bool). b && c.last_shows_no_more.result) (sym c.if-shows_enough.true)
    ∙ ap (λ (b : Bool). b && c.last_shows_no_more.result) enough
    ∙ ap (λ (b : Bool). shows_enough c.args.shape.now h c.args.entry.kind c.args.entry.a c.args.entry.b && b)
    (last ∙ ap (λ (actor : Actor). last_shows_no_more c.args.shape.now h (own actor h)) c.from_number-actor.ensures.value)

pub returns-else-shows_enough : goal.returns-else-shows_enough
returns-else-shows_enough c h told form =
    let turn = ends_in_turn c.args.shape.now h told.kept in
    let enough = c.shows_enough.ensures h c.requires told.rings told.looks turn form in
    let last : Bool = last_shows_no_more c.args.shape.now h (own (actor_at c.args.entry.actor) h) in
    c.if-shows_enough.false ∙ ap (λ (b : Bool). b && last) (sym c.if-shows_enough.false) ∙ ap (λ (b : Bool). b && last) enough
