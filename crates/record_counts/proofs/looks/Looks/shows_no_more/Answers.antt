use Rattle.std.proofs.Common.{◌<◌, ◌||◌, ℕ, List, nat_eq, length, ap, sym, ◌∙◌, arith}
use Rattle.std.specs.List.{list_any}
use Rattle.step_law.specs.declared.actor.Actor.TheVariants.{Audio}
use Rattle.step_law.specs.declared.entry.Kind.{Kind}
use Rattle.step_law.specs.declared.entry.Kind.TheVariants.{Send}
use Rattle.step_law.specs.Ring.{ring_at}
use Rattle.record_law.specs.History.{count, own, progress_in}
use Rattle.record_law.specs.Looks.{shown_by, shows_no_more}
use Rattle.record_counts.specs.declared.rings.RingCount.{RingCount}
use Rattle.record_counts.proofs.Forms.{is_on_ring, form_ring_within}
use Rattle.record_counts.proofs.LookLaws.{le_same, countdown_any}
use Rattle.record_counts.proofs.looks.Looks.shows_no_more.Goals as goal

pub returns-then-count : goal.returns-then-count
returns-then-count c shape h form counted told turn =
    let here : c.args.last.a < length c.args.rings.now = rw counted.all (form_ring_within shape c.args.last form (ap is_on_ring c.in-Look.is)) in
    let counts = c.of-count.ensures shape h counted here in
    let sent = ap (λ (it : RingCount). it.sent) counts in
    let taken = ap (λ (it : RingCount). it.taken) counts in
    let waits = c.waiting.ensures in
    let shown = c.from.ensures in
    let some = c.if-count.true in
    le_same c.from.result c.waiting.result (shown_by (ring_at c.args.last.a) h c.args.last.b) (count Send (ring_at c.args.last.a) h)
    (λ le. omega (arith, sent, taken, waits, shown, some, le)) (λ le. omega (arith, sent, taken, waits, shown, some, le))
    ∙ sym (ap (λ (kind : Kind). shows_no_more shape h kind c.args.last.a c.args.last.b) c.in-Look.is)

pub returns-else-count : goal.returns-else-count
returns-else-count c shape h form counted told turn =
    let here : c.args.last.a < length c.args.rings.now = rw counted.all (form_ring_within shape c.args.last form (ap is_on_ring c.in-Look.is)) in
    let counts = c.of-count.ensures shape h counted here in
    let sent = ap (λ (it : RingCount). it.sent) counts in
    let taken = ap (λ (it : RingCount). it.taken) counts in
    let none = c.if-count.false in
    le_same c.of-count.result.taken c.of-count.result.sent (shown_by (ring_at c.args.last.a) h c.args.last.b) (count Send (ring_at c.args.last.a) h)
    (λ le. absurd (omega (arith, none, le))) (λ le. omega (arith, sent, taken, le))
    ∙ sym (ap (λ (kind : Kind). shows_no_more shape h kind c.args.last.a c.args.last.b) c.in-Look.is)

pub returns-in-Beat : goal.returns-in-Beat
returns-in-Beat c shape h form counted told turn =
    let seen = c.from-in-Beat.ensures in
    let knew = told.known in
    le_same c.from-in-Beat.result c.args.self.now.known c.args.last.a (length (progress_in shape (own Audio h)))
    (λ le. omega (arith, knew, le, seen)) (λ le. omega (arith, knew, le, seen))
    ∙ sym (countdown_any (length (progress_in shape (own Audio h))) c.args.last.a)
    ∙ sym (ap (λ (known : List ℕ). nat_eq c.args.last.a 0 || list_any (nat_eq c.args.last.a) known) turn)
    ∙ sym (ap (λ (kind : Kind). shows_no_more shape h kind c.args.last.a c.args.last.b) c.in-Beat.is)
