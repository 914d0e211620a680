use Rattle.std.proofs.Common.{◌≡◌, rules, codes}
use Rattle.lv_outside.specs.declared.answer.Put.TheVariants.{Done}
use Rattle.host_main.proofs.Said.{said_more}
use Rattle.host_main.proofs.checking.say.say_undeclared.Goals as goal

pub returns-clause-said : goal.returns-clause-said
returns-clause-said g c =
    let sink = g.K.Sink.state in
    let first : c.put.result ≡ Done = search rules in
    let second : c.put-2.result ≡ Done = search rules in
    said_more (sink c.args.out.now) (sink c.put.new.self) (sink c.put_pieces.new.out) (codes "lv2fx: 6 plugin ") _ c.put.ensures.known c.put.ensures.failed.later
    (λ known. rw (← c.as_bytes.ensures.value) (c.put.ensures.done known first))
    (said_more (sink c.put.new.self) (sink c.put-2.new.self) (sink c.put_pieces.new.out) c.args.uri.now _ c.put-2.ensures.known c.put-2.ensures.failed.later
    (λ known. rw (← c.as_bytes-2.ensures.value) (c.put-2.ensures.done known second)) (rw (← c.as_slice.ensures) (rw (c.as_bytes-3.ensures.value, c.as_bytes-4.ensures.value) at c.put_pieces.ensures.said)))
