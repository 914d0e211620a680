use Rattle.std.proofs.Common.{◌<◌, get_or, sym, ◌∙◌, subst, List, ℕ, arith}
use Rattle.turtle_lex.specs.Classes.{class_byte, IsByteRun}
use Rattle.turtle_lex.proofs.Walks.{place_behind}
use Rattle.turtle_lex.proofs.class.Class.run_end.Goals as goal

pub returns-else-is_among : goal.returns-else-is_among
returns-else-is_among c =
    let P : List ℕ → Type 0 = λ bytes. IsByteRun (class_byte c.args.self) bytes c.args.from c.loop-at.at in
    let fits : get_or c.as_bytes-bytes.result.now c.loop-at.at 0 < 256 = omega arith in
    let here : P c.as_bytes-bytes.result.now = record {
      inside = c.loop-at.invariant.1;
      further = c.loop-at.invariant.0;
      each = c.loop-at.invariant.2;
      stops = λ lt. sym (c.groups-groups.ensures (get_or c.as_bytes-bytes.result.now c.loop-at.at 0) fits) ∙ sym c.if-is_among.ensures;
    } in
    let run = subst P c.as_bytes-bytes.ensures.value here in
    record { place = place_behind c.args.self c.args.text.now c.args.from c.loop-at.at c.requires run; run = run }

pub returns-after-loop-at : goal.returns-after-loop-at
returns-after-loop-at c =
    let P : List ℕ → Type 0 = λ bytes. IsByteRun (class_byte c.args.self) bytes c.args.from c.loop-at.at in
    let here : P c.as_bytes-bytes.result.now = record {
      inside = c.loop-at.invariant.1;
      further = c.loop-at.invariant.0;
      each = c.loop-at.invariant.2;
      stops = λ lt. absurd (omega arith);
    } in
    let run = subst P c.as_bytes-bytes.ensures.value here in
    record { place = place_behind c.args.self c.args.text.now c.args.from c.loop-at.at c.requires run; run = run }
