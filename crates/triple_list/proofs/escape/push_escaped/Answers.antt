use Rattle.std.proofs.Common.{◌≡◌, ◌∙◌, ◌<◌, ◌++◌, length, Some, sym, ap, arith}
use Rattle.std.specs.Option.{option_copied}
use Rattle.std.proofs.lemmas.List.{length-take-le}
use Rattle.triple_list.proofs.Runs.{run_of, run_goes_on, run_ends}
use Rattle.triple_list.proofs.escape.push_escaped.Goals as goal
use Rattle.triple_list.proofs.escape.push_escaped.Goals.{in-Some+in_ok-push_all+in_ok-push_all-2, in_default}

pub loop-at-preserved : goal.loop-at-preserved
loop-at-preserved c =
    let text = c.args.text.now in
    let at = c.loop-at.at in
    let le = c.loop-at.invariant.0 in
    let there : at < length text = omega arith in
    elim c.match-escape.branch [
      | in-Some+in_ok-push_all+in_ok-push_all-2 w ↦
          rw (w.into-is, w.copied-is) (
            omega arith,
            run_ends _ _ _ _ text _ c.loop-at.copied at le there
                (w.in_ok-push_all.ensures.ok ∙ ap (λ t. c.loop-at.into ++ t) (run_of text c.loop-at.copied at le))
                w.in_ok-push_all-2.ensures.ok
                (sym c.escape.ensures ∙ ap option_copied w.in-Some.is ∙ ap (λ e. Some e) (sym w.as_bytes.ensures.value))
                c.loop-at.invariant.1,
          )
      | in_default w ↦
          rw (w.into-is, w.copied-is) (
            omega arith,
            run_goes_on _ _ text c.loop-at.copied at le there (length-take-le at text (omega arith))
                (sym c.escape.ensures ∙ ap option_copied w.in_default.is)
                c.loop-at.invariant.1,
          )
    ]
