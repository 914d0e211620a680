use Rattle.std.proofs.Common.{◌≡◌, ℕ, [], List, length, map, ap, replicate, pos, sym, ◌∙◌, arith}
use Rattle.std.proofs.lemmas.List.{nil_from_length}
use Rattle.lv_base.specs.declared.number.Sample.{Sample}
use Rattle.lv_base.specs.Number.{clamped}
use Rattle.session_play.specs.Signals.{mixed}
use Rattle.sound_block.specs.Block.{sums_after}
use Rattle.block_signals.specs.declared.source.Source.{Source}
use Rattle.block_signals.specs.Mixing.{heard}
use Rattle.block_signals.proofs.Mixes.{silence_mixed, finished_mixed, heard_whole}
use Rattle.block_signals.proofs.mixing.mix.Goals as goal

pub returns-in_default-clause-mix : goal.returns-in_default-clause-mix
returns-in_default-clause-mix c =
    let frames = length c.args.out.now in
    let parts : List (List Sample) = map (heard c.args.outlets.now) c.args.sources.now in
    c.finish.ensures ∙ ap (map clamped) c.sum_up.ensures ∙ ap (λ (n : ℕ). map clamped (sums_after (replicate n (pos 0)) parts)) c.requires.room
    ∙ finished_mixed frames parts (heard_whole frames c.args.outlets.now c.args.sources.now c.requires.heard)

pub returns-in-empty-clause-mix : goal.returns-in-empty-clause-mix
returns-in-empty-clause-mix c =
    let none : c.args.sources.now ≡ [] = nil_from_length c.args.sources.now (omega arith) in
    c.hush.ensures ∙ silence_mixed (length c.args.out.now)
    ∙ ap (λ (sources : List Source). mixed (length c.args.out.now) (map (heard c.args.outlets.now) sources)) (sym none)
