-- A mix of signals: of none, of one, and of more.
use Rattle.std.proofs.Common.{◌≡◌, ℕ, ◌+◌, ◌<◌, ℤ, pos, List, [], ◌∷◌, ◌++◌, All, length, get_or, map, take, replicate, refl, ap, ◌∙◌, arith}
use Rattle.std.proofs.lemmas.List.{length-map, length-replicate, get_or-map, get_or-replicate, map_more}
use Rattle.std.proofs.lemmas.List.FromFn.{fill_by_all}
use Rattle.std.proofs.lemmas.List.Elements.{All-map, All-weaker}
use Rattle.lv_base.specs.declared.number.Sample.{Sample}
use Rattle.lv_base.specs.Number.{clamped, mix_of}
use Rattle.plug_api.specs.Sound.{silent}
use Rattle.session_play.specs.Signals.{mixed}
use Rattle.sound_block.specs.Block.{added, sums_after}
use Rattle.block_signals.specs.declared.outlets.Outlets.{Outlets}
use Rattle.block_signals.specs.declared.source.Source.{Source}
use Rattle.block_signals.specs.Mixing.{heard, IsHeard}
use Rattle.sound_block.proofs.Sums.{AreWhole, sums-after-at, sums-after-length}

-- a mix is known frame by frame
abbrev frame_of : List (List Sample) → ℕ → Sample
frame_of parts frame = mix_of (map (λ part. get_or part frame silent) parts)

pub is_mixed : (frames : ℕ) (parts : List (List Sample)) (samples : List Sample) → length samples ≡ frames
    → ((k : ℕ) → k < frames → get_or samples k silent ≡ mix_of (map (λ part. get_or part k silent) parts)) → samples ≡ mixed frames parts
is_mixed frames parts samples whole each = fill_by_all (frame_of parts) samples frames silent whole each

pub silence_mixed : (frames : ℕ) → replicate frames silent ≡ mixed frames []
silence_mixed frames = is_mixed frames [] (replicate frames silent) (length-replicate frames silent) (λ k h. get_or-replicate frames k silent silent h)

pub finished_mixed : (frames : ℕ) (parts : List (List Sample)) → AreWhole frames parts
    → map clamped (sums_after (replicate frames (pos 0)) parts) ≡ mixed frames parts
finished_mixed frames parts whole =
    let none : List ℤ = replicate frames (pos 0) in
    let count : length none ≡ frames = length-replicate frames (pos 0) in
    let long : length (sums_after none parts) ≡ frames = sums-after-length none parts ∙ count in
    is_mixed frames parts (map clamped (sums_after none parts)) (length-map (sums_after none parts) clamped ∙ long)
    (λ k h. get_or-map clamped (sums_after none parts) k (pos 0) silent (omega (arith, long, h))
    ∙ ap clamped (sums-after-at frames [] parts none count whole k h (get_or-replicate frames k (pos 0) (pos 0) h)))

-- one more signal is added
sums_append : (sums : List ℤ) (parts more : List (List Sample)) → sums_after sums (parts ++ more) ≡ sums_after (sums_after sums parts) more
sums_append sums [] more = refl
sums_append sums (part ∷ parts) more = sums_append (added sums part) parts more

pub sums_more : {X : Type 0} → (sums : List ℤ) (f : X → List Sample) (xs : List X) (i : ℕ) (d : X) → i < length xs
    → sums_after sums (map f (take (i + 1) xs)) ≡ added (sums_after sums (map f (take i xs))) (f (get_or xs i d))
sums_more sums f xs i d h =
    ap (sums_after sums) (map_more f xs i d h) ∙ sums_append sums (map f (take i xs)) (f (get_or xs i d) ∷ [])

-- what is heard has a sample for each frame
pub heard_whole : (frames : ℕ) (outlets : Outlets) (sources : List Source) → All (IsHeard frames outlets) sources
    → AreWhole frames (map (heard outlets) sources)
heard_whole frames outlets sources are =
    All-map (λ (signal : List Sample). length signal ≡ frames) (heard outlets) sources
    (All-weaker (IsHeard frames outlets) (λ (source : Source). length (heard outlets source) ≡ frames) (λ source is. is.block.whole) sources are)
