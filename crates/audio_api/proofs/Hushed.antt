-- Blocks that are made silent.
use Rattle.std.proofs.Common.{◌≡◌, ℕ, suc, List, [], ◌∷◌, length, replicate, refl, ap, arith}
use Rattle.std.specs.Prelude.{map}
use Rattle.lv_base.specs.declared.number.Sample.{Sample}
use Rattle.audio_api.specs.Sound.{silence, hushed, AreWhole}

-- blocks of the same frames are then one silent block over and over
pub map-hushed : (frames : ℕ) (blocks : List (List Sample)) → AreWhole frames blocks → map hushed blocks ≡ replicate (length blocks) (silence frames)
map-hushed frames [] whole = refl
map-hushed frames (block ∷ blocks) whole =
    let head : length block ≡ frames = whole 0 [] (omega arith) in
    let rest = map-hushed frames blocks (λ k d h. whole (suc k) d (omega arith)) in
    rw head (ap (λ (others : List (List Sample)). silence frames ∷ others) rest)
