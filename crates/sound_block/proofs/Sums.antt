-- Sums of signals, frame by frame.
use Rattle.std.proofs.Common.{◌≡◌, ℕ, zero, suc, ℤ, pos, ◌+ℤ◌, ◌+◌, ◌<◌, List, [], ◌∷◌, ◌++◌, length, map, get_or, All, refl, sym, ap, ◌∙◌, arith}
use Rattle.std.proofs.lemmas.List.{map-append, append_assoc, append-nil, ext_get_or}
use Rattle.std.proofs.lemmas.Int.{ints}
use Rattle.std.proofs.lemmas.List.Sums.{fold_push}
use Rattle.lv_base.specs.declared.number.Sample.{Sample}
use Rattle.lv_base.specs.Number.{sum_of}
use Rattle.sound_block.specs.Block.{added, sums_after, sample_at, IsSum}

-- the sum of a frame
abbrev pub number_at : List ℤ → ℕ → ℤ
number_at sums frame = get_or sums frame (pos 0)

-- the samples of a frame
abbrev pub samples_at : List (List Sample) → ℕ → List Sample
samples_at signals frame = map (λ (signal : List Sample). sample_at signal frame) signals

-- signals of so many frames
abbrev pub AreWhole : ℕ → List (List Sample) → Type 0
AreWhole frames signals = All (λ (signal : List Sample). length signal ≡ frames) signals

pub added-length : (sums : List ℤ) (signal : List Sample) → length (added sums signal) ≡ length sums
added-length [] signal = refl
added-length (sum ∷ sums) [] = refl
added-length (sum ∷ sums) (sample ∷ signal) = ap suc (added-length sums signal)

pub added-at : (sums : List ℤ) (signal : List Sample) (k : ℕ) → k < length sums → k < length signal → number_at (added sums signal) k ≡ number_at sums k +ℤ (sample_at signal k).0
added-at [] signal k h g = absurd (omega arith)
added-at (sum ∷ sums) [] k h g = absurd (omega arith)
added-at (sum ∷ sums) (sample ∷ signal) zero h g = refl
added-at (sum ∷ sums) (sample ∷ signal) (suc k) h g = added-at sums signal k (omega arith) (omega arith)

sum-push : (signals : List (List Sample)) (signal : List Sample) (k : ℕ) → sum_of (samples_at (signals ++ signal ∷ []) k) ≡ sum_of (samples_at signals k) +ℤ (sample_at signal k).0
sum-push signals signal k = simp (map-append, fold_push)

whole-tail : (frames : ℕ) (signal : List Sample) (signals : List (List Sample)) → AreWhole frames (signal ∷ signals) → AreWhole frames signals
whole-tail frames signal signals whole = λ k d h. whole (suc k) d (omega arith)

-- what was added before, and what comes after it
pub sums-after-at : (frames : ℕ) (before after : List (List Sample)) (sums : List ℤ) → length sums ≡ frames → AreWhole frames after → (k : ℕ) → k < frames → number_at sums k ≡ sum_of (samples_at before k) → number_at (sums_after sums after) k ≡ sum_of (samples_at (before ++ after) k)
sums-after-at frames before [] sums long whole k h is = is ∙ ap (λ (signals : List (List Sample)). sum_of (samples_at signals k)) (sym (append-nil before))
sums-after-at frames before (signal ∷ after) sums long whole k h is =
    let same : length signal ≡ frames = whole 0 signal (omega arith) in
    let now = added-at sums signal k (omega arith) (omega arith) ∙ ap (λ (sum : ℤ). sum +ℤ (sample_at signal k).0) is ∙ sym (sum-push before signal k) in
    sums-after-at frames (before ++ signal ∷ []) after (added sums signal) (added-length sums signal ∙ long) (whole-tail frames signal after whole) k h now
    ∙ ap (λ (signals : List (List Sample)). sum_of (samples_at signals k)) (append_assoc before (signal ∷ []) after)

pub sums-after-length : (sums : List ℤ) (signals : List (List Sample)) → length (sums_after sums signals) ≡ length sums
sums-after-length sums [] = refl
sums-after-length sums (signal ∷ signals) = sums-after-length (added sums signal) signals ∙ added-length sums signal

-- a sum in which each frame has one sample more
pub added-is : (before now : List ℤ) (signal : List Sample) → length now ≡ length before → length signal ≡ length before → ((k : ℕ) → k < length now → number_at now k ≡ number_at before k +ℤ (sample_at signal k).0) → now ≡ added before signal
added-is before now signal long whole is =
    ext_get_or (pos 0) now (added before signal) (long ∙ sym (added-length before signal)) (λ k h. is k h ∙ sym (added-at before signal k (omega arith) (omega arith)))

-- one sample more is one more that counts
pub one-more : (n : ℕ) (before sample : ℤ) → IsSum n before → IsSum 1 sample → IsSum (n + 1) (before +ℤ sample)
one-more n before sample was one = (omega (arith, ints), omega (arith, ints))
