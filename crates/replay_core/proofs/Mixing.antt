-- How the sums of a mix grow, cable by cable.
use Rattle.std.proofs.Common.{◌≡◌, ℕ, ℤ, ◌+◌, ◌<◌, ◌+ℤ◌, ◌==◌, true, false, List, [], ◌∷◌, ◌++◌, length, map, filter, take, get_or, sym, ap, ◌∙◌}
use Rattle.std.proofs.lemmas.List.{map-append, append-nil}
use Rattle.std.proofs.lemmas.List.Elements.{filter_more}
use Rattle.std.proofs.lemmas.List.Sums.{fold_push}
use Rattle.lv_base.specs.declared.number.Sample.{Sample}
use Rattle.session_script.specs.declared.session.CableLine.{CableLine}
use Rattle.lv_base.specs.Number.{clamped}
use Rattle.replay_core.specs.Each.{each}
use Rattle.replay_core.specs.Signals.{signal_at, sample_at, mixed}
use Rattle.replay_core.specs.Mixer.{number_at, sum_at}
use Rattle.replay_core.proofs.EachLemmas.{each-same}

-- the signals of the cables that lead to an instance
abbrev pub parts_of : List (List Sample) → List CableLine → ℕ → List (List Sample)
parts_of signals cables inst =
    map (signal_at signals) (map (λ (cable : CableLine). cable.source) (filter (λ (cable : CableLine). cable.target == inst) cables))

-- one more signal in a sum
pub sum_at-push : (parts : List (List Sample)) (part : List Sample) (k : ℕ) → sum_at (parts ++ part ∷ []) k ≡ sum_at parts k +ℤ (sample_at part k).0
sum_at-push parts part k = simp (map-append, fold_push)

-- the parts with one more cable
parts-push : (signals : List (List Sample)) (found : List CableLine) (cable : CableLine) → map (signal_at signals) (map (λ (cable : CableLine). cable.source) (found ++ cable ∷ [])) ≡ map (signal_at signals) (map (λ (cable : CableLine). cable.source) found) ++ signal_at signals cable.source ∷ []
parts-push signals found cable = simp map-append

-- a cable that leads to the instance adds its signal
pub parts-taken : (signals : List (List Sample)) (cables : List CableLine) (inst j : ℕ) (cable : CableLine) → j < length cables → cable ≡ get_or cables j cable → (cable.target == inst) ≡ true → parts_of signals (take (j + 1) cables) inst ≡ parts_of signals (take j cables) inst ++ signal_at signals cable.source ∷ []
parts-taken signals cables inst j cable h is hit =
    let more = filter_more (λ (cable : CableLine). cable.target == inst) cables j cable h in
    let now = rw (← is, hit) at more in
    ap (λ (found : List CableLine). map (signal_at signals) (map (λ (cable : CableLine). cable.source) found)) now
    ∙ parts-push signals _ cable

-- any other cable adds nothing
pub parts-skipped : (signals : List (List Sample)) (cables : List CableLine) (inst j : ℕ) (cable : CableLine) → j < length cables → cable ≡ get_or cables j cable → (cable.target == inst) ≡ false → parts_of signals (take (j + 1) cables) inst ≡ parts_of signals (take j cables) inst
parts-skipped signals cables inst j cable h is miss =
    let more = filter_more (λ (cable : CableLine). cable.target == inst) cables j cable h in
    let now = rw (← is, miss) at more in
    ap (λ (found : List CableLine). map (signal_at signals) (map (λ (cable : CableLine). cable.source) found)) (rw append-nil at now)

-- the sum with a cable that leads to the instance
pub sum-taken : (signals : List (List Sample)) (cables : List CableLine) (inst j k : ℕ) (cable : CableLine) (before now : ℤ) → j < length cables → cable ≡ get_or cables j cable → (cable.target == inst) ≡ true → before ≡ sum_at (parts_of signals (take j cables) inst) k → now ≡ before +ℤ (sample_at (signal_at signals cable.source) k).0 → now ≡ sum_at (parts_of signals (take (j + 1) cables) inst) k
sum-taken signals cables inst j k cable before now h is hit was grew =
    grew
    ∙ ap (λ (sum : ℤ). sum +ℤ (sample_at (signal_at signals cable.source) k).0) was
    ∙ sym (sum_at-push (parts_of signals (take j cables) inst) (signal_at signals cable.source) k)
    ∙ sym (ap (λ (parts : List (List Sample)). sum_at parts k) (parts-taken signals cables inst j cable h is hit))

-- the sum with any other cable
pub sum-skipped : (signals : List (List Sample)) (cables : List CableLine) (inst j k : ℕ) (cable : CableLine) (before : ℤ) → j < length cables → cable ≡ get_or cables j cable → (cable.target == inst) ≡ false → before ≡ sum_at (parts_of signals (take j cables) inst) k → before ≡ sum_at (parts_of signals (take (j + 1) cables) inst) k
sum-skipped signals cables inst j k cable before h is miss was =
    was
    ∙ sym (ap (λ (parts : List (List Sample)). sum_at parts k) (parts-skipped signals cables inst j cable h is miss))

-- sums that were clamped are a mix
pub mixed-clamped : (frames : ℕ) (sums : List ℤ) (samples : List Sample) (parts : List (List Sample)) → frames ≡ length sums → samples ≡ each (length sums) (λ k. clamped (number_at sums k) ∷ []) → ((k : ℕ) → k < length sums → number_at sums k ≡ sum_at parts k) → samples ≡ mixed frames parts
mixed-clamped frames sums samples parts whole is exact =
    is
    ∙ each-same (length sums) _ _ (λ k h. ap (λ (sum : ℤ). clamped sum ∷ []) (exact k h))
    ∙ sym (ap (λ (n : ℕ). mixed n parts) whole)
