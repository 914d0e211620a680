-- An echo goes on, frame by frame.
use Rattle.std.proofs.Common.{◌≡◌, ℕ, zero, suc, ◌+◌, ◌-◌, ◌<◌, ◌≤◌, List, [], ◌∷◌, ◌++◌, length, get_or, set, take, drop, refl, sym, ap, ◌∙◌, arith, add-one, append_assoc, drop-cons, length-drop}
use Rattle.std.proofs.lemmas.List.{take_more_set, drop-set-lt, drop-append-le, drop-drop, set_split, drop_all, append-nil}
use Rattle.lv_base.specs.declared.number.Fixed.{Fixed}
use Rattle.lv_base.specs.declared.number.Sample.{Sample}
use Rattle.stock_sound.specs.Echo.{oldest, echoed_sample, given_more, echoed, past_after}

pub echoed_length : (feedback : Fixed) (past signal : List Sample) → length (echoed feedback past signal) ≡ length signal
echoed_length feedback past [] = refl
echoed_length feedback past (sample ∷ signal) =
    ap suc (echoed_length feedback (given_more past (echoed_sample feedback (oldest past) sample)) signal)

-- from a frame on, where an echo of what is left has been given up to there
pub echoed_on : (feedback : Fixed) (past signal out all : List Sample) (i : ℕ) (d y : Sample) (next : List Sample) → i < length signal
    → i < length out → y ≡ echoed_sample feedback (oldest past) (get_or signal i d) → next ≡ given_more past y
    → all ≡ take i out ++ echoed feedback past (drop i signal)
    → all ≡ take (i + 1) (set out i y) ++ echoed feedback next (drop (i + 1) signal)
echoed_on feedback past signal out all i d y next h k given more so =
    rw (more, take_more_set out i y k, add-one, append_assoc)
    (so ∙ ap (λ (rest : List Sample). take i out ++ echoed feedback past rest) (drop-cons signal i d h)
    ∙ ap (λ (z : Sample). take i out ++ (z ∷ echoed feedback (given_more past z) (drop (suc i) signal))) (sym given))

pub past_on : (feedback : Fixed) (past signal all : List Sample) (i : ℕ) (d y : Sample) (next : List Sample) → i < length signal
    → y ≡ echoed_sample feedback (oldest past) (get_or signal i d) → next ≡ given_more past y
    → all ≡ past_after feedback past (drop i signal) → all ≡ past_after feedback next (drop (i + 1) signal)
past_on feedback past signal all i d y next h given more so =
    rw (more, add-one)
    (so ∙ ap (λ (rest : List Sample). past_after feedback past rest) (drop-cons signal i d h)
    ∙ ap (λ (z : Sample). past_after feedback (given_more past z) (drop (suc i) signal)) (sym given))

-- the oldest of what a ring holds is left out
without_oldest : (ring : List Sample) (at : ℕ) → at < length ring → drop 1 (drop at ring ++ take at ring) ≡ drop (at + 1) ring ++ take at ring
without_oldest ring at h =
    let long : length (drop at ring) ≡ length ring - at = length-drop at ring in
    let some : 1 ≤ length (drop at ring) = omega (arith, long, h) in
    drop-append-le 1 (drop at ring) (take at ring) some ∙ ap (λ (rest : List Sample). rest ++ take at ring) (drop-drop 1 at ring)

-- the oldest sample of a ring is written over: what it holds is told from the next place on
pub ring_more : (ring : List Sample) (at : ℕ) (y : Sample) → at + 1 < length ring
    → drop (at + 1) (set ring at y) ++ take (at + 1) (set ring at y) ≡ drop 1 (drop at ring ++ take at ring) ++ y ∷ []
ring_more ring at y h =
    let within : at < length ring = omega (arith, h) in
    let behind : at < at + 1 = omega arith in
    rw (drop-set-lt (at + 1) ring at y behind, take_more_set ring at y within, without_oldest ring at within)
    (sym (append_assoc (drop (at + 1) ring) (take at ring) (y ∷ [])))

pub ring_round : (ring : List Sample) (at : ℕ) (y : Sample) → at + 1 ≡ length ring
    → drop 0 (set ring at y) ++ take 0 (set ring at y) ≡ drop 1 (drop at ring ++ take at ring) ++ y ∷ []
ring_round ring at y h =
    let within : at < length ring = omega (arith, h) in
    let past : length ring ≤ at + 1 = omega (arith, h) in
    let past_too : length ring ≤ suc at = omega (arith, h) in
    rw (append-nil (set ring at y), set_split ring at y within, drop_all (suc at) ring past_too, without_oldest ring at within, drop_all (at + 1) ring past)
    refl
