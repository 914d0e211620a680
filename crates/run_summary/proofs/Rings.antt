-- Which instance a ring's number names.
use Rattle.std.proofs.Common.{◌≡◌, ℕ, zero, suc, ◌+◌, ◌-◌, ◌*◌, ◌/◌, ◌%◌, ◌<◌, ◌≤◌, ◌==◌, nat_lt, Bool, true, false, cond, refl, sym, ap, ◌∙◌, ⊎_elim, arith, eq-eqb, ne_eqb, ltb-true, ltb-false}
use Rattle.std.proofs.lemmas.Bool.{cond_both, cases_eq}
use Rattle.step_law.specs.declared.ring.Ring.{Ring}
use Rattle.step_law.specs.declared.ring.Ring.TheVariants.{ControlToAudio, AudioToControl, ControlToWorker, WorkerToControl, Jobs, Responses, LocalJobs}
use Rattle.step_law.specs.Ring.{ring_at, actor_ring_at, inst_ring_at}

abbrev pub is_jobs : ℕ → Ring → Bool
is_jobs i (Jobs j) = j == i
is_jobs i other = false

abbrev pub is_responses : ℕ → Ring → Bool
is_responses i (Responses j) = j == i
is_responses i other = false

abbrev pub is_locals : ℕ → Ring → Bool
is_locals i (LocalJobs j) = j == i
is_locals i other = false

-- ---- rings of actors

actor_jobs : (n i : ℕ) → is_jobs i (actor_ring_at n) ≡ false
actor_jobs zero i = refl
actor_jobs (suc zero) i = refl
actor_jobs (suc (suc n)) i =
    cond_both (suc (suc n) % 2 == 0) (ControlToWorker (suc (suc n) / 2)) (WorkerToControl (suc (suc n) / 2)) (λ ring. is_jobs i ring ≡ false) (λ even. refl) (λ odd. refl)

actor_responses : (n i : ℕ) → is_responses i (actor_ring_at n) ≡ false
actor_responses zero i = refl
actor_responses (suc zero) i = refl
actor_responses (suc (suc n)) i =
    cond_both (suc (suc n) % 2 == 0) (ControlToWorker (suc (suc n) / 2)) (WorkerToControl (suc (suc n) / 2)) (λ ring. is_responses i ring ≡ false) (λ even. refl) (λ odd. refl)

actor_locals : (n i : ℕ) → is_locals i (actor_ring_at n) ≡ false
actor_locals zero i = refl
actor_locals (suc zero) i = refl
actor_locals (suc (suc n)) i =
    cond_both (suc (suc n) % 2 == 0) (ControlToWorker (suc (suc n) / 2)) (WorkerToControl (suc (suc n) / 2)) (λ ring. is_locals i ring ≡ false) (λ even. refl) (λ odd. refl)

-- ---- rings of instances

-- two tests that say the same
same_test : (a b c d : ℕ) → (a ≡ b → c ≡ d) → (c ≡ d → a ≡ b) → (a == b) ≡ (c == d)
same_test a b c d there back =
    ⊎_elim
    (λ (same : a ≡ b). eq-eqb a b same ∙ sym (eq-eqb c d (there same)))
    (λ (other : a ≡ b → ⊥). ne_eqb a b other ∙ sym (ne_eqb c d (λ same. other (back same))))
    (cases_eq a b)

inst_jobs : (n q m i : ℕ) → n ≡ 18 + 3 * q + m → m < 3 → (n == 18 + 3 * i) ≡ is_jobs i (inst_ring_at q m)
inst_jobs n q zero i is small = same_test n (18 + 3 * i) q i (λ same. omega (arith, is, same)) (λ same. omega (arith, is, same))
inst_jobs n q (suc zero) i is small = ne_eqb n (18 + 3 * i) (λ same. omega (arith, is, same))
inst_jobs n q (suc (suc zero)) i is small = ne_eqb n (18 + 3 * i) (λ same. omega (arith, is, same))
inst_jobs n q (suc (suc (suc m))) i is small = absurd (omega (arith, small))

inst_responses : (n q m i : ℕ) → n ≡ 18 + 3 * q + m → m < 3 → (n == 19 + 3 * i) ≡ is_responses i (inst_ring_at q m)
inst_responses n q zero i is small = ne_eqb n (19 + 3 * i) (λ same. omega (arith, is, same))
inst_responses n q (suc zero) i is small = same_test n (19 + 3 * i) q i (λ same. omega (arith, is, same)) (λ same. omega (arith, is, same))
inst_responses n q (suc (suc zero)) i is small = ne_eqb n (19 + 3 * i) (λ same. omega (arith, is, same))
inst_responses n q (suc (suc (suc m))) i is small = absurd (omega (arith, small))

inst_locals : (n q m i : ℕ) → n ≡ 18 + 3 * q + m → m < 3 → (n == 20 + 3 * i) ≡ is_locals i (inst_ring_at q m)
inst_locals n q zero i is small = ne_eqb n (20 + 3 * i) (λ same. omega (arith, is, same))
inst_locals n q (suc zero) i is small = ne_eqb n (20 + 3 * i) (λ same. omega (arith, is, same))
inst_locals n q (suc (suc zero)) i is small = same_test n (20 + 3 * i) q i (λ same. omega (arith, is, same)) (λ same. omega (arith, is, same))
inst_locals n q (suc (suc (suc m))) i is small = absurd (omega (arith, small))

-- ---- all rings

-- a number from 18 on, by the instance and the place among its rings
parts : (n : ℕ) → 18 ≤ n → n ≡ 18 + 3 * ((n - 18) / 3) + (n - 18) % 3
parts n least = omega (arith, least)

place_small : (n : ℕ) → (n - 18) % 3 < 3
place_small n = omega arith

pub ring_jobs : (n i : ℕ) → (n == 18 + 3 * i) ≡ is_jobs i (ring_at n)
ring_jobs n i =
    cond_both (nat_lt n 18) (actor_ring_at n) (inst_ring_at ((n - 18) / 3) ((n - 18) % 3)) (λ ring. (n == 18 + 3 * i) ≡ is_jobs i ring)
    (λ low. let least = ltb-true n 18 low in ne_eqb n (18 + 3 * i) (λ same. omega (arith, least, same)) ∙ sym (actor_jobs n i))
    (λ high. inst_jobs n ((n - 18) / 3) ((n - 18) % 3) i (parts n (ltb-false n 18 high)) (place_small n))

pub ring_responses : (n i : ℕ) → (n == 19 + 3 * i) ≡ is_responses i (ring_at n)
ring_responses n i =
    cond_both (nat_lt n 18) (actor_ring_at n) (inst_ring_at ((n - 18) / 3) ((n - 18) % 3)) (λ ring. (n == 19 + 3 * i) ≡ is_responses i ring)
    (λ low. let least = ltb-true n 18 low in ne_eqb n (19 + 3 * i) (λ same. omega (arith, least, same)) ∙ sym (actor_responses n i))
    (λ high. inst_responses n ((n - 18) / 3) ((n - 18) % 3) i (parts n (ltb-false n 18 high)) (place_small n))

pub ring_locals : (n i : ℕ) → (n == 20 + 3 * i) ≡ is_locals i (ring_at n)
ring_locals n i =
    cond_both (nat_lt n 18) (actor_ring_at n) (inst_ring_at ((n - 18) / 3) ((n - 18) % 3)) (λ ring. (n == 20 + 3 * i) ≡ is_locals i ring)
    (λ low. let least = ltb-true n 18 low in ne_eqb n (20 + 3 * i) (λ same. omega (arith, least, same)) ∙ sym (actor_locals n i))
    (λ high. inst_locals n ((n - 18) / 3) ((n - 18) % 3) i (parts n (ltb-false n 18 high)) (place_small n))
