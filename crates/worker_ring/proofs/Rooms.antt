-- Attempts leave room for the mark of the call's end.
use Rattle.std.proofs.Common.{◌≡◌, ℕ, zero, suc, ◌+◌, ◌-◌, ◌<◌, List, [], ◌∷◌, sym, ap, subst, refl, arith}
use Rattle.interaction.specs.Attempts.{Attempt}
use Rattle.step_law.specs.declared.entry.Entry.{Entry}
use Rattle.step_record.specs.Log.{Logged, Writes}
use Rattle.worker_ring.specs.Listing.{Target, Listed, Marked, ListStep, ListSteps}

module _ {S R : Type 0} (left : S → ℕ) (drawn : S → List ℕ) (rest : S → R) where
  -- there is a ticket and a place for one entry more than the attempts may have
  abbrev pub HasRoom : Listed S → Type 0
  HasRoom listed = (listed.room < left listed.tickets) × (listed.room < listed.log.spare)

  pub written : (old new : S) (log logged : Logged) (entry : Entry) (ticket room : ℕ) → Writes left drawn rest old log entry ticket new logged
      → suc room < left old → suc room < log.spare → (room < left new) × (room < logged.spare)
  written old new log logged entry ticket room w l s =
      let fewer : left new + 1 ≡ left old = w.draws.fewer in
      let spare : logged.spare ≡ log.spare - 1 = ap (λ g. g.spare) w.puts in
      (omega (arith, fewer), omega (arith, spare))

  step_keeps : (at : Target) (room : ℕ) (old new : Listed S) (attempt : Attempt) → old.room ≡ room
      → ListStep left drawn rest at room old attempt new → HasRoom old → HasRoom new
  step_keeps at zero old new attempt e step has = subst HasRoom (sym step.1) has
  step_keeps at (suc room) old new attempt e step has =
      let both = written old.tickets new.tickets old.log new.log _ _ room step.0.writes (omega (arith, e, has.0)) (omega (arith, e, has.1)) in
      let now : new.room ≡ room = step.1 in
      (omega (arith, now, both.0), omega (arith, now, both.1))

  pub steps_keep : (at : Target) (old new : Listed S) (attempts : List Attempt) → ListSteps left drawn rest at old attempts new → HasRoom old → HasRoom new
  steps_keep at old new [] steps has = subst HasRoom (sym steps) has
  steps_keep at old new (attempt ∷ attempts) steps has =
      steps_keep at steps.0 new attempts steps.2 (step_keeps at old.room old steps.0 attempt refl steps.1 has)

  -- a step by whether attempts may still have an entry
  pub unknown_step : (at : Target) (room : ℕ) (old new : Listed S) (attempt : Attempt) → room ≡ 0 → attempt.answer ≡ 1 → new ≡ old
      → ListStep left drawn rest at room old attempt new
  unknown_step at zero old new attempt e answer same = (answer, same)
  unknown_step at (suc room) old new attempt e answer same = absurd (omega (arith, e))

  pub marked_step : (at : Target) (room : ℕ) (old new : Listed S) (attempt : Attempt) → (room ≡ 0 → ⊥) → Marked left drawn rest at old attempt new
      → new.room ≡ room - 1 → ListStep left drawn rest at room old attempt new
  marked_step at zero old new attempt some marked e = absurd (some refl)
  marked_step at (suc room) old new attempt some marked e = (marked, omega (arith, e))
