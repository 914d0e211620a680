-- The token of an actor that has done nothing.
use Rattle.std.proofs.Common.{◌≡◌, ℕ, zero, suc, ◌+◌, ◌-◌, ◌≤◌, List, [], ◌∷◌, ◌++◌, length, replicate, Option, refl, sym, ap, subst, ◌∙◌, ⊎_elim, length-append, arith}
use mathlib.Core.Option.{some, some-injective, some-ne-none}
use lib.ListN.{get_elem?, length-replicate, take}
use lib.Seq.{take-nil}
use Rattle.atomic_table.specs.Seated.{TableId}
use Rattle.atomic_table.specs.declared.shared.Seat.{Seat}
use Rattle.cable_trace.specs.declared.trace.Pending.TheVariants.{Idle}
use Rattle.cable_trace.specs.Step.{fresh}
use Rattle.cable_ring.specs.declared.pass.Count.{Count}
use Rattle.cable_ring.specs.declared.view.Plan.{Plan}
use Rattle.cable_ring.specs.declared.view.View.{View}
use Rattle.cable_ring.specs.declared.view.View.TheVariants.{Actor}
use Rattle.cable_ring.specs.Seats.{acting_of}
use Rattle.cable_ring.specs.Rule.{IsPlan}
use Rattle.cable_ring.specs.Steps.{Seated}
use Rattle.cable_ring.specs.Passes.{PassView, pass_at, IsResting, IsSized, AreCounts}
use Rattle.cable_ring.specs.Opened.{IsTableOf, new_pass, AreOpened}
use Rattle.cable_ring.proofs.SeatSteps.{at_end}

replicate-at : {A : Type 0} (n i : ℕ) (a b : A) → get_elem? (replicate n a) i ≡ some b → a ≡ b
replicate-at zero i a b e = absurd (some-ne-none b (sym e))
replicate-at (suc n) zero a b e = some-injective a b e
replicate-at (suc n) (suc i) a b e = replicate-at n i a b e

abbrev pub no_count : Count
no_count = record { sent = 0; shown = 0; taken = 0 }

-- filling up an empty list
pub filled_up : (counts : List Count) (len n : ℕ) → counts ≡ [] → len ≡ 0 → take n counts ++ replicate (n - len) no_count ≡ replicate n no_count
filled_up counts len n none zero-long = (λ i. take n (none i) ++ replicate (n - zero-long i) no_count) ∙ (λ i. take-nil {A = Count} n i ++ replicate (same i) no_count)
  where
    same : n - 0 ≡ n
    same = omega arith

module _ {M : Type 0} (table : TableId) (plan : Plan) (actor : ℕ) where
  abbrev pub Begun : Seated M
  Begun = (Actor (record { actor = actor; plan = plan; trace = fresh }), [])

  pub begun_pass : (place : Seat (Option M) (View M)) → place.table_id ≡ table → place.me ≡ Begun → pass_at place ≡ new_pass table plan actor
  begun_pass place t e = λ i. record { table = t i; actor = (acting_of (e i).0).actor; plan = (acting_of (e i).0).plan; events = (acting_of (e i).0).trace.events }

  pub begun_resting : (place : Seat (Option M) (View M)) → place.me ≡ Begun → IsResting place
  begun_resting place e = e ∙ sym (ap (λ (m : Seated M). (Actor (record { actor = (acting_of m.0).actor; plan = (acting_of m.0).plan; trace = record { events = (acting_of m.0).trace.events; pending = Idle } }), [])) e)

  pub begun_sized : (pass : PassView M) → pass ≡ new_pass table plan actor → IsPlan plan → IsTableOf table plan → IsSized pass
  begun_sized pass is limits of = subst (λ (p : PassView M). IsSized p) (sym is) (record { limits = limits; words = of.words; slots = of.slots })

  pub begun_counts : (pass : PassView M) (n : ℕ) → pass ≡ new_pass table plan actor → n ≡ length plan.rings → AreCounts (replicate n no_count) pass
  begun_counts pass n is long = subst (λ (p : PassView M). AreCounts (replicate n no_count) p) (sym is) (record {
    long = length-replicate n no_count ∙ long;
    sent_is = λ r k e. ap (λ (c : Count). c.sent) (sym (replicate-at n r no_count k e));
    shown_is = λ r k e. ap (λ (c : Count). c.shown) (sym (replicate-at n r no_count k e));
    taken_is = λ r k e. ap (λ (c : Count). c.taken) (sym (replicate-at n r no_count k e));
    behind = λ r k e. subst (λ (c : Count). c.taken ≤ c.shown) (replicate-at n r no_count k e) (omega arith);
  })

module _ {M : Type 0} (table : TableId) (plan : Plan) where
  pub opened_none : AreOpened {M = M} table plan 0 []
  opened_none = record { all = refl; each = λ actor pass e. absurd (some-ne-none pass (sym e)) }

  pub opened_more : (n : ℕ) (passes : List (PassView M)) (pass : PassView M) → pass ≡ new_pass table plan n → AreOpened table plan n passes → AreOpened table plan (n + 1) (passes ++ pass ∷ [])
  opened_more n passes pass is old = record {
    all = length-append passes (pass ∷ []) ∙ one-more (length passes) n old.all;
    each = λ actor p e. ⊎_elim (λ t. old.each actor p t) (λ t. sym t.1 ∙ is ∙ ap (λ (k : ℕ). new_pass table plan k) (sym (t.0 ∙ old.all))) (at_end passes pass p actor e);
  }
    where
      one-more : (a b : ℕ) → a ≡ b → a + length (pass ∷ []) ≡ b + 1
      one-more a b e = omega arith
