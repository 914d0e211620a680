-- Tallies go on: by an entry, and by a failure.
use Rattle.std.proofs.Common.{◌≡◌, ℕ, ◌+◌, ◌<◌, ◌≤◌, ◌^◌, ◌==◌, Bool, true, false, not, ◌&&◌, ◌||◌, cond, List, [], ◌∷◌, length, slice_set, Option, Some, None, refl, sym, ap, subst, ◌∙◌, ⊎_elim, arith, eq-eqb, ne_eqb}
use Rattle.std.proofs.lemmas.Bool.{cases_eq}
use Rattle.std.proofs.lemmas.List.{length-set}
use Rattle.step_law.specs.declared.entry.Entry.{Entry}
use Rattle.step_law.specs.declared.entry.Kind.TheVariants.{Take, Full, Long, Last}
use Rattle.step_law.specs.declared.ring.Ring.TheVariants.{ControlToAudio}
use Rattle.graph_order.specs.declared.setup.Setup.{Setup}
use Rattle.record_law.specs.Entries.{is_kind, is_on}
use Rattle.record_law.specs.Message.{Message, Step, History}
use Rattle.record_law.specs.Message.Message.{nothing, body, notice, input, lend, part, give, save, restore, answer, close}
use Rattle.record_law.specs.History.{one_more}
use Rattle.record_counts.specs.Table.{IsTable}
use Rattle.record_counts.proofs.Tables.{table_set, table_same}
use Rattle.session_play.specs.Notices.{is_notice}
use Rattle.play_outcome.specs.Counts as counts
use Rattle.run_summary.specs.declared.counter.Counter.{Counter}
use Rattle.run_summary.specs.declared.counter.Counter.TheVariants.{Errors}
use Rattle.run_summary.specs.declared.counter.InstTally.{InstTally}
use Rattle.run_summary.specs.declared.tally.Tally.{Tally}
use Rattle.run_summary.specs.Counting.{one_up, counted_for, raised_by, HasRoom, is_step, is_lost, input_in, input_taken, taken_with}
use Rattle.run_summary.specs.Tallies.{counts_of, Tallies, one_failed}
use Rattle.run_summary.proofs.Counts.{counts_more}
use Rattle.run_summary.proofs.Few.{number_most, room}

-- ---- what audio took

-- a take of an action's input is one of that action and of no other
took_more : (h : History) (x : Step) (taken : List Bool) → IsTable (counts.was_taken h) taken → IsTable (counts.was_taken (x ∷ h)) (taken_with (input_taken x.entry x.about) taken)
took_more h x taken table = by (is_on Take ControlToAudio x.entry) x.about
  where
    others : (action i : ℕ) → (i ≡ action → ⊥) → counts.was_taken h i ≡ ((true && (action == i)) || counts.was_taken h i)
    others action i other = ap (λ (b : Bool). b || counts.was_taken h i) (sym (ne_eqb action i (λ same. other (sym same))))

    by : (on : Bool) (about : Message)
        → IsTable (λ i. (on && counts.is_input_of i about) || counts.was_taken h i) (taken_with (cond on (input_in about) None) taken)
    by false about = table
    by true nothing = table
    by true body = table
    by true (notice inst) = table
    by true (input action) =
        table_set (counts.was_taken h) (λ i. (true && (action == i)) || counts.was_taken h i) taken action true table
        (λ within. sym (ap (λ (b : Bool). b || counts.was_taken h action) (eq-eqb action action refl)))
        (λ i other. others action i other)
    by true (lend inst) = table
    by true (part inst) = table
    by true (give inst) = table
    by true (save action inst) = table
    by true (restore action inst) = table
    by true (answer action) = table
    by true close = table

as_long : (action : Option ℕ) (taken : List Bool) → length (taken_with action taken) ≡ length taken
as_long None taken = refl
as_long (Some action) taken = length-set taken action true

-- ---- by an entry

module _ (setup : Setup) (h : History) (failed : ℕ → ℕ) (x : Step) (less : length h < 2 ^ 63) (old whole inst new : Tally) (told : Tallies setup h failed old) where
  pub after_note : whole ≡ record old { lost = whole.lost; entries = whole.entries }
      → (old.lost + 1 < 2 ^ 64 → whole.lost ≡ one_more (is_lost x.entry x.about) old.lost)
      → (old.entries + 1 < 2 ^ 64 → whole.entries ≡ one_more (is_step x.entry) old.entries)
      → ((f : ℕ → InstTally) → HasRoom (counted_for x.entry) f → IsTable f whole.insts → IsTable (λ i. raised_by (counted_for x.entry) i (f i)) inst.insts)
      → length inst.insts ≡ length whole.insts
      → inst ≡ record whole { insts = inst.insts }
      → new ≡ record inst { taken = taken_with (input_taken x.entry x.about) inst.taken }
      → Tallies setup (x ∷ h) failed new
  after_note whole_rest lost entries each all inst_rest input_is =
      let kept : whole.insts ≡ old.insts = ap (λ (it : Tally). it.insts) whole_rest in
      let given : inst.insts ≡ new.insts = sym (ap (λ (it : Tally). it.insts) input_is) in
      let flags : old.taken ≡ inst.taken = sym (ap (λ (it : Tally). it.taken) inst_rest ∙ ap (λ (it : Tally). it.taken) whole_rest) in
      let flagged : taken_with (input_taken x.entry x.about) inst.taken ≡ new.taken = sym (ap (λ (it : Tally). it.taken) input_is) in
      let few_lost : old.lost + 1 < 2 ^ 64 =
      omega (arith, told.losses, number_most (λ (y : Step). (is_kind Full y.entry || is_kind Long y.entry) && is_notice y.about) h, less) in
      let few_entries : old.entries + 1 < 2 ^ 64 = omega (arith, told.steps, number_most (λ (y : Step). not (is_kind Last y.entry)) h, less) in
      let before : IsTable (counts_of h failed) whole.insts = subst (IsTable (counts_of h failed)) (sym kept) told.each in
      let after = each (counts_of h failed) (room h failed less x.entry.kind x.entry.a x.entry.b) before in
      record {
        each = subst (IsTable (counts_of (x ∷ h) failed)) given (table_same _ (counts_of (x ∷ h) failed) inst.insts after (λ i. sym (counts_more h failed i x)));
        insts = sym (ap length given) ∙ all ∙ ap length kept ∙ told.insts;
        took = subst (IsTable (counts.was_taken (x ∷ h))) flagged (took_more h x inst.taken (subst (IsTable (counts.was_taken h)) flags told.took));
        actions = sym (ap length flagged) ∙ as_long (input_taken x.entry x.about) inst.taken ∙ sym (ap length flags) ∙ told.actions;
        losses =
            ap (λ (it : Tally). it.lost) input_is ∙ ap (λ (it : Tally). it.lost) inst_rest ∙ lost few_lost
            ∙ ap (one_more (is_lost x.entry x.about)) told.losses;
        steps =
            ap (λ (it : Tally). it.entries) input_is ∙ ap (λ (it : Tally). it.entries) inst_rest ∙ entries few_entries
            ∙ ap (one_more (is_step x.entry)) told.steps;
      }

-- ---- by a failure

failed_more : (h : History) (failed : ℕ → ℕ) (inst i : ℕ) → raised_by (Some (inst, Errors)) i (counts_of h failed i) ≡ counts_of h (one_failed inst failed) i
failed_more h failed inst i = by (inst == i)
  where
    by : (b : Bool) → cond b (one_up Errors (counts_of h failed i)) (counts_of h failed i) ≡ counts_of h (λ other. cond b (failed other + 1) (failed other)) i
    by true = refl
    by false = refl

pub after_failure : (setup : Setup) (h : History) (failed : ℕ → ℕ) (inst : ℕ) (old new : Tally) → Tallies setup h failed old
    → IsTable (λ i. raised_by (Some (inst, Errors)) i (counts_of h failed i)) new.insts → length new.insts ≡ length old.insts
    → new ≡ record old { insts = new.insts } → Tallies setup h (one_failed inst failed) new
after_failure setup h failed inst old new told each all rest = record {
  each = table_same _ (counts_of h (one_failed inst failed)) new.insts each (λ i. failed_more h failed inst i);
  insts = all ∙ told.insts;
  took = subst (IsTable (counts.was_taken h)) (sym (ap (λ (it : Tally). it.taken) rest)) told.took;
  actions = ap (λ (it : Tally). length it.taken) rest ∙ told.actions;
  losses = ap (λ (it : Tally). it.lost) rest ∙ told.losses;
  steps = ap (λ (it : Tally). it.entries) rest ∙ told.steps;
}

-- one instance more is counted of, or the counts stay
pub raised_same : (f : ℕ → InstTally) (insts : List InstTally) → IsTable f insts → IsTable (λ i. raised_by None i (f i)) insts
raised_same f insts table = table
