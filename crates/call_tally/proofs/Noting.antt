-- Steps put on a history, and the entries of a call noted one after the other.
use Rattle.std.proofs.Common.{◌≡◌, ℕ, zero, suc, ◌+◌, ◌<◌, ◌≤◌, ◌^◌, List, [], ◌∷◌, ◌++◌, map, take, length, slice_index_or, refl, sym, ap, subst, ◌∙◌, arith}
use Rattle.step_law.specs.declared.entry.Entry.{Entry}
use Rattle.graph_order.specs.declared.setup.Setup.{Setup}
use Rattle.record_law.specs.Message.{Message, Step, History}
use Rattle.record_counts.specs.Step.{step_of}
use Rattle.record_terms.specs.declared.message.Message.{Message as Told}
use Rattle.record_terms.specs.Message.{meaning_of}
use Rattle.play_known.specs.InCall.{then_steps}
use Rattle.run_summary.specs.declared.tally.Tally.{Tally}
use Rattle.run_summary.specs.Tallies.{Tallies}
use Rattle.told_calls.specs.Steps.{message_in, later_step, steps_for}

-- ---- steps

then_one_more : (h : History) (steps : List Step) (x : Step) → then_steps h (steps ++ x ∷ []) ≡ x ∷ then_steps h steps
then_one_more h [] x = refl
then_one_more h (y ∷ steps) x = then_one_more (y ∷ h) steps x

length_then : (h : History) (steps : List Step) → length (then_steps h steps) ≡ length h + length steps
length_then h [] = omega arith
length_then h (x ∷ steps) = let rest = length_then (x ∷ h) steps in omega (arith, rest)

-- the steps of entries after a call's begin
abbrev pub later_of : List (ℕ × Entry) → List Step
later_of marks = map later_step (map (λ (mark : ℕ × Entry). mark.1) marks)

one_more_of : (marks : List (ℕ × Entry)) (n : ℕ) (d : ℕ × Entry) → n < length marks
    → later_of (take (suc n) marks) ≡ later_of (take n marks) ++ later_step (slice_index_or marks n d).1 ∷ []
one_more_of [] n d there = absurd (omega (there, arith))
one_more_of (mark ∷ marks) zero d there = refl
one_more_of (mark ∷ marks) (suc n) d there = ap (λ (l : List Step). later_step mark.1 ∷ l) (one_more_of marks n d (omega (there, arith)))

few_of : (marks : List (ℕ × Entry)) (n : ℕ) → n < length marks → length (later_of (take n marks)) ≡ n
few_of [] n there = absurd (omega (there, arith))
few_of (mark ∷ marks) zero there = refl
few_of (mark ∷ marks) (suc n) there = ap suc (few_of marks n (omega (there, arith)))

all_of : (marks : List (ℕ × Entry)) (n : ℕ) → length marks ≤ n → later_of (take n marks) ≡ later_of marks
all_of [] zero over = refl
all_of [] (suc n) over = refl
all_of (mark ∷ marks) zero over = absurd (omega (over, arith))
all_of (mark ∷ marks) (suc n) over = ap (λ (l : List Step). later_step mark.1 ∷ l) (all_of marks n (omega (over, arith)))

-- ---- noted

-- so many of these entries were noted
abbrev pub Noted : List (ℕ × Entry) → ℕ → Tally → Tally → Type 0
Noted marks n old tally = (setup : Setup) (h : History) (failed : ℕ → ℕ) → length h + length marks < 2 ^ 63 → Tallies setup h failed old
    → Tallies setup (then_steps h (later_of (take n marks))) failed tally

-- what was counted goes on by a step
abbrev pub GoesOnBy : Tally → Entry → Message → Tally → Type 0
GoesOnBy old e about new = (setup : Setup) (h : History) (failed : ℕ → ℕ) → length h < 2 ^ 63 → Tallies setup h failed old
    → Tallies setup (step_of e about ∷ h) failed new

pub noted_one_more : (marks : List (ℕ × Entry)) (n : ℕ) (d : ℕ × Entry) (about : Message) (old tally new : Tally) → n < length marks
    → Noted marks n old tally → about ≡ message_in (slice_index_or marks n d).1.kind → GoesOnBy tally (slice_index_or marks n d).1 about new
    → Noted marks (n + 1) old new
noted_one_more marks n d about old tally new there noted is on setup h failed few tallies =
    let e : Entry = (slice_index_or marks n d).1 in
    let before : History = then_steps h (later_of (take n marks)) in
    let next : n + 1 ≡ suc n = omega arith in
    let long = length_then h (later_of (take n marks)) in
    let count = few_of marks n there in
    let steps : then_steps h (later_of (take (n + 1) marks)) ≡ later_step e ∷ before =
    ap (λ m. then_steps h (later_of (take m marks))) next ∙ ap (then_steps h) (one_more_of marks n d there)
    ∙ then_one_more h (later_of (take n marks)) (later_step e) in
    let same : step_of e about ∷ before ≡ later_step e ∷ before = ap (λ it. step_of e it ∷ before) is in
    subst (λ l. Tallies setup l failed new) (same ∙ sym steps)
    (on setup before failed (omega (long, count, there, few, arith)) (noted setup h failed few tallies))

pub all_noted : (marks : List (ℕ × Entry)) (n : ℕ) (old tally : Tally) → length marks ≤ n → Noted marks n old tally
    → (setup : Setup) (h : History) (failed : ℕ → ℕ) → length h + length marks < 2 ^ 63 → Tallies setup h failed old
    → Tallies setup (then_steps h (later_of marks)) failed tally
all_noted marks n old tally over noted setup h failed few tallies =
    subst (λ l. Tallies setup (then_steps h l) failed tally) (all_of marks n over) (noted setup h failed few tallies)

-- ---- a whole call

pub call_noted : (marks : List (ℕ × Entry)) (begin : ℕ × Entry) (later : List (ℕ × Entry)) → marks ≡ begin ∷ later → (about : Told) (old tally new : Tally)
    → GoesOnBy old begin.1 (meaning_of about) tally
    → ((setup : Setup) (h : History) (failed : ℕ → ℕ) → length h + length later < 2 ^ 63 → Tallies setup h failed tally → Tallies setup (then_steps h (later_of later)) failed new)
    → (setup : Setup) (h : History) (failed : ℕ → ℕ) → length h + length marks < 2 ^ 63 → Tallies setup h failed old
    → Tallies setup (then_steps h (steps_for (meaning_of about) (map (λ (mark : ℕ × Entry). mark.1) marks))) failed new
call_noted marks begin later is about old tally new begins goes setup h failed few tallies =
    let count = ap (λ (l : List (ℕ × Entry)). length l) is in
    let steps = ap (λ (l : List (ℕ × Entry)). then_steps h (steps_for (meaning_of about) (map (λ (mark : ℕ × Entry). mark.1) l))) is in
    subst (λ l. Tallies setup l failed new) (sym steps)
    (goes setup (step_of begin.1 (meaning_of about) ∷ h) failed (omega (count, few, arith)) (begins setup h failed (omega (count, few, arith)) tallies))
