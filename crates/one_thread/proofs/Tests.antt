-- Two tests say whether a record is that of one thread.
use Rattle.std.proofs.Common.{◌≡◌, ℕ, Bool, true, false, ◌&&◌, List, [], ◌∷◌, ◌++◌, Option, Some, None, refl, sym, ap, subst, true≢false}
use Rattle.step_law.specs.declared.entry.Entry.{Entry}
use Rattle.record_law.specs.declared.shape.Broken.{Broken}
use Rattle.record_law.proofs.Splits.{same_first, same_rest, no_place}
use Rattle.session_play.specs.Playing.{playing, then_played}
use Rattle.session_play.specs.Rules.{judging, judged, IsLawfulRecord}
use Rattle.session_play.specs.Run.{Run}
use Rattle.session_play.specs.Value.{Play}
use Rattle.session_play.proofs.Verdicts.{verdict_is_lawful, verdict_is_first, lawful_has_none}
use Rattle.one_thread.specs.OneThread.{comes_next, all_come}
use Rattle.one_thread.specs.Laws.{TestsSay, TestsAreKept}

both : (a b : Bool) → (a && b) ≡ true → (a ≡ true) × (b ≡ true)
both true b e = (refl, e)
both false b e = absurd (true≢false (sym e))

from_both : (a b : Bool) → a ≡ true → b ≡ true → (a && b) ≡ true
from_both true b e f = f
from_both false b e f = e

abbrev ComeAfter : {F B : Type 0} → Run F B → Play F B → List Entry → Type 0
ComeAfter run p steps = (before later : List Entry) (e : Entry) → steps ≡ before ++ e ∷ later → comes_next run (playing run p before) e ≡ true

come_more : {F B : Type 0} → (run : Run F B) (p : Play F B) (x : Entry) (xs : List Entry) → comes_next run p x ≡ true → ComeAfter run (then_played run p x) xs
    → ComeAfter run p (x ∷ xs)
come_more run p x xs here rest [] later e split = subst (λ it. comes_next run p it ≡ true) (same_first x e xs later split) here
come_more run p x xs here rest (y ∷ before) later e split =
    subst (λ it. comes_next run (playing run (then_played run p it) before) e ≡ true) (same_first x y xs (before ++ e ∷ later) split)
    (rest before later e (same_rest x y xs (before ++ e ∷ later) split))

all_after : {F B : Type 0} → (run : Run F B) (p : Play F B) (steps : List Entry) → all_come run p steps ≡ true → ComeAfter run p steps
all_after run p [] all = λ before later e split. absurd (no_place before later e split)
all_after run p (x ∷ xs) all =
    let parts = both (comes_next run p x) (all_come run (then_played run p x) xs) all in
    come_more run p x xs parts.0 (all_after run (then_played run p x) xs parts.1)

test_after : {F B : Type 0} → (run : Run F B) (p : Play F B) (steps : List Entry) → ComeAfter run p steps → all_come run p steps ≡ true
test_after run p [] all = refl
test_after run p (x ∷ xs) all =
    from_both (comes_next run p x) (all_come run (then_played run p x) xs) (all [] xs x refl)
    (test_after run (then_played run p x) xs (λ before later e split. all (x ∷ before) later e (ap (λ l. x ∷ l) split)))

pub tests_say : {F B : Type 0} → TestsSay F B
tests_say run steps lawful come = record { lawful = verdict_is_lawful (judging run) steps lawful; turns = all_after run [] steps come }

is_judged : {F B : Type 0} → (run : Run F B) (steps : List Entry) → IsLawfulRecord run steps → judged run steps ≡ None
is_judged run steps lawful = by (judged run steps) refl
  where
    by : (o : Option (ℕ × Broken)) → judged run steps ≡ o → o ≡ None
    by None e = refl
    by (Some found) e =
        absurd (lawful_has_none (judging run) steps found.0 found.1 lawful (verdict_is_first (judging run) steps found.0 found.1 e))

pub tests_are_kept : {F B : Type 0} → TestsAreKept F B
tests_are_kept run steps one = (is_judged run steps one.lawful, test_after run [] steps one.turns)
