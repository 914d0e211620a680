-- The entries of a log, at their places.
use Rattle.std.proofs.Common.{◌≡◌, ℕ, zero, suc, ◌+◌, ◌<◌, ◌≤◌, ◌^◌, List, [], ◌∷◌, ◌++◌, map, take, drop, length, slice_get, slice_index_or, Option, Some, None, Result, Ok, Err, IfOk, IfErr, refl, sym, ap, subst, ◌∙◌, arith}
use Rattle.std.specs.Prelude.{unwrap_or}
use Rattle.std.specs.Result.{result_err}
use Rattle.std.proofs.lemmas.List.{length-map, length-take, map-append}
use Rattle.std.proofs.lemmas.Option.{none-some}
use Rattle.step_law.specs.declared.entry.Entry.{Entry}
use Rattle.record_law.specs.declared.shape.Broken.{Broken}
use Rattle.record_law.specs.declared.shape.Shape.{Shape}
use Rattle.judged_log.specs.declared.follower.Follower.{Follower}
use Rattle.judged_log.specs.Followed.{entries_of, IsFollowed, next_broken, BreaksAfter}

pub few_marks : (marks shown : List (ℕ × Entry)) → shown ≡ marks → length shown < 2 ^ 63 → length (entries_of marks) < 2 ^ 63
few_marks marks shown same few =
    let count = length-map marks (λ (mark : ℕ × Entry). mark.1) in
    let shown_count : length shown ≡ length marks = ap (λ (l : List (ℕ × Entry)). length l) same in
    omega (arith, few, count, shown_count)

pub few_taken : (place : ℕ) (marks shown : List (ℕ × Entry)) → shown ≡ marks → length shown < 2 ^ 63 → length (take place (entries_of marks)) < 2 ^ 63
few_taken place marks shown same few =
    let all = few_marks marks shown same few in
    let taken = length-take place (entries_of marks) in
    omega (arith, all, taken)

one_more : (marks : List (ℕ × Entry)) (place : ℕ) (d : ℕ × Entry) → place < length marks
    → take (suc place) (entries_of marks) ≡ take place (entries_of marks) ++ (slice_index_or marks place d).1 ∷ []
one_more [] place d there = absurd (omega (there, arith))
one_more (mark ∷ marks) zero d there = refl
one_more (mark ∷ marks) (suc place) d there = ap (λ (l : List Entry). mark.1 ∷ l) (one_more marks place d (omega (there, arith)))

pub take_place : (marks shown : List (ℕ × Entry)) → shown ≡ marks → (place : ℕ) (d : ℕ × Entry) → place < length marks
    → take (place + 1) (entries_of marks) ≡ take place (entries_of marks) ++ (slice_index_or shown place d).1 ∷ []
take_place marks shown same place d there =
    let next : place + 1 ≡ suc place = omega arith in
    ap (λ n. take n (entries_of marks)) next ∙ one_more marks place d there
    ∙ ap (λ (l : List (ℕ × Entry)). take place (entries_of marks) ++ (slice_index_or l place d).1 ∷ []) (sym same)

got : (marks : List (ℕ × Entry)) (place : ℕ) (d : ℕ × Entry) (entry : Entry) → slice_get (entries_of marks) place ≡ Some entry
    → (slice_index_or marks place d).1 ≡ entry
got [] place d entry is = absurd (none-some entry is)
got (mark ∷ marks) zero d entry is = ap (λ (o : Option Entry). unwrap_or o entry) is
got (mark ∷ marks) (suc place) d entry is = got marks place d entry is

pub at_place : (marks shown : List (ℕ × Entry)) → shown ≡ marks → (place : ℕ) (d : ℕ × Entry) (entry : Entry)
    → slice_get (entries_of marks) place ≡ Some entry → (slice_index_or shown place d).1 ≡ entry
at_place marks shown same place d entry is = ap (λ (l : List (ℕ × Entry)). (slice_index_or l place d).1) same ∙ got marks place d entry is

-- ---- answers

pub if_ok : {T E : Type 0} {P Q : T → Type 0} → (r : Result T E) → ((x : T) → P x → Q x) → IfOk r P → IfOk r Q
if_ok (Ok x) go p = go x p
if_ok (Err e) go p = tt

pub err_is : {T E : Type 0} → (P : E → Type 0) (r : Result T E) (e : E) → result_err r ≡ Some e → P e → IfErr r P
err_is P (Ok x) e is p = tt
err_is P (Err f) e is p = subst P (sym (ap (λ o. unwrap_or o f) is)) p

pub if_err : {T E : Type 0} {Q : E → Type 0} → (r : Result T E) → ((e : E) → result_err r ≡ Some e → Q e) → IfErr r Q
if_err (Ok x) go = tt
if_err (Err e) go = go e refl

pub put_more : (log : List (ℕ × Entry)) (mark : ℕ × Entry) → entries_of (log ++ mark ∷ []) ≡ entries_of log ++ mark.1 ∷ []
put_more log mark = map-append (λ (it : ℕ × Entry). it.1) log (mark ∷ [])

-- ---- the first entry that breaks a rule

pub all_taken : (steps : List Entry) (n : ℕ) → length steps ≤ n → take n steps ≡ steps
all_taken [] zero few = refl
all_taken [] (suc n) few = refl
all_taken (e ∷ steps) zero few = absurd (omega (few, arith))
all_taken (e ∷ steps) (suc n) few = ap (λ (l : List Entry). e ∷ l) (all_taken steps n (omega (few, arith)))

pub split_at : (steps : List Entry) (place : ℕ) → place < length steps
    → (here : Entry) × (steps ≡ take place steps ++ here ∷ drop (suc place) steps) × (slice_get steps place ≡ Some here)
split_at [] place there = absurd (omega (there, arith))
split_at (e ∷ steps) zero there = (e, refl, refl)
split_at (e ∷ steps) (suc place) there =
    let rest = split_at steps place (omega (there, arith)) in
    (rest.0, ap (λ (l : List Entry). e ∷ l) rest.1, rest.2)

pub breaks_at : (s : Shape) (from place : ℕ) (steps : List Entry) (broken : Broken) (follower : Follower) → from ≤ place → place < length steps
    → IsFollowed s (take place steps) follower
    → ((entry : Entry) → slice_get steps place ≡ Some entry → next_broken s (take place steps) entry ≡ Some broken) → BreaksAfter s from steps broken
breaks_at s from place steps broken follower later there was breaks =
    let at = split_at steps place there in
    let taken = length-take place steps in
    record {
      before = take place steps;
      here = at.0;
      later = drop (suc place) steps;
      split = at.1;
      place = omega (arith, later, there, taken);
      kept = was.keeps_rules;
      breaks = breaks at.0 at.2;
    }
