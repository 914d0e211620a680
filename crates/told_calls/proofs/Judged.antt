-- The entries of a call, judged one after the other.
use Rattle.std.proofs.Common.{◌≡◌, ◌⊎◌, inl, inr, ℕ, zero, suc, ◌+◌, ◌<◌, ◌≤◌, List, [], ◌∷◌, ◌++◌, map, take, drop, length, slice_get, Some, refl, sym, ap, subst, ◌∙◌, arith}
use Rattle.std.proofs.lemmas.List.{length-map, length-append}
use Rattle.std.proofs.lemmas.Option.{none-some}
use Rattle.step_law.specs.declared.entry.Entry.{Entry}
use Rattle.record_law.specs.declared.shape.Shape.{Shape}
use Rattle.record_law.specs.Message.{Message}
use Rattle.record_law.specs.Protocol.{follow_in, about_in, history_of}
use Rattle.record_law.proofs.Classes.{after_append}
use Rattle.judged_log.specs.Followed.{entries_of}
use Rattle.play_known.specs.Calling.{AreTold}
use Rattle.told_calls.specs.Steps.{message_in, later_step, steps_for}

-- what an entry at a place is about
abbrev pub about_at : Shape → List Entry → ℕ → Entry → Message
about_at s entries place entry = about_in (follow_in s (history_of s (take place entries)) entry)

-- ---- places

record Here (entries : List Entry) (n : ℕ) (e : Entry) (later : List Entry) : Type 0 where
  got : slice_get entries n ≡ Some e
  rest : drop (suc n) entries ≡ later
  front : take (suc n) entries ≡ take n entries ++ e ∷ []

here_at : (entries : List Entry) (n : ℕ) (e : Entry) (later : List Entry) → drop n entries ≡ e ∷ later → Here entries n e later
here_at [] zero e later is = absurd (no_more e later (sym is))
  where
    no_more : (e : Entry) (later : List Entry) → e ∷ later ≡ [] → ⊥
    no_more e later same = absurd (omega (arith, ap (λ (l : List Entry). length l) same))
here_at [] (suc n) e later is = absurd (no_more e later (sym is))
  where
    no_more : (e : Entry) (later : List Entry) → e ∷ later ≡ [] → ⊥
    no_more e later same = absurd (omega (arith, ap (λ (l : List Entry). length l) same))
here_at (x ∷ entries) zero e later is = record {
  got = ap (λ (l : List Entry). slice_get l 0) is;
  rest = ap (λ (l : List Entry). drop 1 l) is;
  front = ap (λ (l : List Entry). take 1 l) is;
}
here_at (x ∷ entries) (suc n) e later is =
    let more = here_at entries n e later is in
    record { got = more.got; rest = more.rest; front = ap (λ (l : List Entry). x ∷ l) more.front }

history_more : (s : Shape) (entries : List Entry) (n : ℕ) (e : Entry) (later : List Entry) (about : Message) → Here entries n e later
    → about_at s entries n e ≡ about → history_of s (take (suc n) entries) ≡ record { entry = e; about = about } ∷ history_of s (take n entries)
history_more s entries n e later about here is =
    ap (history_of s) here.front ∙ after_append s [] (take n entries) (e ∷ [])
    ∙ (λ t. record { entry = e; about = is t } ∷ history_of s (take n entries))

-- ---- all of them

-- each entry from a place on is about what its kind says
abbrev pub SayKinds : Shape → List Entry → ℕ → Type 0
SayKinds s entries from = (place : ℕ) (entry : Entry) → from ≤ place → slice_get entries place ≡ Some entry → about_at s entries place entry ≡ message_in entry.kind

told_from : (s : Shape) (entries later : List Entry) (n : ℕ) → drop n entries ≡ later → SayKinds s entries n
    → AreTold s (history_of s (take n entries)) (map later_step later)
told_from s entries [] n is say = tt
told_from s entries (e ∷ later) n is say =
    let here = here_at entries n e later is in
    let about : about_at s entries n e ≡ message_in e.kind = say n e (omega arith) here.got in (
      about,
      subst (λ h. AreTold s h (map later_step later)) (history_more s entries n e later (message_in e.kind) here about)
          (told_from s entries later (suc n) here.rest (λ place entry from. say place entry (omega (from, arith)))),
    )

dropped : (entries : List Entry) (n : ℕ) → n < length entries → drop n entries ≡ [] → ⊥
dropped [] n there is = omega (there, arith)
dropped (e ∷ entries) zero there is = absurd (omega (arith, ap (λ (l : List Entry). length l) is))
dropped (e ∷ entries) (suc n) there is = dropped entries n (omega (there, arith)) is

pub all_told : (s : Shape) (entries : List Entry) (from : ℕ) (about : Message) → from < length entries
    → ((entry : Entry) → slice_get entries from ≡ Some entry → about_at s entries from entry ≡ about) → SayKinds s entries (from + 1)
    → AreTold s (history_of s (take from entries)) (steps_for about (drop from entries))
all_told s entries from about there first say = by (drop from entries) refl
  where
    by : (left : List Entry) → drop from entries ≡ left → AreTold s (history_of s (take from entries)) (steps_for about left)
    by [] is = absurd (dropped entries from there is)
    by (e ∷ later) is =
        let here = here_at entries from e later is in
        let is_about : about_at s entries from e ≡ about = first e here.got in (
          is_about,
          subst (λ h. AreTold s h (map later_step later)) (history_more s entries from e later about here is_about)
              (told_from s entries later (suc from) here.rest (λ place entry later_than. say place entry (omega (later_than, arith)))),
        )

-- ---- in a loop

-- the places before one
abbrev pub SayKindsTo : Shape → List Entry → ℕ → ℕ → Type 0
SayKindsTo s entries from until =
    (place : ℕ) (entry : Entry) → from ≤ place → place < until → slice_get entries place ≡ Some entry → about_at s entries place entry ≡ message_in entry.kind

lower_or_same : (n m : ℕ) → n < m + 1 → (n < m) ⊎ (n ≡ m)
lower_or_same zero zero less = inr refl
lower_or_same zero (suc m) less = inl (omega arith)
lower_or_same (suc n) zero less = absurd (omega (less, arith))
lower_or_same (suc n) (suc m) less = by (lower_or_same n m (omega (less, arith)))
  where
    by : (n < m) ⊎ (n ≡ m) → (suc n < suc m) ⊎ (suc n ≡ suc m)
    by (inl lower) = inl (omega (lower, arith))
    by (inr same) = inr (ap suc same)

pub one_more_says : (s : Shape) (entries : List Entry) (from at : ℕ) → SayKindsTo s entries from at
    → ((entry : Entry) → slice_get entries at ≡ Some entry → about_at s entries at entry ≡ message_in entry.kind) → SayKindsTo s entries from (at + 1)
one_more_says s entries from at say here place entry later before got = by (lower_or_same place at before)
  where
    by : (place < at) ⊎ (place ≡ at) → about_at s entries place entry ≡ message_in entry.kind
    by (inl lower) = say place entry later lower got
    by (inr same) =
        ap (λ n. about_at s entries n entry) same ∙ here entry (ap (λ n. slice_get entries n) (sym same) ∙ got)

got_there : (entries : List Entry) (place : ℕ) (entry : Entry) → slice_get entries place ≡ Some entry → place < length entries
got_there [] place entry got = absurd (none-some entry got)
got_there (e ∷ entries) zero entry got = omega arith
got_there (e ∷ entries) (suc place) entry got = let rest = got_there entries place entry got in omega (rest, arith)

pub all_say : (s : Shape) (entries : List Entry) (from at : ℕ) → length entries ≤ at → SayKindsTo s entries from at → SayKinds s entries from
all_say s entries from at over say place entry later got =
    let there = got_there entries place entry got in say place entry later (omega (there, over, arith)) got

-- ---- the entries of a log

take_all_of : (first second : List Entry) (n : ℕ) → n ≡ length first → take n (first ++ second) ≡ first
take_all_of [] second zero is = refl
take_all_of [] second (suc n) is = absurd (omega (is, arith))
take_all_of (e ∷ first) second zero is = absurd (omega (is, arith))
take_all_of (e ∷ first) second (suc n) is = ap (λ (l : List Entry). e ∷ l) (take_all_of first second n (omega (is, arith)))

drop_all_of : (first second : List Entry) (n : ℕ) → n ≡ length first → drop n (first ++ second) ≡ second
drop_all_of [] second zero is = refl
drop_all_of [] second (suc n) is = absurd (omega (is, arith))
drop_all_of (e ∷ first) second zero is = absurd (omega (is, arith))
drop_all_of (e ∷ first) second (suc n) is = drop_all_of first second n (omega (is, arith))

pub entry_count : (marks : List (ℕ × Entry)) → length (entries_of marks) ≡ length marks
entry_count marks = length-map marks (λ (mark : ℕ × Entry). mark.1)

-- what stood there before a call, and what the call added
pub stood : (old new : List (ℕ × Entry)) (more : List Entry) → entries_of new ≡ entries_of old ++ more → take (length old) (entries_of new) ≡ entries_of old
stood old new more is =
    ap (take (length old)) is ∙ take_all_of (entries_of old) more (length old) (sym (entry_count old))

pub added : (old new : List (ℕ × Entry)) (more : List Entry) → entries_of new ≡ entries_of old ++ more → drop (length old) (entries_of new) ≡ more
added old new more is =
    ap (drop (length old)) is ∙ drop_all_of (entries_of old) more (length old) (sym (entry_count old))

pub grown : (old new : List (ℕ × Entry)) (e : Entry) (more : List Entry) → entries_of new ≡ entries_of old ++ e ∷ more → length old < length new
grown old new e more is =
    let here = entry_count new in
    let there = entry_count old in
    let all = ap (λ (l : List Entry). length l) is ∙ length-append (entries_of old) (e ∷ more) in
    omega (here, there, all, arith)
