-- The verdict says whether a record is lawful, and what its first violation is; and there is one verdict.
use Rattle.std.proofs.Common.{◌≡◌, ◌⊎◌, ℕ, suc, ◌+◌, ◌<◌, Bool, true, false, List, [], ◌∷◌, ◌++◌, length, Option, Some, None, refl, sym, ap, subst, ◌∙◌, inl, inr, ⊎_elim, arith, true≢false}
use Rattle.std.proofs.lemmas.Bool.{cases_order}
use Rattle.std.proofs.lemmas.Option.{none-some, same_Some}
use Rattle.step_law.specs.declared.entry.Entry.{Entry}
use Rattle.step_law.specs.declared.entry.Kind.TheVariants.{Last}
use Rattle.record_law.specs.declared.shape.Broken.{Broken}
use Rattle.record_law.specs.declared.shape.Broken.TheVariants as rule
use Rattle.record_law.specs.Entries.{is_kind}
use Rattle.record_law.specs.Lawful.{ends_by}
use Rattle.record_law.specs.Verdict.{at_line, if_ended}
use Rattle.record_law.proofs.Splits.{same_first, same_rest, no_place, same_place}
use Rattle.session_play.specs.Judging.{Judging, known_after, broken_at, KeepsRules, IsLawful, IsFirstAt, IsViolation, verdict_from, verdict}
use Rattle.session_play.specs.Laws.{HasSomeVerdict, HasOneViolation, LawfulHasNone, VerdictIsLawful, VerdictIsFirst}

-- the line and the rule of a verdict
abbrev line_in : Option (ℕ × Broken) → ℕ
line_in None = 0
line_in (Some it) = it.0

abbrev rule_in : Option (ℕ × Broken) → Broken
rule_in None = rule.End
rule_in (Some it) = it.1

abbrev at : ℕ → Broken → Option (ℕ × Broken)
at line broken = Some (line, broken)

-- no entry after a history breaks a rule
abbrev pub KeepsFrom : {S : Type 0} → Judging S → S → List Entry → Type 0
KeepsFrom j h steps = (before later : List Entry) (e : Entry) → steps ≡ before ++ e ∷ later → broken_at j (known_after j h before) e later ≡ None

-- one more at the front
pub keeps_more : {S : Type 0} → (j : Judging S) (h : S) (x : Entry) (xs : List Entry) → broken_at j h x xs ≡ None → KeepsFrom j (j.next h x) xs → KeepsFrom j h (x ∷ xs)
keeps_more j h x xs here rest [] later e split =
    subst (λ it. broken_at j h it later ≡ None) (same_first x e xs later split) (subst (λ l. broken_at j h x l ≡ None) (same_rest x e xs later split) here)
keeps_more j h x xs here rest (y ∷ before) later e split =
    subst (λ it. broken_at j (known_after j (j.next h it) before) e later ≡ None) (same_first x y xs (before ++ e ∷ later) split)
    (rest before later e (same_rest x y xs (before ++ e ∷ later) split))

-- ---- a verdict of none

at_line_none : (line : ℕ) (o : Option Broken) (rest : Option (ℕ × Broken)) → at_line line o rest ≡ None → (o ≡ None) × (rest ≡ None)
at_line_none line None rest e = (refl, e)
at_line_none line (Some broken) rest e = let it : ℕ × Broken = (line, broken) in absurd (none-some it (sym e))

if_ended_none : (line : ℕ) (ended : Bool) → if_ended line ended ≡ None → ended ≡ true
if_ended_none line true e = refl
if_ended_none line false e = let it : ℕ × Broken = (line, rule.End) in absurd (none-some it (sym e))

pub lawful_from : {S : Type 0} → (j : Judging S) (h : S) (line : ℕ) (ended : Bool) (steps : List Entry) → verdict_from j h line ended steps ≡ None
    → KeepsFrom j h steps × (ends_by ended steps ≡ true)
lawful_from j h line ended [] e = ((λ before later x split. absurd (no_place before later x split)), if_ended_none line ended e)
lawful_from j h line ended (x ∷ xs) e =
    let parts = at_line_none line (broken_at j h x xs) (verdict_from j (j.next h x) (suc line) (is_kind Last x) xs) e in
    let rest = lawful_from j (j.next h x) (suc line) (is_kind Last x) xs parts.1 in
    (keeps_more j h x xs parts.0 rest.0, rest.1)

pub verdict_is_lawful : {S : Type 0} → VerdictIsLawful S
verdict_is_lawful j steps e = let both = lawful_from j j.start 2 false steps e in record { keeps_rules = both.0; ended = both.1 }

-- ---- a verdict of a line and a rule

record FirstFrom {S : Type 0} (j : Judging S) (h : S) (start : ℕ) (steps : List Entry) (line : ℕ) (broken : Broken) : Type 0 where
  before : List Entry
  here : Entry
  later : List Entry
  split : steps ≡ before ++ here ∷ later
  place : line ≡ length before + start
  kept : (earlier rest : List Entry) (e : Entry) → steps ≡ earlier ++ e ∷ rest → length earlier < length before → broken_at j (known_after j h earlier) e rest ≡ None
  breaks : broken_at j (known_after j h before) here later ≡ Some broken

record UnendedFrom {S : Type 0} (j : Judging S) (h : S) (start : ℕ) (ended : Bool) (steps : List Entry) (line : ℕ) (broken : Broken) : Type 0 where
  keeps : KeepsFrom j h steps
  missing : ends_by ended steps ≡ false
  place : line ≡ length steps + start
  is_end : broken ≡ rule.End

-- the entry at hand breaks a rule
first_here : {S : Type 0} → (j : Judging S) (h : S) (start line : ℕ) (x : Entry) (xs : List Entry) (found broken : Broken) → broken_at j h x xs ≡ Some found
    → at start found ≡ at line broken → FirstFrom j h start (x ∷ xs) line broken
first_here j h start line x xs found broken breaks e = record {
  before = [];
  here = x;
  later = xs;
  split = refl;
  place = let same : start ≡ line = ap line_in e in omega (arith, same);
  kept = λ earlier rest y split fewer. absurd (omega (arith, fewer));
  breaks = subst (λ it. broken_at j h x xs ≡ Some it) (ap rule_in e) breaks;
}

-- a later one does
first_later : {S : Type 0} → (j : Judging S) (h : S) (start line : ℕ) (x : Entry) (xs : List Entry) (broken : Broken) → broken_at j h x xs ≡ None
    → FirstFrom j (j.next h x) (suc start) xs line broken → FirstFrom j h start (x ∷ xs) line broken
first_later j h start line x xs broken here f = record {
  before = x ∷ f.before;
  here = f.here;
  later = f.later;
  split = ap (λ l. x ∷ l) f.split;
  place = let p = f.place in omega (arith, p);
  kept = kept_before;
  breaks = f.breaks;
}
  where
    kept_before : (earlier rest : List Entry) (e : Entry) → x ∷ xs ≡ earlier ++ e ∷ rest → length earlier < suc (length f.before)
        → broken_at j (known_after j h earlier) e rest ≡ None
    kept_before [] rest e split fewer =
        subst (λ it. broken_at j h it rest ≡ None) (same_first x e xs rest split) (subst (λ l. broken_at j h x l ≡ None) (same_rest x e xs rest split) here)
    kept_before (y ∷ earlier) rest e split fewer =
        subst (λ it. broken_at j (known_after j (j.next h it) earlier) e rest ≡ None) (same_first x y xs (earlier ++ e ∷ rest) split)
        (f.kept earlier rest e (same_rest x y xs (earlier ++ e ∷ rest) split) (omega (arith, fewer)))

unended_later : {S : Type 0} → (j : Judging S) (h : S) (start line : ℕ) (ended : Bool) (x : Entry) (xs : List Entry) (broken : Broken) → broken_at j h x xs ≡ None
    → UnendedFrom j (j.next h x) (suc start) (is_kind Last x) xs line broken → UnendedFrom j h start ended (x ∷ xs) line broken
unended_later j h start line ended x xs broken here u = record {
  keeps = keeps_more j h x xs here u.keeps;
  missing = u.missing;
  place = let p = u.place in omega (arith, p);
  is_end = u.is_end;
}

unended_here : {S : Type 0} → (j : Judging S) (h : S) (start line : ℕ) (ended : Bool) (broken : Broken) → if_ended start ended ≡ Some (line, broken)
    → UnendedFrom j h start ended [] line broken
unended_here j h start line true broken e = let it : ℕ × Broken = (line, broken) in absurd (none-some it e)
unended_here j h start line false broken e = record {
  keeps = λ before later x split. absurd (no_place before later x split);
  missing = refl;
  place = let same : start ≡ line = ap line_in e in omega (arith, same);
  is_end = sym (ap rule_in e);
}

first_from : {S : Type 0} → (j : Judging S) (h : S) (start line : ℕ) (ended : Bool) (steps : List Entry) (broken : Broken)
    → verdict_from j h start ended steps ≡ Some (line, broken) → FirstFrom j h start steps line broken ⊎ UnendedFrom j h start ended steps line broken
first_from j h start line ended [] broken e = inr (unended_here j h start line ended broken e)
first_from j h start line ended (x ∷ xs) broken e =
    by (broken_at j h x xs) refl (first_from j (j.next h x) (suc start) line (is_kind Last x) xs broken) e
  where
    by : (o : Option Broken) → broken_at j h x xs ≡ o
        → (verdict_from j (j.next h x) (suc start) (is_kind Last x) xs ≡ Some (line, broken) → FirstFrom j (j.next h x) (suc start) xs line broken ⊎ UnendedFrom j (j.next h x) (suc start) (is_kind Last x) xs line broken)
        → at_line start o (verdict_from j (j.next h x) (suc start) (is_kind Last x) xs) ≡ Some (line, broken)
        → FirstFrom j h start (x ∷ xs) line broken ⊎ UnendedFrom j h start ended (x ∷ xs) line broken
    by None none later e' =
        ⊎_elim (λ f. inl (first_later j h start line x xs broken none f)) (λ u. inr (unended_later j h start line ended x xs broken none u)) (later e')
    by (Some found) some later e' = inl (first_here j h start line x xs found broken some e')

pub verdict_is_first : {S : Type 0} → VerdictIsFirst S
verdict_is_first j steps line broken e =
    ⊎_elim
    (λ f. inl (record { before = f.before; here = f.here; later = f.later; split = f.split; place = f.place; kept = f.kept; breaks = f.breaks }))
    (λ u. inr (record { keeps_rules = u.keeps; missing = u.missing; place = u.place; is_end = u.is_end }))
    (first_from j j.start 2 line false steps broken e)

pub has_some_verdict : {S : Type 0} → HasSomeVerdict S
has_some_verdict j steps = by (verdict j steps) refl
  where
    by : (o : Option (ℕ × Broken)) → verdict j steps ≡ o → IsLawful j steps ⊎ ((line : ℕ) × (broken : Broken) × IsViolation j steps line broken)
    by None e = inl (verdict_is_lawful j steps e)
    by (Some found) e = inr (found.0, found.1, verdict_is_first j steps found.0 found.1 e)

-- ---- one verdict

-- an entry that breaks a rule is none that keeps them
unlike : (o : Option Broken) (broken : Broken) → o ≡ None → o ≡ Some broken → ⊥
unlike o broken none some = none-some broken (sym none ∙ some)

one_of_two : {S : Type 0} → (j : Judging S) (steps : List Entry) (line other : ℕ) (broken also : Broken) (f : IsFirstAt j steps line broken) (g : IsFirstAt j steps other also)
    → (line ≡ other) × (broken ≡ also)
one_of_two j steps line other broken also f g = by (cases_order (length f.before) (length g.before))
  where
    by : (length f.before ≡ length g.before) ⊎ ((length f.before < length g.before) ⊎ (length g.before < length f.before)) → (line ≡ other) × (broken ≡ also)
    by (inl n) =
        let same = same_place f.before g.before f.later g.later f.here g.here (sym f.split ∙ g.split) n in
        let breaks : broken_at j (known_after j j.start f.before) f.here f.later ≡ broken_at j (known_after j j.start g.before) g.here g.later =
        (λ i. broken_at j (known_after j j.start (same.before_same i)) (same.here_same i) (same.later_same i)) in
        let p = f.place in
        let q = g.place in
        (omega (arith, p, q, n), same_Some broken also (sym f.breaks ∙ breaks ∙ g.breaks))
    by (inr (inl less)) = absurd (unlike (broken_at j (known_after j j.start f.before) f.here f.later) broken (g.kept f.before f.later f.here f.split less) f.breaks)
    by (inr (inr more)) = absurd (unlike (broken_at j (known_after j j.start g.before) g.here g.later) also (f.kept g.before g.later g.here g.split more) g.breaks)

not_both : {S : Type 0} → (j : Judging S) (steps : List Entry) (line : ℕ) (broken : Broken) → KeepsRules j steps → IsFirstAt j steps line broken → ⊥
not_both j steps line broken keeps f =
    unlike (broken_at j (known_after j j.start f.before) f.here f.later) broken (keeps f.before f.later f.here f.split) f.breaks

pub has_one_violation : {S : Type 0} → HasOneViolation S
has_one_violation j steps line other broken also (inl f) (inl g) = one_of_two j steps line other broken also f g
has_one_violation j steps line other broken also (inl f) (inr u) = absurd (not_both j steps line broken u.keeps_rules f)
has_one_violation j steps line other broken also (inr u) (inl g) = absurd (not_both j steps other also u.keeps_rules g)
has_one_violation j steps line other broken also (inr u) (inr v) = (u.place ∙ sym v.place, u.is_end ∙ sym v.is_end)

pub lawful_has_none : {S : Type 0} → LawfulHasNone S
lawful_has_none j steps line broken lawful (inl f) = not_both j steps line broken lawful.keeps_rules f
lawful_has_none j steps line broken lawful (inr u) = true≢false (sym lawful.ended ∙ u.missing)
