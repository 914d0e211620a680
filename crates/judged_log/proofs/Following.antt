-- A record that keeps the rules, and one entry more.
use Rattle.std.proofs.Common.{◌≡◌, ℕ, suc, ◌+◌, ◌<◌, ◌^◌, Bool, true, false, ◌&&◌, cond, List, [], ◌∷◌, ◌++◌, map, length, take, Option, Some, None, refl, sym, ap, subst, ◌∙◌, arith}
use Rattle.std.proofs.lemmas.Bool.{and_right, cond-false}
use Rattle.step_law.specs.declared.entry.Entry.{Entry}
use Rattle.step_law.specs.declared.entry.Kind.TheVariants.{Last}
use Rattle.record_law.specs.declared.shape.Broken.{Broken}
use Rattle.record_law.specs.declared.shape.Broken.TheVariants as rule
use Rattle.record_law.specs.declared.shape.Shape.{Shape}
use Rattle.record_law.specs.Entries.{is_kind}
use Rattle.record_law.specs.Lawful.{broken_at, KeepsRules, ends_by, is_ended}
use Rattle.record_law.specs.Message.{History}
use Rattle.record_law.specs.Protocol.{done_in, after, history_of}
use Rattle.record_law.specs.Rules.{first_broken}
use Rattle.record_law.proofs.Classes.{after_append}
use Rattle.record_law.proofs.Prefixes.{breaks_none}
use Rattle.record_law.proofs.Splits.{no_place}
use Rattle.record_law.proofs.Verdicts.{KeepsFrom, keeps_more}
use Rattle.record_legal.specs.Judging.{IsJudge, Judged, HasJudged}
use Rattle.judged_log.specs.declared.follower.Follower.{Follower}
use Rattle.judged_log.specs.Followed.{IsFollowed, HasFollowed, FollowedIsLawful, next_broken}

-- ---- histories

length_after : (s : Shape) (h : History) (steps : List Entry) → length (after s h steps) ≡ length h + length steps
length_after s h [] = omega arith
length_after s h (e ∷ steps) = let rest = length_after s (done_in s h e) steps in omega (arith, rest)

pub few_steps : (s : Shape) (steps : List Entry) → length steps < 2 ^ 63 → length (history_of s steps) < 2 ^ 63
few_steps s steps few = let same = length_after s [] steps in omega (arith, few, same)

-- ---- one entry more

-- an entry that isn't the end breaks no more rules where others come after it
before_more : (s : Shape) (h : History) (x e : Entry) (xs : List Entry) → broken_at s h x xs ≡ None → ends_by (is_kind Last x) xs ≡ false
    → broken_at s h x (xs ++ e ∷ []) ≡ None
before_more s h x e [] none unended =
    ap (λ b. cond (b && true) (Some rule.Syntax) (first_broken s h x)) unended ∙ breaks_none s h x [] none
before_more s h x e (y ∷ xs) none unended = none

keeps_one_more : (s : Shape) (h : History) (ended : Bool) (steps : List Entry) (e : Entry) → KeepsFrom s h steps → ends_by ended steps ≡ false
    → first_broken s (after s h steps) e ≡ None → KeepsFrom s h (steps ++ e ∷ [])
keeps_one_more s h ended [] e keeps unended none =
    keeps_more s h e [] (cond-false (is_kind Last e && false) (Some rule.Syntax) (first_broken s h e) (and_right (is_kind Last e) false refl) ∙ none)
    (λ before later x split. absurd (no_place before later x split))
keeps_one_more s h ended (x ∷ xs) e keeps unended none =
    keeps_more s h x (xs ++ e ∷ []) (before_more s h x e xs (keeps [] xs x refl) unended)
    (keeps_one_more s (done_in s h x) (is_kind Last x) xs e (λ before later y split. keeps (x ∷ before) later y (ap (λ l. x ∷ l) split)) unended none)

ends_by_last : (before : Bool) (steps : List Entry) (e : Entry) → ends_by before (steps ++ e ∷ []) ≡ is_kind Last e
ends_by_last before [] e = refl
ends_by_last before (x ∷ steps) e = ends_by_last (is_kind Last x) steps e

-- ---- what is kept

pub followed_none : (s : Shape) (follower : Follower) → IsJudge s follower.judge → Judged s [] follower.judge → follower.ended ≡ false → IsFollowed s [] follower
followed_none s follower is_judge judged unended = record {
  keeps_rules = λ before later x split. absurd (no_place before later x split);
  is_judge = is_judge;
  judged = judged;
  ended = unended;
}

pub has_judged : (s : Shape) (follower : Follower) → HasFollowed s follower → HasJudged s follower.judge
has_judged s follower has = (history_of s has.0, few_steps s has.0 has.1, has.2.judged)

pub followed_more : (s : Shape) (steps : List Entry) (e : Entry) (old new : Follower) → IsFollowed s steps old → old.ended ≡ false
    → first_broken s (history_of s steps) e ≡ None → IsJudge s new.judge → Judged s (done_in s (history_of s steps) e) new.judge
    → new.ended ≡ is_kind Last e → IsFollowed s (steps ++ e ∷ []) new
followed_more s steps e old new was unended none is_judge judged ended = record {
  keeps_rules = keeps_one_more s [] false steps e was.keeps_rules (sym was.ended ∙ unended) none;
  is_judge = is_judge;
  judged = subst (λ h. Judged s h new.judge) (sym (after_append s [] steps (e ∷ []))) judged;
  ended = ended ∙ sym (ends_by_last false steps e);
}

pub lawful : FollowedIsLawful
lawful s steps follower was ended = record { keeps_rules = was.keeps_rules; ended = ended }

-- where the record isn't ended, the first broken rule is that of the entry
pub next_is : (s : Shape) (steps : List Entry) (e : Entry) (follower : Follower) → IsFollowed s steps follower → follower.ended ≡ false
    → next_broken s steps e ≡ first_broken s (history_of s steps) e
next_is s steps e follower was unended = ap (λ b. cond b (Some rule.Syntax) (first_broken s (history_of s steps) e)) (sym was.ended ∙ unended)
