-- A record that is judged line by line.
use Rattle.std.proofs.Common.{◌≡◌, ℕ, suc, ◌+◌, ◌^◌, ◌<◌, Bool, true, false, List, [], ◌∷◌, length, Option, Some, None, refl, sym, ap, ◌∙◌, add-one, arith}
use Rattle.step_law.specs.declared.entry.Entry.{Entry}
use Rattle.step_law.specs.declared.entry.Kind.TheVariants.{Last}
use Rattle.record_law.specs.declared.shape.Broken.{Broken}
use Rattle.record_law.specs.declared.shape.Broken.TheVariants as rule
use Rattle.record_law.specs.declared.shape.Shape.{Shape}
use Rattle.record_law.specs.Entries.{is_kind}
use Rattle.record_law.specs.Lawful.{broken_at, IsLawful, IsViolation}
use Rattle.record_law.specs.Message.{History}
use Rattle.record_law.specs.Protocol.{done_in}
use Rattle.record_law.specs.Verdict.{at_line, if_ended, verdict_from, verdict}
use Rattle.record_law.proofs.Verdicts.{verdict_is_lawful, verdict_is_first}
use Rattle.record_legal.specs.declared.judge.Judge.{Judge}
use Rattle.record_legal.specs.Judging.{IsJudge, Judged, HasJudged}

-- where the judge is: what it keeps is of the entries before, and what is left decides the verdict
pub record IsReading (s : Shape) (steps : List Entry) (judge : Judge) (line : ℕ) (ended : Bool) (later : List Entry) : Type 0 where
  pub is_judge : IsJudge s judge
  pub before : History
  pub few : length before + length later < 2 ^ 60
  pub judged : Judged s before judge
  pub decides : verdict s steps ≡ verdict_from s before line ended later
  pub place : line ≡ length before + 2

module _ (s : Shape) (steps : List Entry) (judge : Judge) (line : ℕ) (ended : Bool) (later : List Entry) (r : IsReading s steps judge line ended later) where
  pub has_judged : HasJudged s judge
  has_judged = let few : length r.before < 2 ^ 63 = omega (arith, r.few) in (r.before, few, r.judged)

  -- one entry that breaks no rule
  pub goes_on : (e : Entry) (rest : List Entry) (new : Judge) → later ≡ e ∷ rest → broken_at s r.before e rest ≡ None → IsJudge s new
      → Judged s (done_in s r.before e) new → IsReading s steps new (line + 1) (is_kind Last e) rest
  goes_on e rest new is none is_judge judged = record {
    is_judge = is_judge;
    before = done_in s r.before e;
    few = omega (arith, r.few, ap (λ (l : List Entry). length l) is);
    judged = judged;
    decides = r.decides ∙ ap (verdict_from s r.before line ended) is
        ∙ ap (λ (it : Option Broken). at_line line it (verdict_from s (done_in s r.before e) (suc line) (is_kind Last e) rest)) none
        ∙ ap (λ (n : ℕ). verdict_from s (done_in s r.before e) n (is_kind Last e) rest) (sym (add-one line));
    place = omega (arith, r.place);
  }

  -- one that breaks a rule
  pub breaks : (e : Entry) (rest : List Entry) (broken : Broken) → later ≡ e ∷ rest → broken_at s r.before e rest ≡ Some broken → IsViolation s steps line broken
  breaks e rest broken is some = verdict_is_first s steps line broken
      (r.decides ∙ ap (verdict_from s r.before line ended) is
      ∙ ap (λ (it : Option Broken). at_line line it (verdict_from s (done_in s r.before e) (suc line) (is_kind Last e) rest)) some)

  -- no entry is left
  pub is_lawful : later ≡ [] → ended ≡ true → IsLawful s steps
  is_lawful none last = verdict_is_lawful s steps (r.decides ∙ ap (verdict_from s r.before line ended) none ∙ ap (if_ended line) last)

  pub lacks_end : later ≡ [] → ended ≡ false → IsViolation s steps line rule.End
  lacks_end none other = verdict_is_first s steps line rule.End (r.decides ∙ ap (verdict_from s r.before line ended) none ∙ ap (if_ended line) other)

pub none_left : (later : List Entry) → length later ≡ 0 → later ≡ []
none_left [] e = refl
none_left (x ∷ later) e = absurd (omega (arith, e))
