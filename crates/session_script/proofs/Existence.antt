-- Every script has an answer.
use Rattle.std.proofs.Common.{◌≡◌, ℕ, zero, suc, ◌+◌, ◌-◌, ◌<◌, ◌≤◌, ◌⊎◌, inl, inr, Bool, true, false, Option, Some, None, List, length, refl, sym, subst, ◌∙◌, arith, add-one}
use Rattle.std.specs.Prelude.{◌≢◌, IsUtf8}
use Rattle.std.specs.Str.{is_utf8}
use Rattle.std.proofs.lemmas.Bool.{false≢true}
use Rattle.std.proofs.lemmas.Str.{IsUtf8-from_is_utf8, is_utf8-from_IsUtf8}
use borrow.Author.Count.{below_more}
use Rattle.session_script.specs.declared.fault.Limit.{Limit}
use Rattle.session_script.specs.declared.fault.ScriptRule.{ScriptRule}
use Rattle.session_script.specs.declared.fault.ScriptRule.TheVariants.{Utf8, Head}
use Rattle.session_script.specs.declared.keyword.Section.{Section}
use Rattle.session_script.specs.declared.keyword.Section.TheVariants.{Start}
use Rattle.session_script.specs.Draft.{reached}
use Rattle.session_script.specs.Limits.{passed}
use Rattle.session_script.specs.Line.{Line, lines_of}
use Rattle.session_script.specs.Script.{AreWell, IsWhole, IsFirstIn, HasAnswer, rule_at, session_of, bad_line}

abbrev HasFirst : List Line → Type 0
HasFirst ls = (n : ℕ) × (rule : ScriptRule) × IsFirstIn ls n rule

one_more : (ls : List Line) (n : ℕ) → n < length ls → AreWell ls n → (o : Option ScriptRule) → rule_at ls n ≡ o → AreWell ls (n + 1) ⊎ HasFirst ls
one_more ls n low well None here = inl (below_more (λ k. rule_at ls k ≡ None) n well here)
one_more ls n low well (Some rule) here =
    let place : n ≡ n + 1 - 1 = omega arith in
    inr (
      n + 1,
      rule,
      record {
        counted = omega arith;
        there = omega arith;
        before = subst (AreWell ls) place well;
        broken = subst (λ k. rule_at ls k ≡ Some rule) place here;
      },
    )

-- the first n lines are well, or there is a first that isn't
well_or_first : (ls : List Line) (n : ℕ) → n ≤ length ls → AreWell ls n ⊎ HasFirst ls
well_or_first ls zero low = inl (λ k below. absurd (omega arith))
well_or_first ls (suc n) low = more (well_or_first ls n (omega arith))
  where
    more : AreWell ls n ⊎ HasFirst ls → AreWell ls (suc n) ⊎ HasFirst ls
    more (inl well) = subst (λ m. AreWell ls m ⊎ HasFirst ls) (add-one n) (one_more ls n (omega arith) well (rule_at ls n) refl)
    more (inr first) = inr first

start_or_not : (s : Section) → (s ≡ Start) ⊎ (s ≢ Start)
start_or_not Start = inl refl
start_or_not s = inr (λ e. absurd (cc))

whole_answer : (script : List ℕ) → IsUtf8 script → IsWhole (lines_of script) → (o : Option (Limit × ℕ)) → passed (session_of (lines_of script)) ≡ o → HasAnswer script
whole_answer script utf8 whole None e = inl (session_of (lines_of script), record { utf8 = utf8; whole = whole; value = refl; limited = e })
whole_answer script utf8 whole (Some (which, number)) e = inr (inr (which, number, record { utf8 = utf8; whole = whole; past = e }))

well_answer : (script : List ℕ) → IsUtf8 script → AreWell (lines_of script) (length (lines_of script)) → (reached (lines_of script) ≡ Start) ⊎ (reached (lines_of script) ≢ Start) → HasAnswer script
well_answer script utf8 well (inl empty) = inr (inl (1, Head, inr (utf8, inr (record { well = well; empty = empty; first = refl; head = refl }))))
well_answer script utf8 well (inr begun) = whole_answer script utf8 (record { well = well; begun = begun }) (passed (session_of (lines_of script))) refl

text_answer : (script : List ℕ) → IsUtf8 script → AreWell (lines_of script) (length (lines_of script)) ⊎ HasFirst (lines_of script) → HasAnswer script
text_answer script utf8 (inl well) = well_answer script utf8 well (start_or_not (reached (lines_of script)))
text_answer script utf8 (inr (n, rule, first)) = inr (inl (n, rule, inr (utf8, inl first)))

pub some_answer : (script : List ℕ) → HasAnswer script
some_answer script = by_text (is_utf8 script) refl
  where
    by_text : (b : Bool) → is_utf8 script ≡ b → HasAnswer script
    by_text true e = text_answer script (IsUtf8-from_is_utf8 script e) (well_or_first (lines_of script) (length (lines_of script)) (omega arith))
    by_text false e = inr (inl (
      bad_line script,
      Utf8,
      inl (record {
        bad = λ utf8. absurd (false≢true (sym e ∙ is_utf8-from_IsUtf8 script utf8));
        line = refl;
        utf8 = refl;
      }),
    ))
