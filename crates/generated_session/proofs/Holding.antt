-- Texts whose lines break no rule.
use Rattle.std.proofs.Common.{◌≡◌, ℕ, ◌<◌, ◌≤◌, true, List, [], ◌∷◌, ◌++◌, length, take, map, None, refl, sym, ap, subst, ◌∙◌, arith}
use Rattle.std.specs.Prelude.{IsUtf8}
use Rattle.std.specs.List.{list_all}
use Rattle.std.proofs.lemmas.Bool.{and_from}
use Rattle.std.proofs.lemmas.List.{map_push, get_or_push, get_or_append_left, length_push, take-append-le, take_at}
use Rattle.std.proofs.lemmas.List.Folds.{list_all-append}
use borrow.Author.Count.{below_more}
use Rattle.session_script.specs.Draft.{draft_of, reached}
use Rattle.session_script.specs.Line.{Line, line_of, lines_of}
use Rattle.session_script.specs.Line.Line.{skipped}
use Rattle.session_script.specs.Limits.{passed}
use Rattle.session_script.specs.Rules.{broken_rule}
use Rattle.session_script.specs.Script.{AreWell, IsSessionOf, rule_at, line_at, session_of}
use Rattle.session_script.specs.Sections.{order}
use Rattle.generated_session.proofs.Texts.{is_plain, line_text, script_text, script_text-push, lines_of-script_text, utf8-script_text}

-- ---- lines

-- what n lines say doesn't hang on what follows them
front : (ls : List Line) (line : Line) (k : ℕ) → k < length ls → rule_at ls k ≡ None → rule_at (ls ++ line ∷ []) k ≡ None
front ls line k low h =
    ap (λ before. broken_rule (draft_of before) (line_at (ls ++ line ∷ []) k)) (take-append-le k ls (line ∷ []) (omega arith))
    ∙ ap (broken_rule (draft_of (take k ls))) (get_or_append_left ls (line ∷ []) skipped k low) ∙ h

here : (ls : List Line) (line : Line) → broken_rule (draft_of ls) line ≡ None → rule_at (ls ++ line ∷ []) (length ls) ≡ None
here ls line h =
    ap (λ before. broken_rule (draft_of before) (line_at (ls ++ line ∷ []) (length ls))) (take_at ls (line ∷ []) (length ls) refl)
    ∙ ap (broken_rule (draft_of ls)) (get_or_push ls line skipped (length ls) refl) ∙ h

well_more : (ls : List Line) (line : Line) → AreWell ls (length ls) → broken_rule (draft_of ls) line ≡ None → AreWell (ls ++ line ∷ []) (length (ls ++ line ∷ []))
well_more ls line well h =
    subst (AreWell (ls ++ line ∷ [])) (sym (length_push ls line))
    (below_more (λ k. rule_at (ls ++ line ∷ []) k ≡ None) (length ls) (λ k low. front ls line k low (well k low)) (here ls line h))

-- ---- texts

-- a text of words that says these lines, of which none breaks a rule
pub record Holds (text : List ℕ) (ls : List Line) : Type 0 where
  pub raw : List (List (List ℕ))
  pub is : text ≡ script_text raw
  pub plain : list_all (list_all is_plain) raw ≡ true
  pub says : map line_of raw ≡ ls
  pub well : AreWell ls (length ls)

-- a line more, which breaks no rule
pub holds_more : (text : List ℕ) (ls : List Line) (ws : List (List ℕ)) → Holds text ls → list_all is_plain ws ≡ true → broken_rule (draft_of ls) (line_of ws) ≡ None
    → Holds (text ++ line_text ws) (ls ++ line_of ws ∷ [])
holds_more text ls ws holds plain unbroken = record {
  raw = holds.raw ++ ws ∷ [];
  is = ap (λ t. t ++ line_text ws) holds.is ∙ sym (script_text-push holds.raw ws);
  plain = list_all-append (list_all is_plain) holds.raw (ws ∷ [])
      ∙ and_from (list_all (list_all is_plain) holds.raw) (list_all (list_all is_plain) (ws ∷ [])) holds.plain (and_from (list_all is_plain ws) true plain refl);
  says = map_push line_of holds.raw ws ∙ ap (λ before. before ++ line_of ws ∷ []) holds.says;
  well = well_more ls (line_of ws) holds.well unbroken;
}

-- the session of a text that passes no limit
pub session_held : (text : List ℕ) (ls : List Line) → Holds text ls → 1 ≤ order (reached ls) → passed (session_of ls) ≡ None → IsSessionOf text (session_of ls)
session_held text ls holds begun limited =
    let said : ls ≡ lines_of text = sym (ap lines_of holds.is ∙ lines_of-script_text holds.raw holds.plain ∙ holds.says) in
    record {
      utf8 = subst IsUtf8 (sym holds.is) (utf8-script_text holds.raw holds.plain);
      whole = record {
        well = subst (λ l. AreWell l (length l)) said holds.well;
        begun = λ e. let none = ap order e in let some = subst (λ l. 1 ≤ order (reached l)) said begun in omega (arith, none, some);
      };
      value = ap session_of said;
      limited = limited;
    }
