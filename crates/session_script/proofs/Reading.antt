-- What the reader's loop keeps: the draft is what the lines before say, and none of them breaks a rule.
use Rattle.std.proofs.Common.{◌≡◌, ℕ, ◌+◌, ◌-◌, ◌<◌, ◌≤◌, true, false, Option, Some, None, List, [], ◌∷◌, length, take, drop, get_or, refl, sym, ap, subst, ◌∙◌, arith, cond, add-zero, Result, Ok, Err}
use Rattle.std.specs.Prelude.{IsErrAnd, IfOk, ◌==◌}
use Rattle.std.specs.List.{slice_split, onto_first}
use Rattle.std.specs.Str.Lines.{lines, lines_of_parts}
use Rattle.std.proofs.lemmas.Iterator.{YieldsList}
use Rattle.std.proofs.lemmas.List.{take_all, take_more, get_or-map, get_or-drop, length-map, length-take-le, length_push}
use borrow.Author.Count.{below_more}
use Rattle.session_script.specs.declared.draft.Draft.{Draft}
use Rattle.session_script.specs.declared.fault.ScriptRule.{ScriptRule}
use Rattle.session_script.specs.declared.fault.ScriptFault.{ScriptFault}
use Rattle.session_script.specs.declared.fault.ScriptFault.TheVariants.{Bad, Limit, NoMemory}
use Rattle.session_script.specs.declared.keyword.Setting.TheVariants.{Rate, Block, Blocks, Workers, Cells, Record}
use Rattle.session_script.specs.Words.{words}
use Rattle.session_script.specs.Line.{Line, line_of, lines_of}
use Rattle.session_script.specs.Line.Line.{skipped}
use Rattle.session_script.specs.Draft.{draft_of, inst_in}
use Rattle.session_script.specs.Rules.{broken_rule}
use Rattle.session_script.specs.Limits.{AreInBounds, no_numbers}
use Rattle.session_script.specs.Answer.{ReadsLines}
use Rattle.session_script.specs.Step.{added, with_line, Takes}
use Rattle.session_script.specs.Script.{AreWell, IsFirstIn, line_at, rule_at}
use Rattle.session_script.proofs.Adding.{draft_of-push}
use Rattle.session_script.proofs.Bounds.{bounds_more}
use Rattle.session_script.proofs.Finds.{not_late}

-- what the first n lines say, one line on
pub draft_of-more : (ls : List Line) (n : ℕ) → n < length ls → rule_at ls n ≡ None → draft_of (take (n + 1) ls) ≡ with_line (draft_of (take n ls)) (n + 1) (line_at ls n)
draft_of-more ls n l h =
    let short : length (take n ls) ≡ n = length-take-le n ls (omega arith) in
    ap draft_of (take_more ls n skipped l) ∙ draft_of-push (take n ls) (line_at ls n) (not_late (draft_of (take n ls)) (line_at ls n) h)
    ∙ ap (λ m. with_line (draft_of (take n ls)) (m + 1) (line_at ls n)) short

-- n lines were read
pub record HasRead (ls : List Line) (n : ℕ) (draft : Draft) : Type 0 where
  pub within : n ≤ length ls
  pub well : AreWell ls n
  pub says : draft ≡ draft_of (take n ls)
  pub few : length draft.insts ≤ n
  pub bounds : AreInBounds draft.numbers

pub none_bounded : AreInBounds no_numbers
none_bounded Rate = tt
none_bounded Block = tt
none_bounded Blocks = tt
none_bounded Workers = tt
none_bounded Cells = tt
none_bounded Record = tt

pub read_none : (ls : List Line) (draft : Draft) → draft ≡ draft_of [] → HasRead ls 0 draft
read_none ls draft e = record {
  within = omega arith;
  well = λ k low. absurd (omega arith);
  says = e;
  few = let none : length draft.insts ≡ 0 = ap (λ (d : Draft). length d.insts) e in omega (arith, none);
  bounds = subst (λ (d : Draft). AreInBounds d.numbers) (sym e) none_bounded;
}

length-added : {X : Type 0} (xs : List X) (o : Option X) → length (added xs o) ≤ length xs + 1
length-added xs None = omega arith
length-added xs (Some x) = omega (arith, length_push xs x)

pub read_more : (ls : List Line) (n : ℕ) (old new : Draft) → HasRead ls n old → n < length ls → broken_rule old (line_at ls n) ≡ None → new ≡ with_line old (n + 1) (line_at ls n) → HasRead ls (n + 1) new
read_more ls n old new h low well e =
    let here : rule_at ls n ≡ None = subst (λ d. broken_rule d (line_at ls n) ≡ None) h.says well in
    let more : length new.insts ≤ length old.insts + 1 = subst (λ (d : Draft). length d.insts ≤ length old.insts + 1) (sym e) (length-added old.insts (inst_in (n + 1, line_at ls n))) in
    let few = h.few in
    record {
      within = omega arith;
      well = below_more (λ k. rule_at ls k ≡ None) n h.well here;
      says = e ∙ ap (λ d. with_line d (n + 1) (line_at ls n)) h.says ∙ sym (draft_of-more ls n low here);
      few = omega arith;
      bounds = subst (λ (d : Draft). AreInBounds d.numbers) (sym e) (bounds_more old (line_at ls n) well h.bounds);
    }

pub read_broken : (ls : List Line) (n : ℕ) (old : Draft) (rule : ScriptRule) → HasRead ls n old → n < length ls → broken_rule old (line_at ls n) ≡ Some rule → IsFirstIn ls (n + 1) rule
read_broken ls n old rule h low broken =
    let place : n ≡ n + 1 - 1 = omega arith in
    record {
      counted = omega arith;
      there = omega arith;
      before = subst (AreWell ls) place h.well;
      broken = subst (λ k. rule_at ls k ≡ Some rule) place (subst (λ d. broken_rule d (line_at ls n) ≡ Some rule) h.says broken);
    }

pub read_all : (ls : List Line) (n : ℕ) (draft : Draft) → HasRead ls n draft → length ls ≤ n → AreWell ls (length ls) × (draft ≡ draft_of ls)
read_all ls n draft h all = ((λ k low. h.well k (omega arith)), h.says ∙ ap draft_of (take_all n ls all))

-- one line comes
pub yields_some : {S A B : Type 0} (steps : S → Option A → S → Type 0) (v : A → B) (d : B) (s t : S) (x : A) (ys : List B) → YieldsList steps v s ys → steps s (Some x) t
    → (0 < length ys) × (v x ≡ get_or ys 0 d) × YieldsList steps v t (drop 1 ys)
yields_some steps v d s t x [] y h = absurd (y.runs x t h)
yields_some steps v d s t x (z ∷ ys) y h = let m = y.runs.1 x t h in (omega arith, m.0, record { runs = m.1 })

-- no line is left
pub yields_none : {S A B : Type 0} (steps : S → Option A → S → Type 0) (v : A → B) (s t : S) (ys : List B) → YieldsList steps v s ys → steps s None t → length ys ≡ 0
yields_none steps v s t [] y h = refl
yields_none steps v s t (z ∷ ys) y h = absurd (y.runs.0 t h)

-- a byte that ends no line makes at most the first line
first_byte : (byte : ℕ) (parts : List (List ℕ)) (n : ℕ) → length (lines_of_parts parts) ≤ n → length (lines_of_parts (onto_first byte parts)) ≤ n + 1
first_byte byte [] n h = elim (length (byte ∷ []) == 0) as (λ b. length (cond b [] ((byte ∷ []) ∷ [])) ≤ n + 1) [ true ↦ omega arith | false ↦ omega arith ]
first_byte byte (part ∷ []) n h = elim (length (byte ∷ part) == 0) as (λ b. length (cond b [] ((byte ∷ part) ∷ [])) ≤ n + 1) [ true ↦ omega arith | false ↦ omega arith ]
first_byte byte (part ∷ next ∷ more) n h = omega arith

-- a line feed ends one
line_feed : (parts : List (List ℕ)) (n : ℕ) → length (lines_of_parts parts) ≤ n → length (lines_of_parts ([] ∷ parts)) ≤ n + 1
line_feed [] n h =
    let line : List ℕ = [] in
    elim (length line == 0) as (λ b. length (cond b [] (line ∷ [])) ≤ n + 1) [ true ↦ omega arith | false ↦ omega arith ]
line_feed (next ∷ more) n h = omega arith

-- a line has a byte at least
pub length-lines : (text : List ℕ) → length (lines text) ≤ length text
length-lines [] = omega arith
length-lines (byte ∷ text) =
    let parts = slice_split (λ (b : ℕ). b == 10) text in
    elim (byte == 10) as (λ b. length (lines_of_parts (cond b ([] ∷ parts) (onto_first byte parts))) ≤ length (byte ∷ text))
    [ true ↦ omega (arith, line_feed parts (length text) (length-lines text)) | false ↦ omega (arith, first_byte byte parts (length text) (length-lines text)) ]

pub length-lines_of : (text : List ℕ) → length (lines_of text) ≡ length (lines text)
length-lines_of text = length-map (lines text) (λ line. line_of (words line))

-- the next line of a text, as what it says
pub next_line : (text : List ℕ) (n : ℕ) (line : List ℕ) → n < length (lines text) → line ≡ get_or (drop n (lines text)) 0 [] → line_of (words line) ≡ line_at (lines_of text) n
next_line text n line low e =
    let says = λ (l : List ℕ). line_of (words l) in
    ap says (e ∙ get_or-drop n (lines text) 0 [] ∙ ap (λ k. get_or (lines text) k []) (add-zero n)) ∙ sym (get_or-map says (lines text) n [] skipped low)

-- a line that was taken
abbrev pub TakesOk : Draft → ℕ → Line → Draft → Type 0
TakesOk old n line new = (broken_rule old line ≡ None) × (new ≡ with_line old n line)

-- a line that wasn't
abbrev pub TakesErr : Draft → ℕ → Line → ScriptFault → Draft → Type 0
TakesErr old n line fault new = Takes {A = Unit {0}} old n line (Err fault) new

pub read_fault : (ls : List Line) (n : ℕ) (old new : Draft) (fault : ScriptFault) → HasRead ls n old → n < length ls → TakesErr old (n + 1) (line_at ls n) fault new → ReadsLines ls (Err fault)
read_fault ls n old new (Bad m rule) h low t = subst (λ k. IsFirstIn ls k rule) (sym t.0) (read_broken ls n old rule h low t.1)
read_fault ls n old new (Limit which number) h low t = t
read_fault ls n old new NoMemory h low t = tt

-- a fault that is passed on
pub passed_on : (ls : List Line) (r : Result Draft ScriptFault) (fault : ScriptFault) → IsErrAnd r (λ e. e ≡ fault) → ReadsLines ls (Err fault) → ReadsLines ls r
passed_on ls (Ok draft) fault h reads = absurd h
passed_on ls (Err e) fault h reads = subst (λ f. ReadsLines ls (Err f)) (sym h) reads

pub passed_bounds : (r : Result Draft ScriptFault) (fault : ScriptFault) → IsErrAnd r (λ e. e ≡ fault) → IfOk r (λ draft. AreInBounds draft.numbers)
passed_bounds (Ok draft) fault h = absurd h
passed_bounds (Err e) fault h = tt
