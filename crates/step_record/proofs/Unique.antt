-- A text is of one record, or has a first line without a form.
use Rattle.std.proofs.Common.{◌≡◌, ℕ, ◌<◌, ◌≤◌, List, [], ◌∷◌, ◌++◌, length, Result, Ok, Err, IfOk, IfErr, refl, sym, ap, ◌∙◌, ⊎_elim, append_assoc, arith, true≢false, length-append}
use Rattle.std.specs.Prelude.{flat_map, MatchResult}
use Rattle.std.proofs.lemmas.List.{append_cancel_left}
use Rattle.std.proofs.lemmas.Option.{same_Some}
use Rattle.step_law.specs.declared.entry.Entry.{Entry}
use Rattle.step_law.specs.Form.{IsForm}
use Rattle.step_record.specs.declared.fault.RecordFault.{RecordFault}
use Rattle.step_record.specs.declared.fault.RecordFault.TheVariants.{TooMany, Syntax, NoMemory}
use Rattle.step_record.specs.Reading.{AreOpen, IsFormed, HasNoLine, IsFirstWithout, first_line, lines_after, most_lines, Says}
use Rattle.step_record.specs.RecordText.{line_of, record_text}
use Rattle.step_record.specs.Words.{entry_in}
use Rattle.step_record.proofs.LineLaws.{line_back}
use Rattle.step_record.proofs.LinesFound.{line_long}

-- the first entry of a formed record, and the others
head_form : (e : Entry) (more : List Entry) → IsFormed (e ∷ more) → IsForm e
head_form e [] h = h
head_form e (x ∷ more) h = h.0

tail_formed : (e : Entry) (more : List Entry) → IsFormed (e ∷ more) → IsFormed more
tail_formed e [] h = tt
tail_formed e (x ∷ more) h = h.2

-- one line, one entry
same_entry : (e f : Entry) (x y : List ℕ) → IsForm e → IsForm f → line_of e ++ x ≡ line_of f ++ y → e ≡ f
same_entry e f x y p q h = same_Some e f (sym (line_back e x p) ∙ ap entry_in h ∙ line_back f y q)

same_rest : (e f : Entry) (x y : List ℕ) → IsForm e → IsForm f → line_of e ++ x ≡ line_of f ++ y → x ≡ y
same_rest e f x y p q h =
    append_cancel_left (line_of f) x y (ap (λ (z : Entry). line_of z ++ x) (sym (same_entry e f x y p q h)) ∙ h)

no_bytes : (e : Entry) (x : List ℕ) → [] ≡ line_of e ++ x → ⊥
no_bytes e x h = let none : 0 ≡ length (line_of e ++ x) = ap length h in omega (arith, none, length-append (line_of e) x, line_long e)

-- one text, one record
same_steps : (a b : List Entry) → IsFormed a → IsFormed b → flat_map line_of a ≡ flat_map line_of b → a ≡ b
same_steps [] [] p q h = refl
same_steps [] (f ∷ b) p q h = absurd (no_bytes f (flat_map line_of b) h)
same_steps (e ∷ a) [] p q h = absurd (no_bytes e (flat_map line_of a) (sym h))
same_steps (e ∷ a) (f ∷ b) p q h =
    let x = flat_map line_of a in
    let y = flat_map line_of b in
    let first : e ≡ f = same_entry e f x y (head_form e a p) (head_form f b q) h in
    let others : a ≡ b = same_steps a b (tail_formed e a p) (tail_formed f b q) (same_rest e f x y (head_form e a p) (head_form f b q) h) in
    λ i. first i ∷ others i

-- a record's text has a line next, unless it ends
next_line : (steps : List Entry) (after : List ℕ) → IsFormed steps → 0 < length after → HasNoLine after → after ≡ flat_map line_of steps → ⊥
next_line [] after p some none h = let empty : length after ≡ 0 = ap length h in omega (arith, empty)
next_line (e ∷ []) after p some none h = let more = (none e [] p h).1 in omega (arith, more)
next_line (e ∷ f ∷ more) after p some none h = true≢false (sym (none e (flat_map line_of (f ∷ more)) p.0 h).0 ∙ p.1)

-- and so it lacks no form
none_lacks : (steps before : List Entry) (after : List ℕ) → IsFormed steps → AreOpen before → 0 < length after → HasNoLine after → flat_map line_of steps ≡ flat_map line_of before ++ after → ⊥
none_lacks steps [] after p o some none h = next_line steps after p some none (sym h)
none_lacks [] (f ∷ before) after p o some none h =
    no_bytes f (flat_map line_of before ++ after) (h ∙ append_assoc (line_of f) (flat_map line_of before) after)
none_lacks (e ∷ steps) (f ∷ before) after p o some none h =
    none_lacks steps before after (tail_formed e steps p) o.2 some none
    (same_rest e f (flat_map line_of steps) (flat_map line_of before ++ after) (head_form e steps p) o.0 (h ∙ append_assoc (line_of f) (flat_map line_of before) after))

formed_has : (line : ℕ) (text : List ℕ) (steps : List Entry) → IsFormed steps → text ≡ record_text steps → IsFirstWithout line text → ⊥
formed_has line text steps p e without = ⊎_elim
    (λ h. h.1 (flat_map line_of steps) e)
    (λ h. let lines = h.0 in
    none_lacks steps h.2.before h.2.after p h.2.forms h.2.some h.2.none
    (append_cancel_left first_line (flat_map line_of steps) lines (sym e ∙ h.1) ∙ h.2.same))
    without

-- what is read of a record's text is that record
fault_back : (fault : RecordFault) (text : List ℕ) (steps : List Entry) → IsFormed steps → text ≡ record_text steps → lines_after text ≤ most_lines → Says fault text → fault ≡ NoMemory
fault_back (TooMany count) text steps p e few h = let many = h.1 in absurd (omega (arith, h.0, many, few))
fault_back (Syntax line) text steps p e few h = absurd (formed_has line text steps p e h.1)
fault_back NoMemory text steps p e few h = refl

pub reads_back : (result : Result (List Entry) RecordFault) (text : List ℕ) (steps : List Entry) → IsFormed steps → text ≡ record_text steps → lines_after text ≤ most_lines
    → IfOk result (λ found. IsFormed found × (text ≡ record_text found) × (lines_after text ≤ most_lines)) → IfErr result (λ fault. Says fault text)
    → MatchResult result (λ found. found ≡ steps) (λ fault. fault ≡ NoMemory)
reads_back (Ok found) text steps p e few ok err = same_steps found steps ok.0 p (append_cancel_left first_line (flat_map line_of found) (flat_map line_of steps) (sym ok.1 ∙ e))
reads_back (Err fault) text steps p e few ok err = fault_back fault text steps p e few err
