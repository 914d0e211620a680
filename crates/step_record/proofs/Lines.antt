-- What is read line by line.
use Rattle.std.proofs.Common.{◌≡◌, ℕ, ◌+◌, ◌<◌, ◌≤◌, Bool, false, List, [], ◌∷◌, ◌++◌, length, drop, Result, Ok, Err, IfOk, IfErr, take, take_all, length-drop, ◌-◌, inr, refl, sym, ap, subst, ◌∙◌, append_assoc, append-nil, arith, true≢false}
use Rattle.std.specs.Prelude.{nat_eq, flat_map}
use Rattle.std.proofs.lemmas.List.Concat.{flat_map-append}
use Rattle.step_law.specs.declared.entry.Entry.{Entry}
use Rattle.step_law.specs.declared.event.Event.TheVariants as event
use Rattle.step_law.specs.Entry.{last}
use Rattle.step_law.specs.Form.{IsForm}
use Rattle.step_record.specs.Reading.{is_last, AreOpen, IsFormed, HasNoLine, LacksForm, ReadsLine, first_line, lines_after, SaysOfLines, SaysOfText, Says}
use Rattle.step_record.specs.declared.fault.RecordFault.{RecordFault}
use Rattle.step_record.specs.declared.fault.RecordFault.TheVariants.{TooMany, Syntax, NoMemory}
use Rattle.step_record.specs.RecordText.{line_of, record_text}

-- the end of a record has a form
pub last_form : IsForm last
last_form = record { event = event.Last; form = record { told = refl; same = refl }; a_fits = omega arith; b_fits = omega arith }

-- one more entry
open-push : (steps : List Entry) (e : Entry) → AreOpen steps → IsForm e → is_last e.kind ≡ false → AreOpen (steps ++ e ∷ [])
open-push [] e o f n = (f, n, tt)
open-push (x ∷ more) e o f n = (o.0, o.1, open-push more e o.2 f n)

formed-push : (steps : List Entry) (e : Entry) → AreOpen steps → IsForm e → IsFormed (steps ++ e ∷ [])
formed-push [] e o f = f
formed-push (x ∷ []) e o f = (o.0, o.1, f)
formed-push (x ∷ y ∷ more) e o f = (o.0, o.1, formed-push (y ∷ more) e o.2 f)

-- the lines so far were read: what is left, if anything, follows entries none of which is the end
pub record AreRead (lines : List ℕ) (steps : List Entry) (rest : List ℕ) : Type 0 where
  pub same : lines ≡ flat_map line_of steps ++ rest
  pub formed : IsFormed steps
  pub open_so_far : 0 < length rest → AreOpen steps

pub AreRead-none : (lines : List ℕ) (steps : List Entry) → steps ≡ [] → AreRead lines steps lines
AreRead-none lines steps e = subst (λ (xs : List Entry). AreRead lines xs lines) (sym e) (record { same = refl; formed = tt; open_so_far = λ h. tt })

pub AreRead-more : (lines : List ℕ) (steps : List Entry) (rest : List ℕ) (count : ℕ) (new : List Entry) → 0 < length rest → AreRead lines steps rest → ReadsLine steps rest count new → AreRead lines new (drop count rest)
AreRead-more lines steps rest count new some sofar line =
    let before : AreOpen steps = sofar.open_so_far some in
    subst (λ (xs : List Entry). AreRead lines xs (drop count rest)) (sym line.put) (record {
      same =
          sofar.same ∙ ap (λ (x : List ℕ). flat_map line_of steps ++ x) line.same
          ∙ sym (append_assoc (flat_map line_of steps) (line_of line.entry) (drop count rest))
          ∙ ap (λ (x : List ℕ). (flat_map line_of steps ++ x) ++ drop count rest) (sym (append-nil (line_of line.entry)))
          ∙ ap (λ (x : List ℕ). x ++ drop count rest) (sym (flat_map-append line_of steps (line.entry ∷ [])));
      formed = formed-push steps line.entry before line.form;
      open_so_far = λ h. open-push steps line.entry before line.form (line.last h);
    })

-- all of them
pub AreRead-all : (lines : List ℕ) (steps : List Entry) (rest : List ℕ) → length rest ≡ 0 → AreRead lines steps rest → IsFormed steps × (lines ≡ flat_map line_of steps)
AreRead-all lines steps [] e sofar = (sofar.formed, sofar.same ∙ append-nil (flat_map line_of steps))
AreRead-all lines steps (c ∷ cs) e sofar = absurd (omega arith)

-- the next line has no form
pub AreRead-none_next : (lines : List ℕ) (steps : List Entry) (rest : List ℕ) (line : ℕ) → 0 < length rest → AreRead lines steps rest → line ≡ length steps + 2 → HasNoLine rest → LacksForm line lines
AreRead-none_next lines steps rest line some sofar place none =
    record { before = steps; after = rest; forms = sofar.open_so_far some; some = some; same = sofar.same; place = place; none = none }

-- the next line, and the rest as a slice has it
pub AreRead-next : (lines : List ℕ) (steps : List Entry) (rest : List ℕ) (count : ℕ) (new : List Entry) → 0 < length rest → AreRead lines steps rest → ReadsLine steps rest count new
    → AreRead lines new (take (length rest - count) (drop count rest))
AreRead-next lines steps rest count new some sofar line =
    let all : length (drop count rest) ≤ length rest - count = omega (arith, length-drop count rest) in
    subst (λ (x : List ℕ). AreRead lines new x) (sym (take_all (length rest - count) (drop count rest) all)) (AreRead-more lines steps rest count new some sofar line)

pub nonempty : (xs : List ℕ) (b : Bool) → b ≡ nat_eq (length xs) 0 → b ≡ false → 0 < length xs
nonempty [] b e f = absurd (true≢false (sym e ∙ f))
nonempty (x ∷ xs) b e f = omega arith

-- what was read of the lines, said of the text
pub text_ok : (result : Result (List Entry) RecordFault) (text lines : List ℕ) → text ≡ first_line ++ lines
    → IfOk result (λ steps. IsFormed steps × (lines ≡ flat_map line_of steps)) → IfOk result (λ steps. IsFormed steps × (text ≡ record_text steps))
text_ok (Ok steps) text lines e h = (h.0, e ∙ ap (λ (x : List ℕ). first_line ++ x) h.1)
text_ok (Err fault) text lines e h = tt

says_text : (fault : RecordFault) (text lines : List ℕ) → text ≡ first_line ++ lines → SaysOfLines fault lines → SaysOfText fault text
says_text (TooMany count) text lines e h = h
says_text (Syntax line) text lines e h = inr (lines, e, h)
says_text NoMemory text lines e h = tt

pub text_err : (result : Result (List Entry) RecordFault) (text lines : List ℕ) → text ≡ first_line ++ lines
    → IfErr result (λ fault. SaysOfLines fault lines) → IfErr result (λ fault. SaysOfText fault text)
text_err (Ok steps) text lines e h = tt
text_err (Err fault) text lines e h = says_text fault text lines e h

-- the same, where the lines aren't too many
pub read_ok : (result : Result (List Entry) RecordFault) (text : List ℕ) → lines_after text ≤ 4718592
    → IfOk result (λ steps. IsFormed steps × (text ≡ record_text steps)) → IfOk result (λ steps. IsFormed steps × (text ≡ record_text steps) × (lines_after text ≤ 4718592))
read_ok (Ok steps) text few h = (h.0, h.1, few)
read_ok (Err fault) text few h = tt

says_all : (fault : RecordFault) (text : List ℕ) → lines_after text ≤ 4718592 → SaysOfText fault text → Says fault text
says_all (TooMany count) text few h = absurd h
says_all (Syntax line) text few h = (few, h)
says_all NoMemory text few h = tt

pub read_err : (result : Result (List Entry) RecordFault) (text : List ℕ) → lines_after text ≤ 4718592
    → IfErr result (λ fault. SaysOfText fault text) → IfErr result (λ fault. Says fault text)
read_err (Ok steps) text few h = tt
read_err (Err fault) text few h = says_all fault text few h
