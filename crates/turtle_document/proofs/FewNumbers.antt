-- A document uses the numbers that it gives, and so there are few.
use Rattle.std.proofs.Common.{◌≡◌, ◌⊎◌, inl, inr, ℕ, ◌+◌, ◌-◌, ◌*◌, ◌≤◌, List, [], ◌∷◌, ◌++◌, Contains, length, Ok, Err, refl, ap, sym, subst, ◌∙◌, append_assoc, append-nil, length-append, arith}
use Rattle.std.proofs.lemmas.List.Elements.{Contains-append_right}
use Rattle.triple_store.specs.Triples.{blanks_of}
use Rattle.triple_store.specs.declared.term.Triple.{Triple}
use Rattle.turtle_grammar.specs.Tree.{Lexeme}
use Rattle.turtle_document.specs.Answer.{Means}
use Rattle.turtle_document.specs.Meaning.{State, beginning, document_of}
use Rattle.turtle_document.specs.Machine.{Config, config, Move, move}
use Rattle.turtle_document.specs.Machine.Move.{to, stuck, fails}
use Rattle.turtle_document.specs.Numbers.{HaveFewNumbers, UsesItsNumbers, KeepsFewNumbers}
use Rattle.turtle_document.specs.declared.expected.Expected.{Expected}
use Rattle.turtle_document.specs.declared.expected.Expected.TheVariants as expect
use Rattle.turtle_document.specs.declared.expected.Hole.{Hole}
use Rattle.turtle_document.proofs.Completion.{IsRight}
use Rattle.turtle_document.proofs.Formed.{IsFormed, IsFormedBy, LeadsWell, kept, formed_first}
use Rattle.turtle_document.proofs.Mentions.{Has, ends, need_terms, length_ends, below_blanks, has_row, stands}
use Rattle.turtle_document.proofs.Numbering.{Fine, Numbered, LeadsOn, leads_on, numbered_first}
use Rattle.turtle_document.proofs.Reached.{Reached, reached_start, reached_next, no_document, has_fault, means_this, unfinished}
use Rattle.turtle_document.proofs.Right.{right}
use Rattle.turtle_document.proofs.Run.{leaf_of}

-- after a document nothing waits
at_rest : (old : List Triple) (start : State) (front : List Lexeme) (next : Expected) (outer : List Hole) (st after : State)
    → IsFormedBy next outer → Reached start front (config next outer) st → Numbered old next outer st → Means start front after → Fine old [] after
at_rest old start front expect.Statement [] st after formed r h m =
    let P : State → Type 0 = λ s. Fine old [] s in subst P (sym (means_this start front expect.Statement [] st after r m)) h.fine
at_rest old start front expect.Statement (hole ∷ outer) st after formed r h m = absurd formed
at_rest old start front next outer st after formed r h m = absurd (unfinished start front next outer st r refl m.0 m.1)

rest_by : (old : List Triple) (start : State) (t : Lexeme) (rest front : List Lexeme) (c : Config) (st after : State)
    → Reached start front c st → (m : Move) → IsRight c t st m → LeadsWell m → LeadsOn old m → Means start (front ++ t ∷ rest) after
    → ((d : Config) (next : State) → IsFormed d → Reached start (front ++ t ∷ []) d next → Numbered old d.next d.outer next
    → Means start ((front ++ t ∷ []) ++ rest) after → Fine old [] after) → Fine old [] after
rest_by old start t rest front c st after r (to d next) is_right leads numbered m more =
    let P : List Lexeme → Type 0 = λ ts. Means start ts after in
    more d next leads (reached_next start front c t st d next r is_right) numbered (subst P (sym (append_assoc front (t ∷ []) rest)) m)
rest_by old start t rest front c st after r stuck is_right leads numbered m more =
    absurd (no_document start front c t st r is_right (m.0, rest, m.1 ∙ sym (append_assoc front (t ∷ []) rest)))
rest_by old start t rest front c st after r (fails f) is_right leads numbered m more =
    let bad : document_of m.0 start ≡ Err f = (has_fault start front c t st f r is_right).1 m.0 rest (m.1 ∙ sym (append_assoc front (t ∷ []) rest)) in
    let fine : document_of m.0 start ≡ Ok after = m.2 in
    absurd (cc)

rest_from : (old : List Triple) (start : State) (tokens front : List Lexeme) (c : Config) (st after : State)
    → IsFormed c → Reached start front c st → Numbered old c.next c.outer st → Means start (front ++ tokens) after → Fine old [] after
rest_from old start [] front c st after formed r h m =
    let P : List Lexeme → Type 0 = λ ts. Means start ts after in at_rest old start front c.next c.outer st after formed r h (subst P (append-nil front) m)
rest_from old start (t ∷ rest) front c st after formed r h m =
    rest_by old start t rest front c st after r (move c t.kind (leaf_of t) st) (right c t.kind (leaf_of t) st formed) (kept c t.kind (leaf_of t) st formed)
    (leads_on old c t.kind (leaf_of t) st h) m
    (λ d next well reached numbered means. rest_from old start rest (front ++ t ∷ []) d next after well reached numbered means)

rests : (base : List ℕ) (old : List Triple) (tokens : List Lexeme) (after : State) → Means (beginning base old) tokens after → Fine old [] after
rests base old tokens after m =
    rest_from old (beginning base old) tokens [] (config expect.Statement []) (beginning base old) after formed_first (reached_start (beginning base old)) (numbered_first base old) m

only_new : (new : List Triple) (n : ℕ) → Has (ends new) n ⊎ Has [] n → Has (ends new) n
only_new new n (inl h) = h
only_new new n (inr h) = absurd h

pub uses_its_numbers : UsesItsNumbers
uses_its_numbers base old tokens after m number above below =
    let f = rests base old tokens after m in
    let x = stands f.new number (only_new f.new number (f.each number above below)) in
    let P : List Triple → Type 0 = λ rows. Contains rows x.0 in (
      x.0,
      subst P (sym f.rows) (Contains-append_right old f.new x.0 x.1),
      (λ there. let small = below_blanks old number (has_row old x.0 number there.0 there.1 there.2 x.2) in omega (arith, small, above)),
      x.2,
    )

pub keeps_few_numbers : KeepsFewNumbers
keeps_few_numbers base old bytes rows h few =
    let f = rests base old _ h.2.0 h.2.1 in
    let after = h.2.0 in
    let count : after.blanks - blanks_of old ≤ length (ends f.new) =
    need_terms (after.blanks - blanks_of old) (blanks_of old) (ends f.new) (λ n above below. only_new f.new n (f.each n above (omega (arith, above, below)))) in
    let two : length (ends f.new) ≡ 2 * length f.new = length_ends f.new in
    let long : length after.rows ≡ length old + length f.new = ap length f.rows ∙ length-append old f.new in
    let P : List Triple → Type 0 = λ r. HaveFewNumbers r in
    let under : blanks_of after.rows ≤ after.blanks = f.under in
    let few_after : HaveFewNumbers after.rows = omega (arith, count, two, long, under, few) in
    subst P (sym h.2.2) few_after
