-- Bytes are read in one way.
use Rattle.std.proofs.Common.{◌≡◌, ◌⊎◌, inl, inr, ℕ, suc, ◌≤◌, List, [], ◌∷◌, ◌++◌, length, Result, Ok, Err, IsUtf8, refl, sym, ap, ◌∙◌, subst, append_assoc, append-nil, arith}
use Rattle.std.proofs.lemmas.List.{map-append}
use Rattle.std.specs.Str.{chars}
use Rattle.std.specs.Str.Lossy.{utf8_valid_len}
use Rattle.std.specs.Prelude.{drop}
use Rattle.turtle_grammar.specs.Tokens.{Answer, IsNext, IsLast, Lexes, BeginsWithTokens, start_of}
use Rattle.turtle_grammar.specs.Tokens.Answer.{end, is_unclosed, is_bad}
use Rattle.turtle_grammar.specs.Tree.{Lexeme}
use Rattle.turtle_grammar.specs.declared.token.Token.{Token}
use Rattle.turtle_grammar.proofs.OneAnswer.{one_answer, one_reading}
use Rattle.turtle_document.specs.Meaning.{Fault, State, document_of, beginning}
use Rattle.turtle_document.specs.Answer.{lexeme_of, lexemes_of, fault_at, IsClearTo, BeginsDocument, IsOpen, Means, IsUnfinished, Faults, HasTokens, HasFront, Outcome, IsReadAs, HasOneOutcome}
use Rattle.turtle_document.specs.Answer.Outcome.{document, not_utf8, unclosed, bad_byte, syntax, fault}
use Rattle.turtle_document.proofs.Reached.{no_document, has_fault, means_this}
use Rattle.turtle_document.proofs.Run.{Course, course}

-- some tokens are the first of others
abbrev IsFront : List Token → List Token → Type 0
IsFront p q = (more : List Token) × (q ≡ p ++ more)

same_next : (text : List ℕ) (at : ℕ) (s t : Token) → IsNext text at (Answer.next s) → IsNext text at (Answer.next t) → s ≡ t
same_next text at s t x y = let e = one_answer text at (Answer.next s) (Answer.next t) x y in cc

-- the first tokens of a text are the first of all its tokens
front_of_all : (bytes : List ℕ) (at : ℕ) (p tokens : List Token) (upto : ℕ) (last : Answer)
    → BeginsWithTokens bytes at p upto → Lexes bytes at tokens last → IsFront p tokens
front_of_all bytes at [] tokens upto last x y = (tokens, refl)
front_of_all bytes at (s ∷ p) [] upto last x y =
    let e = one_answer (chars (drop at bytes)) at last (Answer.next s) y.0 x.0 in
    let P : Answer → Type 0 = IsLast in absurd (subst P e y.1)
front_of_all bytes at (s ∷ p) (t ∷ tokens) upto last x y =
    let same : t ≡ s = same_next (chars (drop at bytes)) at t s y.0 x.0 in
    let P : Token → Type 0 = λ u. Lexes bytes u.upto tokens last in
    let rest = front_of_all bytes s.upto p tokens upto last x.1 (subst P same y.1) in
    (rest.0, ap (λ ts. t ∷ ts) rest.1 ∙ ap (λ u. u ∷ (p ++ rest.0)) same)

-- two fronts of a text, of which each ends with a token, are one, or one is the first tokens of the other
abbrev Compared : List Token → Token → List Token → Token → Type 0
Compared p s q t = ((p ≡ q) × (s ≡ t)) ⊎ (IsFront (p ++ s ∷ []) q ⊎ IsFront (q ++ t ∷ []) p)

longer : (u v : Token) (p : List Token) (s : Token) (q : List Token) (t : Token) → v ≡ u → Compared p s q t → Compared (u ∷ p) s (v ∷ q) t
longer u v p s q t e (inl h) = inl (ap (λ w. w ∷ p) (sym e) ∙ ap (λ ts. v ∷ ts) h.0, h.1)
longer u v p s q t e (inr (inl h)) = inr (inl (h.0, ap (λ ts. v ∷ ts) h.1 ∙ ap (λ w. w ∷ ((p ++ s ∷ []) ++ h.0)) e))
longer u v p s q t e (inr (inr h)) = inr (inr (h.0, ap (λ ts. u ∷ ts) h.1 ∙ ap (λ w. w ∷ ((q ++ t ∷ []) ++ h.0)) (sym e)))

fronts : (bytes : List ℕ) (at : ℕ) (p : List Token) (s : Token) (q : List Token) (t : Token) (m n : ℕ)
    → BeginsWithTokens bytes at (p ++ s ∷ []) m → BeginsWithTokens bytes at (q ++ t ∷ []) n → Compared p s q t
fronts bytes at [] s [] t m n x y = inl (refl, same_next (chars (drop at bytes)) at s t x.0 y.0)
fronts bytes at [] s (v ∷ q) t m n x y = inr (inl (q, ap (λ u. u ∷ q) (same_next (chars (drop at bytes)) at v s y.0 x.0)))
fronts bytes at (u ∷ p) s [] t m n x y = inr (inr (p, ap (λ w. w ∷ p) (same_next (chars (drop at bytes)) at u t x.0 y.0)))
fronts bytes at (u ∷ p) s (v ∷ q) t m n x y =
    let same : v ≡ u = same_next (chars (drop at bytes)) at v u y.0 x.0 in
    let P : Token → Type 0 = λ w. BeginsWithTokens bytes w.upto (q ++ t ∷ []) n in
    longer u v p s q t same (fronts bytes u.upto p s q t m n x.1 (subst P same y.1))

-- why a reader stops at the last of some tokens, and what the bytes are then
abbrev Ends : State → List Lexeme → Token → Outcome → Type 0
Ends start tokens t o =
    ((BeginsDocument tokens → ⊥) × (o ≡ syntax t.at)) ⊎ ((f : Fault) × Faults start tokens f × (o ≡ fault f))

not_open : (start : State) (tokens : List Lexeme) (t : Token) (o : Outcome) (more : List Lexeme)
    → Ends start tokens t o → IsOpen start (tokens ++ more) → ⊥
not_open start tokens t o more (inl h) has_more =
    let x = has_more 0 in h.0 (x.0, more ++ x.1, x.2 ∙ append_assoc tokens more x.1)
not_open start tokens t o more (inr h) has_more =
    let x = has_more (suc (fault_at h.0)) in
    let P : Result State Fault → Type 0 = λ left. IsClearTo (suc (fault_at h.0)) left in
    let late : suc (fault_at h.0) ≤ fault_at h.0 = subst P (h.1.1 x.0 (more ++ x.1) (x.2 ∙ append_assoc tokens more x.1)) x.3 in
    omega arith

not_open_past : (start : State) (bytes : List ℕ) (p q : List Token) (t : Token) (o : Outcome)
    → IsFront p q → Ends start (lexemes_of bytes p) t o → IsOpen start (lexemes_of bytes q) → ⊥
not_open_past start bytes p q t o f ends has_more =
    let P : List Lexeme → Type 0 = λ ts. IsOpen start ts in
    not_open start (lexemes_of bytes p) t o (lexemes_of bytes f.0) ends
    (subst P (ap (lexemes_of bytes) f.1 ∙ map-append (lexeme_of bytes) p f.0) has_more)

one_fault : (left : Result State Fault) (f g : Fault) → left ≡ Err f → left ≡ Err g → f ≡ g
one_fault left f g x y = cc

one_end : (start : State) (tokens : List Lexeme) (t : Token) (o p : Outcome) → Ends start tokens t o → Ends start tokens t p → o ≡ p
one_end start tokens t o p (inl x) (inl y) = x.1 ∙ sym y.1
one_end start tokens t o p (inl x) (inr y) = absurd (x.0 y.1.0)
one_end start tokens t o p (inr x) (inl y) = absurd (y.0 x.1.0)
one_end start tokens t o p (inr x) (inr y) =
    let b = x.1.0 in
    x.2 ∙ (ap fault (one_fault (document_of b.0 start) x.0 y.0 (x.1.1 b.0 b.1 b.2) (y.1.1 b.0 b.1 b.2)) ∙ sym y.2)

-- what the bytes are where a reader takes all their tokens
abbrev Says : State → List ℕ → List Lexeme → Answer → Outcome → Type 0
Says start bytes tokens (Answer.next t) o = ⊥
Says start bytes tokens end o =
    ((after : State) × Means start tokens after × (o ≡ document after.rows)) ⊎ (IsUnfinished tokens × (o ≡ syntax (length bytes)))
Says start bytes tokens (is_unclosed at) o = o ≡ unclosed at
Says start bytes tokens (is_bad at) o = o ≡ bad_byte at

-- each answer is of one of three sorts
data Judged (start : State) (bytes : List ℕ) (o : Outcome) : Type 0 where
  invalid : (IsUtf8 bytes → ⊥) → o ≡ not_utf8 (utf8_valid_len bytes) → Judged start bytes o
  whole : (tokens : List Token) → (last : Answer) → HasTokens bytes tokens last → IsOpen start (lexemes_of bytes tokens)
      → Says start bytes (lexemes_of bytes tokens) last o → Judged start bytes o
  cut : (front : List Token) → (t : Token) → HasFront bytes (front ++ t ∷ []) → IsOpen start (lexemes_of bytes front)
      → Ends start (lexemes_of bytes (front ++ t ∷ [])) t o → Judged start bytes o

means_open : (start : State) (tokens : List Lexeme) (after : State) → Means start tokens after → IsOpen start tokens
means_open start tokens after m n =
    let P : Result State Fault → Type 0 = λ left. IsClearTo n left in (m.0, [], m.1 ∙ sym (append-nil tokens), subst P (sym m.2) tt)

judged : (start : State) (bytes : List ℕ) (o : Outcome) → IsReadAs start bytes o → Judged start bytes o
judged start bytes (document rows) h =
    Judged.whole h.0 end h.1 (means_open start (lexemes_of bytes h.0) h.2.0 h.2.1) (inl (h.2.0, h.2.1, ap document h.2.2))
judged start bytes (not_utf8 at) h = Judged.invalid h.0 (ap not_utf8 h.1)
judged start bytes (unclosed at) h = Judged.whole h.0 (is_unclosed at) h.1 h.2 refl
judged start bytes (bad_byte at) h = Judged.whole h.0 (is_bad at) h.1 h.2 refl
judged start bytes (syntax at) (inl h) = Judged.cut h.0 h.1 h.2 h.3 (inl (h.4, ap syntax h.5))
judged start bytes (syntax at) (inr h) = Judged.whole h.0 end h.1 h.2 (inr (h.3, ap syntax h.4))
judged start bytes (fault f) h = Judged.cut h.0 h.1 h.2 h.3 (inr (f, h.4, refl))

not_both : (start : State) (bytes : List ℕ) (tokens : List Token) (last : Answer) (front : List Token) (t : Token) (o : Outcome)
    → HasTokens bytes tokens last → IsOpen start (lexemes_of bytes tokens)
    → HasFront bytes (front ++ t ∷ []) → Ends start (lexemes_of bytes (front ++ t ∷ [])) t o → ⊥
not_both start bytes tokens last front t o all has_more first ends =
    let f = front_of_all bytes (start_of bytes) (front ++ t ∷ []) tokens first.1.0 last first.1.1 all.1 in
    not_open_past start bytes (front ++ t ∷ []) tokens t o f ends has_more

one_cut : (start : State) (bytes : List ℕ) (p : List Token) (s : Token) (q : List Token) (t : Token) (a b : Outcome)
    → IsOpen start (lexemes_of bytes p) → IsOpen start (lexemes_of bytes q)
    → Ends start (lexemes_of bytes (p ++ s ∷ [])) s a → Ends start (lexemes_of bytes (q ++ t ∷ [])) t b → Compared p s q t → a ≡ b
one_cut start bytes p s q t a b has_p has_q x y (inl e) =
    let P : List Token → Type 0 = λ ts. Ends start (lexemes_of bytes (ts ++ t ∷ [])) t b in
    let Q : Token → Type 0 = λ u. Ends start (lexemes_of bytes (p ++ u ∷ [])) u b in
    one_end start (lexemes_of bytes (p ++ s ∷ [])) s a b x (subst Q (sym e.1) (subst P (sym e.0) y))
one_cut start bytes p s q t a b has_p has_q x y (inr (inl f)) = absurd (not_open_past start bytes (p ++ s ∷ []) q s a f x has_q)
one_cut start bytes p s q t a b has_p has_q x y (inr (inr f)) = absurd (not_open_past start bytes (q ++ t ∷ []) p t b f y has_p)

abbrev pub HasOneMeaning : Type 0
HasOneMeaning = (start : State) (tokens : List Lexeme) (a b : State) → Means start tokens a → Means start tokens b → a ≡ b

one_says : HasOneMeaning → (start : State) (bytes : List ℕ) (tokens : List Lexeme) (last : Answer) (o p : Outcome)
    → Says start bytes tokens last o → Says start bytes tokens last p → o ≡ p
one_says one start bytes tokens (Answer.next t) o p x y = absurd x
one_says one start bytes tokens end o p (inl x) (inl y) =
    x.2 ∙ (ap (λ (after : State). document after.rows) (one start tokens x.0 y.0 x.1 y.1) ∙ sym y.2)
one_says one start bytes tokens end o p (inl x) (inr y) = absurd (y.0 x.1.0 x.1.1)
one_says one start bytes tokens end o p (inr x) (inl y) = absurd (x.0 y.1.0 y.1.1)
one_says one start bytes tokens end o p (inr x) (inr y) = x.1 ∙ sym y.1
one_says one start bytes tokens (is_unclosed at) o p x y = x ∙ sym y
one_says one start bytes tokens (is_bad at) o p x y = x ∙ sym y

one_judged : HasOneMeaning → (start : State) (bytes : List ℕ) (a b : Outcome) → Judged start bytes a → Judged start bytes b → a ≡ b
one_judged one start bytes a b (Judged.invalid bad e) (Judged.invalid bad' f) = e ∙ sym f
one_judged one start bytes a b (Judged.invalid bad e) (Judged.whole tokens last all has_more says) = absurd (bad all.0)
one_judged one start bytes a b (Judged.invalid bad e) (Judged.cut front t first has_more ends) = absurd (bad first.0)
one_judged one start bytes a b (Judged.whole tokens last all has_more says) (Judged.invalid bad f) = absurd (bad all.0)
one_judged one start bytes a b (Judged.whole tokens last all has_more says) (Judged.whole others end_too all_too more_too says_too) =
    let same = one_reading bytes (start_of bytes) tokens others last end_too all.1 all_too.1 in
    let P : List Token → Type 0 = λ ts. Says start bytes (lexemes_of bytes ts) end_too b in
    let Q : Answer → Type 0 = λ l. Says start bytes (lexemes_of bytes tokens) l b in
    one_says one start bytes (lexemes_of bytes tokens) last a b says (subst Q (sym same.1) (subst P (sym same.0) says_too))
one_judged one start bytes a b (Judged.whole tokens last all has_more says) (Judged.cut front t first has_front ends) =
    absurd (not_both start bytes tokens last front t b all has_more first ends)
one_judged one start bytes a b (Judged.cut front t first has_front ends) (Judged.invalid bad f) = absurd (bad first.0)
one_judged one start bytes a b (Judged.cut front t first has_front ends) (Judged.whole tokens last all has_more says) =
    absurd (not_both start bytes tokens last front t a all has_more first ends)
one_judged one start bytes a b (Judged.cut p s first has_front ends) (Judged.cut q t first_too has_front_too ends_too) =
    one_cut start bytes p s q t a b has_front has_front_too ends ends_too
    (fronts bytes (start_of bytes) p s q t first.1.0 first_too.1.0 first.1.1 first_too.1.1)

one_outcome_by : HasOneMeaning → HasOneOutcome
one_outcome_by one base rows bytes a b x y =
    one_judged one (beginning base rows) bytes a b (judged (beginning base rows) bytes a x) (judged (beginning base rows) bytes b y)

meaning_by : (start : State) (tokens : List Lexeme) (a b : State)
    → Means start tokens a → Means start tokens b → Course start tokens → a ≡ b
meaning_by start tokens a b x y (Course.through c st formed r) =
    means_this start tokens c.next c.outer st a r x ∙ sym (means_this start tokens c.next c.outer st b r y)
meaning_by start tokens a b x y (Course.stops front t back e c st formed r stuck) =
    absurd (no_document start front c t st r stuck (x.0, back, x.1 ∙ (e ∙ sym (append_assoc front (t ∷ []) back))))
meaning_by start tokens a b x y (Course.is_faulty front t back e c st formed r f has) =
    let fails : document_of x.0 start ≡ Err f =
    (has_fault start front c t st f r has).1 x.0 back (x.1 ∙ (e ∙ sym (append_assoc front (t ∷ []) back))) in
    let fine : document_of x.0 start ≡ Ok a = x.2 in cc

-- documents with the same tokens leave the same
pub one_meaning : HasOneMeaning
one_meaning start tokens a b x y = meaning_by start tokens a b x y (course start tokens)

pub one_outcome : HasOneOutcome
one_outcome = one_outcome_by one_meaning
