-- The bodies of IRIs and strings, character by character.
use Rattle.std.proofs.Common.{◌≡◌, ℕ, zero, suc, ◌<◌, ◌+◌, Bool, true, false, ◌==◌, List, [], ◌∷◌, ◌++◌, codes, refl, sym, ap, ◌∙◌, subst, Result, Ok, Err, IfOk, Option, Some, None, inr, arith}
use Rattle.std.proofs.lemmas.Bool.{ne_eqb, eq-eqb}
use Rattle.turtle_grammar.specs.Pattern.{Pattern, fails, nothing, one, ◌then◌, ◌or◌, many, maybe, times, char, Matches, is_empty, after, in_row}
use Rattle.turtle_grammar.specs.Characters.{is_excluded}
use Rattle.turtle_grammar.specs.Tokens.{Begins}
use Rattle.turtle_grammar.proofs.Derivatives.{from_after, to_after, to_empty, sound}
use Rattle.turtle_lex.specs.Places.{chars_from, Reads, ReadsChar}
use Rattle.turtle_lex.specs.Scans.{Seen, Scans, Leads, LeadsInside, IsFrame}
use Rattle.turtle_lex.specs.Scans.Seen.{closes, cut_off, goes_wrong}
use Rattle.turtle_lex.specs.Enclosure.{plain, closing, escapes, escape_rest, piece, body, long_piece, long_body}
use Rattle.turtle_lex.specs.declared.enclosure.Enclosure.{Enclosure}
use Rattle.turtle_lex.specs.declared.enclosure.Enclosure.TheVariants.{Angle, Double, Single, LongDouble, LongSingle}
use Rattle.turtle_lex.specs.declared.stop.Stop.{Stop}
use Rattle.turtle_lex.specs.declared.stop.Stop.TheVariants.{Unclosed, Bad}
use Rattle.turtle_lex.proofs.Opened.{moved, by_pattern, either_fails, inside}
use Rattle.turtle_lex.proofs.Inside.{body_frame}

-- Two patterns that go on alike after c see the same in a text that begins with c.
turned : (c : ℕ) (p q : Pattern) (a : List ℕ) → after c p ≡ after c q → Matches q (c ∷ a) → Matches p (c ∷ a)
turned c p q a e h = from_after c p a (by_pattern (after c q) (after c p) a (sym e) (to_after c q a h))

not_empty : (p : Pattern) → is_empty p ≡ false → Matches p [] → ⊥
not_empty p e h = let k = to_empty p h in cc

begun : (c : ℕ) (p q : Pattern) (text front back : List ℕ) → after c p ≡ after c q → is_empty q ≡ false → c ∷ text ≡ front ++ back → Matches q front → Matches p front
begun c p q text [] back e full w m = absurd (not_empty q full m)
begun c p q text (d ∷ front) back e full w m =
    let same : d ∷ front ≡ c ∷ front = cc in
    moved p (c ∷ front) (d ∷ front) (sym same) (turned c p q front e (moved q (d ∷ front) (c ∷ front) same m))

begun_any : (c : ℕ) (p q : Pattern) (text front back : List ℕ) → after c p ≡ after c q → Begins p [] → c ∷ text ≡ front ++ back → Begins q front → Begins p front
begun_any c p q text [] back e live w m = live
begun_any c p q text (d ∷ front) back e live w m =
    let same : d ∷ (front ++ m.0) ≡ c ∷ (front ++ m.0) = cc in
    (m.0, moved p (c ∷ (front ++ m.0)) (d ∷ (front ++ m.0)) (sym same) (turned c p q (front ++ m.0) e (moved q (d ∷ (front ++ m.0)) (c ∷ (front ++ m.0)) same m.1)))

begun_more : (c d : ℕ) (p q : Pattern) (text front rest : List ℕ) → after c p ≡ after c q → c ∷ text ≡ front ++ d ∷ rest → Begins q (front ++ d ∷ []) → Begins p (front ++ d ∷ [])
begun_more c d p q text [] rest e w m =
    let same : d ∷ m.0 ≡ c ∷ m.0 = cc in
    (m.0, moved p (c ∷ m.0) (d ∷ m.0) (sym same) (turned c p q m.0 e (moved q (d ∷ m.0) (c ∷ m.0) same m.1)))
begun_more c d p q text (b ∷ front) rest e w m =
    let t = front ++ d ∷ [] ++ m.0 in
    let same : b ∷ t ≡ c ∷ t = cc in
    (m.0, moved p (c ∷ t) (b ∷ t) (sym same) (turned c p q t e (moved q (b ∷ t) (c ∷ t) same m.1)))

same_first : (c : ℕ) (p q : Pattern) (text : List ℕ) (seen : Seen) → after c p ≡ after c q → is_empty p ≡ false → is_empty q ≡ false → Begins p [] → Scans q (c ∷ text) seen → Scans p (c ∷ text) seen
same_first c p q text (closes back) e pf qf live h = record {
  front = h.front;
  whole = h.whole;
  fits = begun c p q text h.front back e qf h.whole h.fits;
  longest = λ a b w m. h.longest a b w (begun c q p text a b (sym e) pf w m);
}
same_first c p q text cut_off e pf qf live h = record {
  none = record { none = λ a b w m. h.none.none a b w (begun c q p text a b (sym e) pf w m) };
  begins = (h.begins.0, turned c p q (text ++ h.begins.0) e h.begins.1);
}
same_first c p q text (goes_wrong back) e pf qf live h = record {
  none = record { none = λ a b w m. h.none.none a b w (begun c q p text a b (sym e) pf w m) };
  front = h.front;
  c = h.c;
  rest = h.rest;
  whole = h.whole;
  wrong = h.wrong;
  begins = begun_any c p q text h.front back e live h.whole h.begins;
  ends = λ k. h.ends (begun_more c h.c q p text h.front h.rest (sym e) (h.whole ∙ ap (λ x. h.front ++ x) h.wrong) k);
}

at_first : (text : List ℕ) (at c next : ℕ) (p q : Pattern) (seen : Seen) → Reads text at c next → after c p ≡ after c q → is_empty p ≡ false → is_empty q ≡ false → Begins p [] → Scans q (chars_from text at) seen → Scans p (chars_from text at) seen
at_first text at c next p q seen r e pf qf live h =
    let P : Pattern → List ℕ → Type 0 = λ x t. Scans x t seen in
    let there : Scans q (c ∷ chars_from text next) seen = subst (λ t. P q t) r.reads h in
    subst (λ t. P p t) (sym r.reads) (same_first c p q (chars_from text next) seen e pf qf live there)

pub leads_first : (text : List ℕ) (at c next : ℕ) (p q r : Pattern) (result : Result ℕ Stop) → Reads text at c next → after c p ≡ after c q → is_empty p ≡ false → is_empty q ≡ false → Begins p []
    → Leads q r text at result → Leads p r text at result
leads_first text at c next p q r (Ok upto) reads e pf qf live h = record {
  carries = λ seen s. at_first text at c next p q seen reads e pf qf live (h.carries seen s);
  further = h.further;
  place = h.place;
}
leads_first text at c next p q r (Err Unclosed) reads e pf qf live h = at_first text at c next p q cut_off reads e pf qf live h
leads_first text at c next p q r (Err (Bad place)) reads e pf qf live h = (at_first text at c next p q (goes_wrong (chars_from text place)) reads e pf qf live h.0, h.1)

-- The pieces of a body.
pub plain_only : (f : ℕ → Bool) (c k : ℕ) → f k ≡ false → f c ≡ true → (c == k) ≡ false
plain_only f c k differs holds = ne_eqb c k (λ e. let there : f c ≡ f k = ap f e in cc)

backslash_not_plain : (e : Enclosure) → plain e 92 ≡ false
unfolding is_excluded
backslash_not_plain Angle = refl
backslash_not_plain Double = refl
backslash_not_plain Single = refl
backslash_not_plain LongDouble = refl
backslash_not_plain LongSingle = refl

no_escape : (e : Enclosure) (c : ℕ) → (c == 92) ≡ false → after c (escapes e) ≡ fails
no_escape Angle c k = rw k refl
no_escape Double c k = rw k refl
no_escape Single c k = rw k refl
no_escape LongDouble c k = rw k refl
no_escape LongSingle c k = rw k refl

escape_here : (e : Enclosure) → after 92 (escapes e) ≡ escape_rest e
escape_here Angle = refl
escape_here Double = refl
escape_here Single = refl
escape_here LongDouble = refl
escape_here LongSingle = refl

piece_by_plain : (f : ℕ → Bool) (p : Pattern) (c : ℕ) → f c ≡ true → after c p ≡ fails → after c (one f or p) ≡ nothing
piece_by_plain f p c holds e = rw (holds, e) refl

piece_by_escape : (f : ℕ → Bool) (p : Pattern) (c : ℕ) → f c ≡ false → after c (one f or p) ≡ after c p
piece_by_escape f p c differs = rw differs refl

pub piece_plain : (e : Enclosure) (c : ℕ) → plain e c ≡ true → after c (piece e) ≡ nothing
piece_plain e c holds = piece_by_plain (plain e) (escapes e) c holds (no_escape e c (plain_only (plain e) c 92 (backslash_not_plain e) holds))

pub piece_escape : (e : Enclosure) (c : ℕ) → plain e c ≡ false → c ≡ 92 → after c (piece e) ≡ escape_rest e
piece_escape e c differs is = piece_by_escape (plain e) (escapes e) c differs ∙ (ap (λ x. after x (escapes e)) is ∙ escape_here e)

pub piece_wrong : (e : Enclosure) (c : ℕ) → plain e c ≡ false → (c == 92) ≡ false → after c (piece e) ≡ fails
piece_wrong e c differs not_there = piece_by_escape (plain e) (escapes e) c differs ∙ no_escape e c not_there

escapes_full : (e : Enclosure) → is_empty (escapes e) ≡ false
escapes_full Angle = refl
escapes_full Double = refl
escapes_full Single = refl
escapes_full LongDouble = refl
escapes_full LongSingle = refl

pub piece_full : (e : Enclosure) → is_empty (piece e) ≡ false
piece_full e = escapes_full e

pub piece_live : (e : Enclosure) → Begins (piece e) []
unfolding is_excluded
piece_live Angle = (codes "a", sound (piece Angle) (codes "a") refl)
piece_live Double = (codes "a", sound (piece Double) (codes "a") refl)
piece_live Single = (codes "a", sound (piece Single) (codes "a") refl)
piece_live LongDouble = (codes "a", sound (piece LongDouble) (codes "a") refl)
piece_live LongSingle = (codes "a", sound (piece LongSingle) (codes "a") refl)

eq_true : (k : ℕ) → (k == k) ≡ true
eq_true k = eq-eqb k k refl

-- the body of an IRI or a short string
pub short_frame : (e : Enclosure) → IsFrame (inside (many (piece e)) (char (closing e)))
short_frame e = body_frame (piece e) (char (closing e)) refl (closing e ∷ [], (closing e, eq_true (closing e), refl))

pub body_live : (e : Enclosure) → Begins (body e) []
body_live e = (short_frame e).live nothing ([], refl)

body_go : (p : Pattern) (q c : ℕ) → (c == q) ≡ false → after c (many p then char q) ≡ in_row (in_row (after c p) (many p)) (char q)
body_go p q c differs = rw (differs, either_fails) refl

pub body_piece : (e : Enclosure) (c : ℕ) → (c == closing e) ≡ false → after c (body e) ≡ after c (inside (many (piece e)) (char (closing e)) (piece e))
body_piece e c differs = body_go (piece e) (closing e) c differs ∙ sym ((short_frame e).steps c (piece e) (piece_full e))

pub body_close : (e : Enclosure) (c : ℕ) → c ≡ closing e → after c (body e) ≡ nothing
unfolding is_excluded
body_close Angle c is = rw is refl
body_close Double c is = rw is refl
body_close Single c is = rw is refl
body_close LongDouble c is = rw is refl
body_close LongSingle c is = rw is refl

two_match : (q : ℕ) → Matches (times 2 (char q)) (q ∷ q ∷ [])
two_match q = (q ∷ [], q ∷ [], (q, eq_true q, refl), (q, eq_true q, refl), refl)

three_live : (q : ℕ) → Begins (times 3 (char q)) []
three_live q = (q ∷ q ∷ q ∷ [], (q ∷ [], q ∷ q ∷ [], (q, eq_true q, refl), two_match q, refl))

-- the body of a long string
pub closing_not_plain : (e : Enclosure) → plain e (closing e) ≡ false
unfolding is_excluded
closing_not_plain Angle = refl
closing_not_plain Double = refl
closing_not_plain Single = refl
closing_not_plain LongDouble = refl
closing_not_plain LongSingle = refl

closing_no_escape : (e : Enclosure) → after (closing e) (escapes e) ≡ fails
closing_no_escape Angle = refl
closing_no_escape Double = refl
closing_no_escape Single = refl
closing_no_escape LongDouble = refl
closing_no_escape LongSingle = refl

long_go : (p : Pattern) (q c : ℕ) → (c == q) ≡ false → after c (many (maybe (char q or (char q then char q)) then p) then times 3 (char q)) ≡ in_row (in_row (after c p) (many (maybe (char q or (char q then char q)) then p))) (times 3 (char q))
long_go p q c differs = rw (differs, either_fails) refl

one_go : (f : ℕ → Bool) (p m : Pattern) (q c : ℕ) → (c == q) ≡ false → is_empty p ≡ false
    → after c ((((nothing or char q) then (one f or p)) then many m then times 3 (char q)) or times 2 (char q)) ≡ in_row (in_row (after c (one f or p)) (many m)) (times 3 (char q))
one_go f p m q c differs full = rw (differs, full, either_fails, either_fails, either_fails) refl

two_go : (f : ℕ → Bool) (p m : Pattern) (q c : ℕ) → (c == q) ≡ false → is_empty p ≡ false
    → after c (((one f or p) then many m then times 3 (char q)) or char q) ≡ in_row (in_row (after c (one f or p)) (many m)) (times 3 (char q))
two_go f p m q c differs full = rw (differs, full, either_fails, either_fails, either_fails) refl

zero_quote : (f : ℕ → Bool) (p : Pattern) (q : ℕ) → (q == q) ≡ true → f q ≡ false → after q p ≡ fails
    → after q (many (maybe (char q or (char q then char q)) then (one f or p)) then times 3 (char q)) ≡ (((nothing or char q) then (one f or p)) then many (maybe (char q or (char q then char q)) then (one f or p)) then times 3 (char q)) or times 2 (char q)
zero_quote f p q same g d = rw (same, g, d) refl

one_quote : (f : ℕ → Bool) (p m : Pattern) (q : ℕ) → (q == q) ≡ true → f q ≡ false → after q p ≡ fails → is_empty p ≡ false
    → after q ((((nothing or char q) then (one f or p)) then many m then times 3 (char q)) or times 2 (char q)) ≡ ((one f or p) then many m then times 3 (char q)) or char q
one_quote f p m q same g d full = rw (same, g, d, full) refl

two_quote : (f : ℕ → Bool) (p m : Pattern) (q : ℕ) → (q == q) ≡ true → f q ≡ false → after q p ≡ fails → is_empty p ≡ false
    → after q (((one f or p) then many m then times 3 (char q)) or char q) ≡ nothing
two_quote f p m q same g d full = rw (same, g, d, full) refl

pub long_frame : (e : Enclosure) → IsFrame (inside (many (long_piece e)) (times 3 (char (closing e))))
long_frame e = body_frame (long_piece e) (times 3 (char (closing e))) refl (three_live (closing e))

-- a character other than the quote
pub long_step : (e : Enclosure) (n c : ℕ) → (c == closing e) ≡ false → after c (long_body e n) ≡ after c (inside (many (long_piece e)) (times 3 (char (closing e))) (piece e))
long_step e zero c differs = long_go (piece e) (closing e) c differs ∙ sym ((long_frame e).steps c (piece e) (piece_full e))
long_step e (suc zero) c differs = one_go (plain e) (escapes e) (long_piece e) (closing e) c differs (escapes_full e) ∙ sym ((long_frame e).steps c (piece e) (piece_full e))
long_step e (suc (suc n)) c differs = two_go (plain e) (escapes e) (long_piece e) (closing e) c differs (escapes_full e) ∙ sym ((long_frame e).steps c (piece e) (piece_full e))

quote_next : (e : Enclosure) (n : ℕ) → n < 2 → after (closing e) (long_body e n) ≡ long_body e (n + 1)
quote_next e zero lt = zero_quote (plain e) (escapes e) (closing e) (eq_true (closing e)) (closing_not_plain e) (closing_no_escape e)
quote_next e (suc zero) lt = one_quote (plain e) (escapes e) (long_piece e) (closing e) (eq_true (closing e)) (closing_not_plain e) (closing_no_escape e) (escapes_full e)
quote_next e (suc (suc n)) lt = absurd (omega arith)

-- one quote more
pub long_quote : (e : Enclosure) (n c : ℕ) → n < 2 → c ≡ closing e → after c (long_body e n) ≡ long_body e (n + 1)
long_quote e n c lt is = ap (λ x. after x (long_body e n)) is ∙ quote_next e n lt

pub long_close : (e : Enclosure) (c : ℕ) → c ≡ closing e → after c (long_body e 2) ≡ nothing
long_close e c is = ap (λ x. after x (long_body e 2)) is ∙ two_quote (plain e) (escapes e) (long_piece e) (closing e) (eq_true (closing e)) (closing_not_plain e) (closing_no_escape e) (escapes_full e)

pub long_full : (e : Enclosure) (n : ℕ) → is_empty (long_body e n) ≡ false
long_full Angle zero = refl
long_full Angle (suc zero) = refl
long_full Angle (suc (suc n)) = refl
long_full Double zero = refl
long_full Double (suc zero) = refl
long_full Double (suc (suc n)) = refl
long_full Single zero = refl
long_full Single (suc zero) = refl
long_full Single (suc (suc n)) = refl
long_full LongDouble zero = refl
long_full LongDouble (suc zero) = refl
long_full LongDouble (suc (suc n)) = refl
long_full LongSingle zero = refl
long_full LongSingle (suc zero) = refl
long_full LongSingle (suc (suc n)) = refl

pub long_live : (e : Enclosure) (n : ℕ) → Begins (long_body e n) []
long_live e zero = (long_frame e).live nothing ([], refl)
long_live e (suc zero) = (closing e ∷ closing e ∷ [], inr (two_match (closing e)))
long_live e (suc (suc n)) = (closing e ∷ [], inr (closing e, eq_true (closing e), refl))

-- a scan inside doesn't go back
pub further_inside : (e : Enclosure) (text : List ℕ) (at next : ℕ) (p : Pattern) (result : Result ℕ Stop) → at < next → LeadsInside p text next result → IfOk result (λ upto. at < upto)
further_inside e text at next p (Ok upto) lt h = omega (arith, (h (inside (many (piece e)) (char (closing e))) (short_frame e)).further)
further_inside e text at next p (Err stop) lt h = tt

pub end_here : (text : List ℕ) (at : ℕ) (found : Option (ℕ × ℕ)) → ((x : ℕ × ℕ) → found ≡ Some x → ⊥) → ReadsChar text at found → chars_from text at ≡ []
end_here text at None not_some h = h
end_here text at (Some x) not_some h = absurd (not_some x refl)
