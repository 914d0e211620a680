-- From the longest token and the scans of quotes to what the grammar says.
use Rattle.std.proofs.Common.{◌≡◌, ◌≢◌, ◌⊎◌, inl, inr, ⊎_elim, ℕ, suc, ◌≤◌, ◌<◌, ◌+◌, Bool, true, false, cond, ◌==◌, nat_eq, Option, Some, None, MatchOption, Ok, Err, List, [], ◌∷◌, ◌++◌, length, take, drop, chars, encode_utf8_all, refl, sym, ap, ◌∙◌, subst, arith}
use Rattle.std.specs.List.{AllByRecursion, starts_with}
use Rattle.std.proofs.lemmas.Bool.{ne_eqb, eq-eqb}
use Rattle.std.proofs.lemmas.List.{length-append, length-drop, length-take-le, take-append-drop, take_at, drop_at, append_assoc}
use Rattle.std.proofs.lemmas.Str.{encodes-chars, encodes-append, IsUtf8-from_is_utf8, is_utf8-from_IsUtf8, IsUtf8-nil}
use Rattle.std.specs.Str.{is_utf8}
use lib.Utf8.{encode}
use Rattle.turtle_grammar.specs.Pattern.{Pattern, nothing, Matches, is_empty, after}
use Rattle.turtle_grammar.specs.Terminals.{pattern, gap, iriref, short_string, long_string}
use Rattle.turtle_grammar.specs.Tokens.{IsLongest, HasNone, Begins, Found, opened, FindsOpened, FindsPlain, Finds, bytes_of, Answer, IsAnswer, IsNext, start_of}
use Rattle.turtle_grammar.specs.Tokens.Answer.{next as token_next, is_unclosed as cut_at, is_bad as bad_at}
use Rattle.turtle_grammar.proofs.OneAnswer.{no_empty_token}
use Rattle.turtle_grammar.specs.Tokens.Found.{token, unclosed, bad}
use Rattle.turtle_grammar.specs.declared.token.TokenKind.{TokenKind}
use Rattle.turtle_grammar.specs.declared.token.TokenKind.TheVariants.{Iri, Namespace, PrefixedName, BlankLabel, LanguageTag, Integer, Decimal, Double, String, SingleString, LongSingleString, LongString, Dot, Comma, Semicolon, OpenSquare, CloseSquare, OpenRound, CloseRound, DoubleCaret, A, True, False, Prefix, Base}
use Rattle.turtle_lex.specs.declared.stop.Stop.{Stop}
use Rattle.turtle_lex.specs.declared.stop.Stop.TheVariants.{Unclosed, Bad}
use Rattle.turtle_lex.specs.declared.fault.LexFault.{LexFault}
use Rattle.turtle_lex.specs.Places.{IsPlace, chars_from, Reads}
use Rattle.turtle_lex.specs.Scans.{NoFront, Closes, GoesWrong, Goes, Stops}
use Rattle.turtle_lex.specs.Scans.Seen.{closes}
use Rattle.turtle_lex.specs.Picks.{Candidate, IsOne, IsNoLonger, PicksAt}
use Rattle.turtle_lex.specs.Kinds.{candidate, tokens}
use Rattle.turtle_lex.specs.Found.{FindsAt}
use Rattle.turtle_lex.specs.Reading.{IsFault, fault_at}
use Rattle.turtle_lex.specs.Enclosure.{body, long_body, long_opening}
use Rattle.turtle_lex.specs.declared.enclosure.Enclosure.TheVariants as enclosures
use Rattle.turtle_lex.specs.Tags.{spaces, gap_state}
use Rattle.turtle_lex.proofs.Opened.{scans_done, goes_one, goes_on}

-- the bytes between two places
pub bytes_between : (text : List ℕ) (at upto : ℕ) (front : List ℕ) → IsPlace text at → IsPlace text upto → chars_from text at ≡ front ++ chars_from text upto → upto ≡ at + bytes_of front
bytes_between text at upto front here there e =
    let bytes : drop at text ≡ encode_utf8_all front ++ drop upto text =
    sym (encodes-chars (drop at text) here.utf8) ∙ (ap encode_utf8_all e ∙ (encodes-append front (chars_from text upto) ∙ ap (λ x. encode_utf8_all front ++ x) (encodes-chars (drop upto text) there.utf8))) in
    omega (arith, ap length bytes, length-append (encode_utf8_all front) (drop upto text), length-drop at text, length-drop upto text, here.inside, there.inside)

take_front : (text front back : List ℕ) → text ≡ front ++ back → take (length front) text ≡ front
take_front text front back e = ap (take (length front)) e ∙ take_at front back (length front) refl

drop_front : (text front back : List ℕ) → text ≡ front ++ back → drop (length front) text ≡ back
drop_front text front back e = ap (drop (length front)) e ∙ drop_at front back (length front) refl

front_fits : (text front back : List ℕ) → text ≡ front ++ back → length front ≤ length text
front_fits text front back e = omega (arith, ap length e, length-append front back)

moved : (p : Pattern) (a b : List ℕ) → a ≡ b → Matches p a → Matches p b
moved p a b e h = let P : List ℕ → Type 0 = λ x. Matches p x in subst P e h

none_at : (p : Pattern) (text : List ℕ) → NoFront p text → HasNone p text
none_at p text h m le k = h.none (take m text) (drop m text) (sym (take-append-drop m text)) k

-- A closed quote.
closed : (p : Pattern) (text back : List ℕ) → (h : Closes p text back) → IsLongest p text (length h.front)
closed p text back h = (
  front_fits text h.front back h.whole,
  moved p h.front (take (length h.front) text) (sym (take_front text h.front back h.whole)) h.fits,
  λ m le k. omega (arith, h.longest (take m text) (drop m text) (sym (take-append-drop m text)) k, length-take-le m text le),
)

-- A quote that goes wrong.
wrong : (p : Pattern) (text back : List ℕ) → (h : GoesWrong p text back) → HasNone p text × (length h.front < length text) × Begins p (take (length h.front) text) × (Begins p (take (suc (length h.front)) text) → ⊥)
wrong p text back h =
    let B : List ℕ → Type 0 = λ x. Begins p x in
    let one : text ≡ (h.front ++ h.c ∷ []) ++ h.rest = h.whole ∙ (ap (λ x. h.front ++ x) h.wrong ∙ sym (append_assoc h.front (h.c ∷ []) h.rest)) in
    let n : length (h.front ++ h.c ∷ []) ≡ suc (length h.front) = omega (arith, length-append h.front (h.c ∷ [])) in
    let taken : take (suc (length h.front)) text ≡ h.front ++ h.c ∷ [] = ap (λ k. take k text) (sym n) ∙ take_front text (h.front ++ h.c ∷ []) h.rest one in
    (none_at p text h.none, omega (arith, front_fits text (h.front ++ h.c ∷ []) h.rest one, n), subst B (sym (take_front text h.front back h.whole)) h.begins, λ k. h.ends (subst B taken k))

opened_found : (kind : TokenKind) (text : List ℕ) (found : Found) → opened text ≡ Some kind → FindsOpened kind text found → Finds text found
opened_found kind text found e h = let P : Option TokenKind → Type 0 = λ o. MatchOption o (FindsPlain text found) (λ k. FindsOpened k text found) in subst P (sym e) h

-- what a scan from the opening on finds
pub finds_closed : (kind : TokenKind) (text : List ℕ) (at upto : ℕ) → IsPlace text at → opened (chars_from text at) ≡ Some kind → Goes (pattern kind) nothing text at upto → FindsAt text at (Ok (kind, upto))
finds_closed kind text at upto place e g =
    let here = chars_from text at in
    let back = chars_from text upto in
    let h : Closes (pattern kind) here back = g.carries (closes back) (scans_done back) in
    let n = length h.front in
    let taken = take_front here h.front back h.whole in
    let bytes = bytes_between text at upto h.front place g.place h.whole in
    (n, opened_found kind here (token kind n) e (refl, closed (pattern kind) here back h), bytes ∙ ap (λ x. at + bytes_of x) (sym taken), g.place)

pub finds_stop : (kind : TokenKind) (text : List ℕ) (at : ℕ) (stop : Stop) → IsPlace text at → opened (chars_from text at) ≡ Some kind → Stops (pattern kind) text at stop → FindsAt text at (Err stop)
finds_stop kind text at Unclosed place e h = opened_found kind (chars_from text at) unclosed e (none_at (pattern kind) (chars_from text at) h.none, h.begins)
finds_stop kind text at (Bad there) place e h =
    let here = chars_from text at in
    let back = chars_from text there in
    let g = h.0 in
    let w = wrong (pattern kind) here back g in
    let taken = take_front here g.front back g.whole in
    (length g.front, opened_found kind here (bad (length g.front)) e w, w.1, bytes_between text at there g.front place h.1 g.whole ∙ ap (λ x. at + bytes_of x) (sym taken))

-- All kinds are among the tokens.
of_kind : (P : Candidate → Type 0) (k : TokenKind) → AllByRecursion P tokens → P (candidate k)
of_kind P Iri h = h.0
of_kind P Namespace h = h.1.0
of_kind P PrefixedName h = h.1.1.0
of_kind P BlankLabel h = h.1.1.1.0
of_kind P LanguageTag h = h.1.1.1.1.0
of_kind P Integer h = h.1.1.1.1.1.0
of_kind P Decimal h = h.1.1.1.1.1.1.0
of_kind P Double h = h.1.1.1.1.1.1.1.0
of_kind P String h = h.1.1.1.1.1.1.1.1.0
of_kind P SingleString h = h.1.1.1.1.1.1.1.1.1.0
of_kind P LongSingleString h = h.1.1.1.1.1.1.1.1.1.1.0
of_kind P LongString h = h.1.1.1.1.1.1.1.1.1.1.1.0
of_kind P Dot h = h.1.1.1.1.1.1.1.1.1.1.1.1.0
of_kind P Comma h = h.1.1.1.1.1.1.1.1.1.1.1.1.1.0
of_kind P Semicolon h = h.1.1.1.1.1.1.1.1.1.1.1.1.1.1.0
of_kind P OpenSquare h = h.1.1.1.1.1.1.1.1.1.1.1.1.1.1.1.0
of_kind P CloseSquare h = h.1.1.1.1.1.1.1.1.1.1.1.1.1.1.1.1.0
of_kind P OpenRound h = h.1.1.1.1.1.1.1.1.1.1.1.1.1.1.1.1.1.0
of_kind P CloseRound h = h.1.1.1.1.1.1.1.1.1.1.1.1.1.1.1.1.1.1.0
of_kind P DoubleCaret h = h.1.1.1.1.1.1.1.1.1.1.1.1.1.1.1.1.1.1.1.0
of_kind P A h = h.1.1.1.1.1.1.1.1.1.1.1.1.1.1.1.1.1.1.1.1.0
of_kind P True h = h.1.1.1.1.1.1.1.1.1.1.1.1.1.1.1.1.1.1.1.1.1.0
of_kind P False h = h.1.1.1.1.1.1.1.1.1.1.1.1.1.1.1.1.1.1.1.1.1.1.0
of_kind P Prefix h = h.1.1.1.1.1.1.1.1.1.1.1.1.1.1.1.1.1.1.1.1.1.1.1.0
of_kind P Base h = h.1.1.1.1.1.1.1.1.1.1.1.1.1.1.1.1.1.1.1.1.1.1.1.1.0

one_is : (rs : List Candidate) (kind : TokenKind) (front : List ℕ) → AllByRecursion (λ (r : Candidate). r.wanted ≡ pattern r.kind) rs → IsOne rs kind front → Matches (pattern kind) front
one_is [] kind front all h = absurd h
one_is (r ∷ rs) kind front all h =
    ⊎_elim
    (λ x. let e : r.wanted ≡ pattern kind = all.0 ∙ ap pattern x.0 in let P : Pattern → Type 0 = λ p. Matches p front in subst P e x.1)
    (λ x. one_is rs kind front all.1 x) h

all_are : AllByRecursion (λ (r : Candidate). r.wanted ≡ pattern r.kind) tokens
all_are = (refl, (refl, (refl, (refl, (refl, (refl, (refl, (refl, (refl, (refl, (refl, (refl, (refl, (refl, (refl, (refl, (refl, (refl, (refl, (refl, (refl, (refl, (refl, (refl, (refl, tt)))))))))))))))))))))))))

plain_longest : (text front : List ℕ) (kind : TokenKind) → AllByRecursion (IsNoLonger text front kind) tokens → (k : TokenKind) (m : ℕ) → m ≤ length text → Matches (pattern k) (take m text) → (m < length front) ⊎ ((m ≡ length front) × (k ≡ kind))
plain_longest text front kind h k m le fit =
    let n = length-take-le m text le in
    ⊎_elim (λ lt. inl (omega (arith, n))) (λ e. inr (sym n ∙ e.0, e.1)) ((of_kind (IsNoLonger text front kind) k h).shorter (take m text) (drop m text) (sym (take-append-drop m text)) fit)

plain_found : (text : List ℕ) (found : Found) → opened text ≡ None → FindsPlain text found → Finds text found
plain_found text found e h = let P : Option TokenKind → Type 0 = λ o. MatchOption o (FindsPlain text found) (λ k. FindsOpened k text found) in subst P (sym e) h

-- the longest token
pub finds_token : (text : List ℕ) (at : ℕ) (x : TokenKind × ℕ) → IsPlace text at → opened (chars_from text at) ≡ None → PicksAt tokens text at (Some x) → FindsAt text at (Ok x)
finds_token text at x place e h =
    let here = chars_from text at in
    let back = chars_from text x.1 in
    let p = h.0 in
    let taken = take_front here p.front back p.whole in (
      length p.front,
      plain_found here (token x.0 (length p.front)) e (
        front_fits here p.front back p.whole,
        moved (pattern x.0) p.front (take (length p.front) here) (sym taken) (one_is tokens x.0 p.front all_are p.fits),
        plain_longest here p.front x.0 p.longest,
      ),
      bytes_between text at x.1 p.front place h.1 p.whole ∙ ap (λ y. at + bytes_of y) (sym taken),
      h.1,
    )

-- no token
pub finds_none : (text : List ℕ) (at c next : ℕ) → IsPlace text at → Reads text at c next → opened (chars_from text at) ≡ None → PicksAt tokens text at None → FindsAt text at (Err (Bad at))
finds_none text at c next place r e h =
    let here = chars_from text at in (
      0,
      plain_found here (bad 0) e (refl, λ k. none_at (pattern k) here (of_kind (λ (r : Candidate). NoFront r.wanted here) k h)),
      omega (arith, ap length r.reads),
      bytes_between text at at [] place place refl,
    )

-- what opens
opened_plain_by : (c : ℕ) (rest : List ℕ) → (60 == c) ≡ false → (34 == c) ≡ false → (39 == c) ≡ false → opened (c ∷ rest) ≡ None
opened_plain_by c rest a d s = rw (a, d, s) refl

at_reads : (text : List ℕ) (at c next : ℕ) (o : Option TokenKind) → Reads text at c next → opened (c ∷ chars_from text next) ≡ o → opened (chars_from text at) ≡ o
at_reads text at c next o r e = ap opened r.reads ∙ e

pub opened_plain : (text : List ℕ) (at c next : ℕ) → Reads text at c next → c ≢ 60 → c ≢ 34 → c ≢ 39 → opened (chars_from text at) ≡ None
opened_plain text at c next r a d s =
    at_reads text at c next None r (opened_plain_by c (chars_from text next) (ne_eqb 60 c (λ e. a (sym e))) (ne_eqb 34 c (λ e. d (sym e))) (ne_eqb 39 c (λ e. s (sym e))))

pub opened_angle : (text : List ℕ) (at next : ℕ) → Reads text at 60 next → opened (chars_from text at) ≡ Some Iri
opened_angle text at next r = at_reads text at 60 next (Some Iri) r refl

double_by : (rest : List ℕ) → starts_with nat_eq rest (34 ∷ 34 ∷ []) ≡ false → opened (34 ∷ rest) ≡ Some String
double_by rest e = rw e refl

single_by : (rest : List ℕ) → starts_with nat_eq rest (39 ∷ 39 ∷ []) ≡ false → opened (39 ∷ rest) ≡ Some SingleString
single_by rest e = rw e refl

pub opened_double : (text : List ℕ) (at next : ℕ) → Reads text at 34 next → starts_with nat_eq (chars_from text next) (34 ∷ 34 ∷ []) ≡ false → opened (chars_from text at) ≡ Some String
opened_double text at next r e = at_reads text at 34 next (Some String) r (double_by (chars_from text next) e)

pub opened_single : (text : List ℕ) (at next : ℕ) → Reads text at 39 next → starts_with nat_eq (chars_from text next) (39 ∷ 39 ∷ []) ≡ false → opened (chars_from text at) ≡ Some SingleString
opened_single text at next r e = at_reads text at 39 next (Some SingleString) r (single_by (chars_from text next) e)

three : (text : List ℕ) (at next mid upto q : ℕ) → Reads text at q next → Reads text next q mid → Reads text mid q upto → chars_from text at ≡ q ∷ q ∷ q ∷ chars_from text upto
three text at next mid upto q r s t = r.reads ∙ ap (λ x. q ∷ x) (s.reads ∙ ap (λ x. q ∷ x) t.reads)

pub opened_long_double : (text : List ℕ) (at next mid upto : ℕ) → Reads text at 34 next → Reads text next 34 mid → Reads text mid 34 upto → opened (chars_from text at) ≡ Some LongString
opened_long_double text at next mid upto r s t = ap opened (three text at next mid upto 34 r s t)

pub opened_long_single : (text : List ℕ) (at next mid upto : ℕ) → Reads text at 39 next → Reads text next 39 mid → Reads text mid 39 upto → opened (chars_from text at) ≡ Some LongSingleString
opened_long_single text at next mid upto r s t = ap opened (three text at next mid upto 39 r s t)

-- Two quotes, or not.
eq_true : (k : ℕ) → nat_eq k k ≡ true
eq_true k = eq-eqb k k refl

pub not_two_end : (q : ℕ) (rest : List ℕ) → rest ≡ [] → starts_with nat_eq rest (q ∷ q ∷ []) ≡ false
not_two_end q rest e = ap (λ x. starts_with nat_eq x (q ∷ q ∷ [])) e

first_differs : (q c : ℕ) (rest : List ℕ) → nat_eq q c ≡ false → starts_with nat_eq (c ∷ rest) (q ∷ q ∷ []) ≡ false
first_differs q c rest e = rw e refl

pub not_two_first : (q : ℕ) (text : List ℕ) (at c next : ℕ) → Reads text at c next → c ≢ q → starts_with nat_eq (chars_from text at) (q ∷ q ∷ []) ≡ false
not_two_first q text at c next r h = ap (λ x. starts_with nat_eq x (q ∷ q ∷ [])) r.reads ∙ first_differs q c (chars_from text next) (ne_eqb q c (λ e. h (sym e)))

second_missing : (q : ℕ) → nat_eq q q ≡ true → starts_with nat_eq (q ∷ []) (q ∷ q ∷ []) ≡ false
second_missing q e = rw e refl

pub not_two_second_end : (q : ℕ) (text : List ℕ) (at next : ℕ) → Reads text at q next → chars_from text next ≡ [] → starts_with nat_eq (chars_from text at) (q ∷ q ∷ []) ≡ false
not_two_second_end q text at next r e = ap (λ x. starts_with nat_eq x (q ∷ q ∷ [])) (r.reads ∙ ap (λ x. q ∷ x) e) ∙ second_missing q (eq_true q)

second_differs : (q c : ℕ) (rest : List ℕ) → nat_eq q q ≡ true → nat_eq q c ≡ false → starts_with nat_eq (q ∷ c ∷ rest) (q ∷ q ∷ []) ≡ false
second_differs q c rest e f = rw (e, f) refl

pub not_two_second : (q : ℕ) (text : List ℕ) (at next c after : ℕ) → Reads text at q next → Reads text next c after → c ≢ q → starts_with nat_eq (chars_from text at) (q ∷ q ∷ []) ≡ false
not_two_second q text at next c after r s h =
    ap (λ x. starts_with nat_eq x (q ∷ q ∷ [])) (r.reads ∙ ap (λ x. q ∷ x) s.reads) ∙ second_differs q c (chars_from text after) (eq_true q) (ne_eqb q c (λ e. h (sym e)))

pub reads_as : (text : List ℕ) (at c d next : ℕ) → c ≡ d → Reads text at c next → Reads text at d next
reads_as text at c d next e r = let P : ℕ → Type 0 = λ x. Reads text at x next in subst P e r

-- After the opening.
iri_opens : after 60 (pattern Iri) ≡ body enclosures.Angle
unfolding pattern iriref
iri_opens = refl

string_opens : after 34 (pattern String) ≡ body enclosures.Double
unfolding pattern short_string
string_opens = refl

single_opens : after 39 (pattern SingleString) ≡ body enclosures.Single
unfolding pattern short_string
single_opens = refl

long_opens : after 34 (pattern LongString) ≡ long_opening enclosures.LongDouble 2
unfolding pattern long_string
long_opens = refl

long_single_opens : after 39 (pattern LongSingleString) ≡ long_opening enclosures.LongSingle 2
unfolding pattern long_string
long_single_opens = refl

long_opens_more : after 34 (long_opening enclosures.LongDouble 2) ≡ long_opening enclosures.LongDouble 1
long_opens_more = refl

long_opens_last : after 34 (long_opening enclosures.LongDouble 1) ≡ long_body enclosures.LongDouble 0
long_opens_last = refl

long_single_opens_more : after 39 (long_opening enclosures.LongSingle 2) ≡ long_opening enclosures.LongSingle 1
long_single_opens_more = refl

long_single_opens_last : after 39 (long_opening enclosures.LongSingle 1) ≡ long_body enclosures.LongSingle 0
long_single_opens_last = refl

full : (kind : TokenKind) → is_empty (pattern kind) ≡ false
full kind = no_empty_token kind

pub iri_goes : (text : List ℕ) (at next : ℕ) → Reads text at 60 next → Goes (pattern Iri) (body enclosures.Angle) text at next
iri_goes text at next r = goes_one text at 60 next (pattern Iri) (body enclosures.Angle) r iri_opens (full Iri)

pub string_goes : (text : List ℕ) (at next : ℕ) → Reads text at 34 next → Goes (pattern String) (body enclosures.Double) text at next
string_goes text at next r = goes_one text at 34 next (pattern String) (body enclosures.Double) r string_opens (full String)

pub single_goes : (text : List ℕ) (at next : ℕ) → Reads text at 39 next → Goes (pattern SingleString) (body enclosures.Single) text at next
single_goes text at next r = goes_one text at 39 next (pattern SingleString) (body enclosures.Single) r single_opens (full SingleString)

pub long_goes : (text : List ℕ) (at next mid upto : ℕ) → Reads text at 34 next → Reads text next 34 mid → Reads text mid 34 upto → Goes (pattern LongString) (long_body enclosures.LongDouble 0) text at upto
long_goes text at next mid upto r s t =
    goes_on text at next upto (pattern LongString) (long_opening enclosures.LongDouble 2) (long_body enclosures.LongDouble 0)
    (goes_one text at 34 next (pattern LongString) (long_opening enclosures.LongDouble 2) r long_opens (full LongString))
    (goes_on text next mid upto (long_opening enclosures.LongDouble 2) (long_opening enclosures.LongDouble 1) (long_body enclosures.LongDouble 0)
    (goes_one text next 34 mid (long_opening enclosures.LongDouble 2) (long_opening enclosures.LongDouble 1) s long_opens_more refl)
    (goes_one text mid 34 upto (long_opening enclosures.LongDouble 1) (long_body enclosures.LongDouble 0) t long_opens_last refl))

pub long_single_goes : (text : List ℕ) (at next mid upto : ℕ) → Reads text at 39 next → Reads text next 39 mid → Reads text mid 39 upto → Goes (pattern LongSingleString) (long_body enclosures.LongSingle 0) text at upto
long_single_goes text at next mid upto r s t =
    goes_on text at next upto (pattern LongSingleString) (long_opening enclosures.LongSingle 2) (long_body enclosures.LongSingle 0)
    (goes_one text at 39 next (pattern LongSingleString) (long_opening enclosures.LongSingle 2) r long_single_opens (full LongSingleString))
    (goes_on text next mid upto (long_opening enclosures.LongSingle 2) (long_opening enclosures.LongSingle 1) (long_body enclosures.LongSingle 0)
    (goes_one text next 39 mid (long_opening enclosures.LongSingle 2) (long_opening enclosures.LongSingle 1) s long_single_opens_more refl)
    (goes_one text mid 39 upto (long_opening enclosures.LongSingle 1) (long_body enclosures.LongSingle 0) t long_single_opens_last refl))

-- a gap
pub record Gap (text : List ℕ) (from at : ℕ) : Type 0 where
  pub count : ℕ
  pub longest : IsLongest gap (chars_from text from) count
  pub behind : drop count (chars_from text from) ≡ chars_from text at
  pub bytes : at ≡ from + bytes_of (take count (chars_from text from))
  pub place : IsPlace text at

gap_is : gap ≡ spaces
unfolding gap
gap_is = refl

gap_longer : (text front : List ℕ) (m : ℕ) → m ≤ length text → IsNoLonger text front Dot (record { kind = Dot; wanted = spaces }) → Matches gap (take m text) → m ≤ length front
gap_longer text front m le h k =
    let M : Pattern → Type 0 = λ q. Matches q (take m text) in
    let n = length-take-le m text le in
    ⊎_elim (λ lt. omega (arith, n)) (λ e. omega (arith, n, e.0)) (h.shorter (take m text) (drop m text) (sym (take-append-drop m text)) (subst M gap_is k))

pub gap_found : (text : List ℕ) (from at : ℕ) → IsPlace text from → PicksAt (gap_state false) text from (Some (Dot, at)) → Gap text from at
gap_found text from at place h =
    let here = chars_from text from in
    let back = chars_from text at in
    let p = h.0 in
    let taken = take_front here p.front back p.whole in
    let fits = ⊎_elim (λ x. x.1) (λ x. absurd x) p.fits in
    let M : Pattern → Type 0 = λ q. Matches q (take (length p.front) here) in
    record {
      count = length p.front;
      longest = (
        front_fits here p.front back p.whole,
        subst M (sym gap_is) (moved spaces p.front (take (length p.front) here) (sym taken) fits),
        λ m le k. gap_longer here p.front m le p.longest.0 k,
      );
      behind = drop_front here p.front back p.whole;
      bytes = bytes_between text from at p.front place h.1 p.whole ∙ ap (λ x. from + bytes_of x) (sym taken);
      place = h.1;
    }

-- An answer after a gap.
pub answered : (text : List ℕ) (from at : ℕ) (answer : Answer) → Gap text from at → IsAnswer (chars_from text at) at answer → IsNext (chars_from text from) from answer
answered text from at answer g h =
    let P : List ℕ → Type 0 = λ x. IsAnswer x at answer in
    let Q : ℕ → Type 0 = λ n. IsAnswer (drop g.count (chars_from text from)) n answer in
    (g.count, g.longest, subst Q g.bytes (subst P (sym g.behind) h))

pub token_answer : (text : List ℕ) (at : ℕ) (kind : TokenKind) (upto : ℕ) → FindsAt text at (Ok (kind, upto)) → IsAnswer (chars_from text at) at (token_next (record { kind = kind; at = at; upto = upto }))
token_answer text at kind upto h = (h.0, h.1, refl, h.2)

fault_by : (text : List ℕ) (from at : ℕ) (stop : Stop) → Gap text from at → FindsAt text at (Err stop) → IsFault text from (fault_at stop at)
fault_by text from at Unclosed g h = answered text from at (cut_at at) g (h, refl)
fault_by text from at (Bad place) g h = answered text from at (bad_at place) g h

pub fault_answer : (text : List ℕ) (from at : ℕ) (stop : Stop) (fault : LexFault) → fault ≡ fault_at stop at → Gap text from at → FindsAt text at (Err stop) → IsFault text from fault
fault_answer text from at stop fault e g h = let P : LexFault → Type 0 = λ x. IsFault text from x in subst P (sym e) (fault_by text from at stop g h)

-- the byte order mark
abbrev three_if : Bool → ℕ
three_if b = cond b 3 0

pub start_none : (text : List ℕ) → chars text ≡ [] → 0 ≡ start_of text
start_none text e = sym (ap (λ x. three_if (starts_with nat_eq x (0xFEFF ∷ []))) e)

other_first : (c : ℕ) (rest : List ℕ) → nat_eq 0xFEFF c ≡ false → three_if (starts_with nat_eq (c ∷ rest) (0xFEFF ∷ [])) ≡ 0
other_first c rest e = rw e refl

pub start_other : (text : List ℕ) (c upto : ℕ) → Reads text 0 c upto → c ≢ 0xFEFF → 0 ≡ start_of text
start_other text c upto r h = sym (ap (λ x. three_if (starts_with nat_eq x (0xFEFF ∷ []))) r.reads ∙ other_first c (chars_from text upto) (ne_eqb 0xFEFF c (λ e. h (sym e))))

mark_bytes : bytes_of (0xFEFF ∷ []) ≡ 3
unfolding encode
mark_bytes = refl

pub start_mark : (text : List ℕ) (c upto : ℕ) → IsPlace text 0 → Reads text 0 c upto → c ≡ 0xFEFF → upto ≡ start_of text
start_mark text c upto place r e =
    let s = reads_as text 0 c 0xFEFF upto e r in
    let n = bytes_between text 0 upto (0xFEFF ∷ []) place s.place s.reads in
    let there : start_of text ≡ 3 = ap (λ x. three_if (starts_with nat_eq x (0xFEFF ∷ []))) s.reads in
    omega (arith, n, mark_bytes, there)

-- a place, as the lexer keeps it
pub place_from : (text : List ℕ) (at : ℕ) → at ≤ length text → is_utf8 (drop at text) ≡ true → IsPlace text at
place_from text at le e = record { inside = le; utf8 = IsUtf8-from_is_utf8 (drop at text) e }

pub place_kept : (text : List ℕ) (at : ℕ) → IsPlace text at → (at ≤ length text) × (is_utf8 (drop at text) ≡ true)
place_kept text at place = (place.inside, is_utf8-from_IsUtf8 (drop at text) place.utf8)

pub empty_kept : (0 ≤ length {A = ℕ} []) × (is_utf8 [] ≡ true)
empty_kept = (omega arith, is_utf8-from_IsUtf8 [] IsUtf8-nil)
