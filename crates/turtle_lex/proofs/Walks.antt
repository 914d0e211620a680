-- What is kept over each character of a class is kept over a run of bytes of the class.
use Rattle.std.proofs.Common.{◌≡◌, ⊎_elim, ℕ, zero, suc, ◌+◌, ◌-◌, ◌<◌, ◌≤◌, true, false, ◌==◌, List, [], ◌∷◌, ◌++◌, length, get_or, drop, refl, sym, ap, ◌∙◌, subst, arith, add-zero, lit<}
use Rattle.std.specs.Char.{len_utf8}
use Rattle.std.proofs.lemmas.Bool.{cases_lt, lt-ltb, le-ltb, lt-leb, ne_eqb}
use Rattle.std.proofs.lemmas.List.{length-drop, get_or-drop}
use Rattle.std.proofs.lemmas.Str.{length-encode, len_utf8_ascii, byte_from_char, char_from_byte, inside_one}
use lib.Utf8.{encode, encodes}
use Rattle.turtle_grammar.specs.Characters.{is_line_end, is_excluded}
use Rattle.turtle_lex.specs.declared.class.Class.{Class}
use Rattle.turtle_lex.specs.declared.class.Class.TheVariants.{White, Comment, Name, LocalName, Plain, Alphanumeric}
use Rattle.turtle_lex.specs.declared.enclosure.Enclosure.{Enclosure}
use Rattle.turtle_lex.specs.declared.enclosure.Enclosure.TheVariants.{Angle, Double, Single, LongDouble, LongSingle}
use Rattle.turtle_lex.specs.Classes.{class_of, is_wide, class_byte, IsByteRun}
use Rattle.turtle_lex.specs.Enclosure.{plain}
use Rattle.turtle_lex.specs.Places.{IsPlace, Reads}
use Rattle.turtle_lex.proofs.Cursor.{char_step}

pub small_byte : (class : Class) (b : ℕ) → b < 128 → class_byte class b ≡ class_of class b
small_byte class b lt = rw (lt-ltb b 128 lt) refl

big_byte : (class : Class) (b : ℕ) → 128 ≤ b → class_byte class b ≡ is_wide class
big_byte class b le = rw (le-ltb b 128 le) refl

other : (c k : ℕ) → 128 ≤ c → k < 128 → (c == k) ≡ false
other c k le lt = ne_eqb c k (λ e. omega arith)

-- a character above 127 stands for itself inside
plain_wide : (e : Enclosure) (c : ℕ) → 128 ≤ c → plain e c ≡ true
unfolding is_excluded
plain_wide Angle c le = rw (lt-leb c 32 (omega arith), other c 60 le (lit< tt), other c 62 le (lit< tt), other c 34 le (lit< tt), other c 123 le (lit< tt), other c 125 le (lit< tt), other c 124 le (lit< tt), other c 94 le (lit< tt), other c 96 le (lit< tt), other c 92 le (lit< tt)) refl
plain_wide Double c le = rw (other c 34 le (lit< tt), other c 92 le (lit< tt), other c 10 le (lit< tt), other c 13 le (lit< tt)) refl
plain_wide Single c le = rw (other c 39 le (lit< tt), other c 92 le (lit< tt), other c 10 le (lit< tt), other c 13 le (lit< tt)) refl
plain_wide LongDouble c le = rw (other c 34 le (lit< tt), other c 92 le (lit< tt)) refl
plain_wide LongSingle c le = rw (other c 39 le (lit< tt), other c 92 le (lit< tt)) refl

comment_wide : (c : ℕ) → 128 ≤ c → class_of Comment c ≡ true
unfolding is_line_end
comment_wide c le = rw (other c 10 le (lit< tt), other c 13 le (lit< tt)) refl

wide : (class : Class) (c : ℕ) → is_wide class ≡ true → 128 ≤ c → class_of class c ≡ true
wide White c w le = cc
wide Comment c w le = comment_wide c le
wide Name c w le = cc
wide LocalName c w le = cc
wide (Plain e) c w le = plain_wide e c le
wide (Alphanumeric run) c w le = cc

-- a character of the class, and the place after it, which is no further than the run's end
record IsStep (class : Class) (text : List ℕ) (at upto : ℕ) : Type 0 where
  c : ℕ
  next : ℕ
  reads : Reads text at c next
  has : class_of class c ≡ true
  within : next ≤ upto

pub first_byte : (text : List ℕ) (at : ℕ) → get_or (drop at text) 0 0 ≡ get_or text at 0
first_byte text at = get_or-drop at text 0 0 ∙ ap (λ n. get_or text n 0) (add-zero at)

step_small : (class : Class) (text : List ℕ) (from at upto c : ℕ) (rest : List ℕ) → IsPlace text at → drop at text ≡ encode c ++ rest → from ≤ at → at < upto → IsByteRun (class_byte class) text from upto → c < 128 → IsStep class text at upto
step_small class text from at upto c rest p e le lt run small =
    let same : get_or text at 0 ≡ c = sym (first_byte text at) ∙ byte_from_char (drop at text) rest c e small in
    record {
      c = c;
      next = at + len_utf8 c;
      reads = char_step text at c rest p e;
      has = sym (small_byte class c small) ∙ (sym (ap (class_byte class) same) ∙ run.each at le lt);
      within = omega (arith, len_utf8_ascii c small);
    }

byte_big : (text : List ℕ) (at c : ℕ) (rest : List ℕ) → drop at text ≡ encode c ++ rest → at < length text → 128 ≤ c → 128 ≤ get_or text at 0
byte_big text at c rest e lt le =
    ⊎_elim
    (λ small.
    let there : c ≡ get_or (drop at text) 0 0 = char_from_byte (drop at text) rest c e (omega (arith, first_byte text at)) (omega (arith, length-drop at text)) in
    omega (arith, there, first_byte text at))
    (λ big. big)
    (cases_lt (get_or text at 0) 128)

-- no run of wide bytes ends inside a character
ends_outside : (class : Class) (text : List ℕ) (from at upto c : ℕ) (rest : List ℕ) → drop at text ≡ encode c ++ rest → at ≤ upto → upto < length text → IsByteRun (class_byte class) text from upto → is_wide class ≡ true → 128 ≤ c → upto < at + len_utf8 c → ⊥
ends_outside class text from at upto c rest e le within run w big lt =
    let here : get_or (drop at text) (upto - at) 0 ≡ get_or text upto 0 = get_or-drop at text (upto - at) 0 ∙ ap (λ n. get_or text n 0) (omega arith) in
    ⊎_elim
    (λ small. let there = inside_one c rest (drop at text) (upto - at) e (omega (arith, length-encode c)) (omega (arith, here)) in omega (arith, there, here))
    (λ wide_byte. let there = sym (run.stops within) ∙ (big_byte class (get_or text upto 0) wide_byte ∙ w) in cc)
    (cases_lt (get_or text upto 0) 128)

step_big : (class : Class) (text : List ℕ) (from at upto c : ℕ) (rest : List ℕ) → IsPlace text at → drop at text ≡ encode c ++ rest → from ≤ at → at < upto → IsByteRun (class_byte class) text from upto → 128 ≤ c → IsStep class text at upto
step_big class text from at upto c rest p e le lt run big =
    let r = char_step text at c rest p e in
    let inside : at < length text = omega (arith, run.inside) in
    let w : is_wide class ≡ true = sym (big_byte class (get_or text at 0) (byte_big text at c rest e inside big)) ∙ run.each at le lt in
    let over : at + len_utf8 c ≤ upto = ⊎_elim
    (λ early. absurd (ends_outside class text from at upto c rest e (omega arith) (omega (arith, r.place.inside)) run w big early))
    (λ late. late)
    (cases_lt upto (at + len_utf8 c)) in
    record { c = c; next = at + len_utf8 c; reads = r; has = wide class c w big; within = over }

step_by : (class : Class) (text : List ℕ) (from at upto : ℕ) (cs : List ℕ) → encodes cs ≡ drop at text → IsPlace text at → from ≤ at → at < upto → IsByteRun (class_byte class) text from upto → IsStep class text at upto
step_by class text from at upto [] e p le lt run =
    let none : length (drop at text) ≡ 0 = ap length (sym e) in absurd (omega (arith, none, length-drop at text, run.inside))
step_by class text from at upto (c ∷ cs) e p le lt run =
    ⊎_elim
    (λ small. step_small class text from at upto c (encodes cs) p (sym e) le lt run small)
    (λ big. step_big class text from at upto c (encodes cs) p (sym e) le lt run big)
    (cases_lt c 128)

step : (class : Class) (text : List ℕ) (from at upto : ℕ) → IsPlace text at → from ≤ at → at < upto → IsByteRun (class_byte class) text from upto → IsStep class text at upto
step class text from at upto p le lt run = step_by class text from at upto p.utf8.0 p.utf8.1.1 p le lt run

-- what each character of a class keeps
abbrev pub Keeps : Class → List ℕ → (ℕ → Type 0) → Type 0
Keeps class text R = (at c next : ℕ) → IsPlace text at → Reads text at c next → class_of class c ≡ true → R at → R next

walk_by : (n : ℕ) (class : Class) (text : List ℕ) (R : ℕ → Type 0) (from at upto : ℕ) → upto ≤ at + n → IsPlace text at → from ≤ at → at ≤ upto → IsByteRun (class_byte class) text from upto → Keeps class text R → R at → R upto
walk_by zero class text R from at upto enough p le lt run keeps h = let P : ℕ → Type 0 = R in subst P (omega arith) h
walk_by (suc n) class text R from at upto enough p le lt run keeps h =
    ⊎_elim
    (λ more.
    let s = step class text from at upto p le more run in
    walk_by n class text R from s.next upto (omega (arith, s.reads.further)) s.reads.place (omega (arith, s.reads.further)) s.within run keeps (keeps at s.c s.next p s.reads s.has h))
    (λ done. let P : ℕ → Type 0 = R in subst P (omega arith) h)
    (cases_lt at upto)

pub walk : (class : Class) (text : List ℕ) (R : ℕ → Type 0) (from upto : ℕ) → IsPlace text from → IsByteRun (class_byte class) text from upto → Keeps class text R → R from → R upto
walk class text R from upto p run keeps h = walk_by (upto - from) class text R from from upto (omega (arith, run.further)) p (omega arith) run.further run keeps h

-- A run ends at a place.
pub place_behind : (class : Class) (text : List ℕ) (from upto : ℕ) → IsPlace text from → IsByteRun (class_byte class) text from upto → IsPlace text upto
place_behind class text from upto p run = let P : ℕ → Type 0 = IsPlace text in walk class text P from upto p run (λ at c next q r has h. r.place) p
