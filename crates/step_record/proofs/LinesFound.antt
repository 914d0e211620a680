-- The line that a text begins with.
use Rattle.std.proofs.Common.{◌≡◌, ℕ, ◌+◌, ◌-◌, ◌<◌, ◌≤◌, Bool, true, false, cond, List, [], ◌∷◌, ◌++◌, length, take, drop, Option, Some, None, refl, sym, ap, subst, ◌∙◌, arith, true≢false, length-append, length-take, length-drop, take-append-drop, eqb-true, IfSome}
use Rattle.std.specs.Prelude.{nat_eq}
use Rattle.std.specs.Cmp.Lexicographic.{pointwise}
use Rattle.std.specs.List.{starts_with}
use Rattle.std.proofs.lemmas.Bool.{cond-true, eqb-false}
use Rattle.std.proofs.lemmas.Option.{same_Some, none-some, cond_some}
use Rattle.std.proofs.lemmas.Slice.Eq.{bytes_eq-Decides}
use Rattle.step_law.specs.declared.entry.Entry.{Entry}
use Rattle.step_law.specs.declared.entry.Kind.{Kind}
use Rattle.step_law.specs.declared.entry.Kind.TheVariants.{Block, Look, Take, Send, Full, Long, Done, Stop, Begin, End, Beat, Join, Late, Last}
use Rattle.step_law.specs.Actor.{actor_at, actor_name}
use Rattle.step_law.specs.Form.{IsForm}
use Rattle.step_record.specs.Reading.{is_last, HasNoLine, ReadsLine, line_for, line_at, stands, next_for, next_at}
use Rattle.step_record.specs.RecordText.{line_of, line_by, event_text}
use Rattle.step_record.specs.Words.{entry_in}
use Rattle.step_record.proofs.LineLaws.{line_back}

-- a line has bytes
ended_long : (name words : List ℕ) → 0 < length (name ++ (words ++ 10 ∷ []))
ended_long name words = omega (arith, length-append name (words ++ 10 ∷ []), length-append words (10 ∷ []))

line_by_long : (k : Kind) (e : Entry) → 0 < length (line_by k e)
line_by_long Block e = ended_long (actor_name (actor_at e.actor)) (event_text e.kind e.a e.b)
line_by_long Look e = ended_long (actor_name (actor_at e.actor)) (event_text e.kind e.a e.b)
line_by_long Take e = ended_long (actor_name (actor_at e.actor)) (event_text e.kind e.a e.b)
line_by_long Send e = ended_long (actor_name (actor_at e.actor)) (event_text e.kind e.a e.b)
line_by_long Full e = ended_long (actor_name (actor_at e.actor)) (event_text e.kind e.a e.b)
line_by_long Long e = ended_long (actor_name (actor_at e.actor)) (event_text e.kind e.a e.b)
line_by_long Done e = ended_long (actor_name (actor_at e.actor)) (event_text e.kind e.a e.b)
line_by_long Stop e = ended_long (actor_name (actor_at e.actor)) (event_text e.kind e.a e.b)
line_by_long Begin e = ended_long (actor_name (actor_at e.actor)) (event_text e.kind e.a e.b)
line_by_long End e = ended_long (actor_name (actor_at e.actor)) (event_text e.kind e.a e.b)
line_by_long Beat e = ended_long (actor_name (actor_at e.actor)) (event_text e.kind e.a e.b)
line_by_long Join e = ended_long (actor_name (actor_at e.actor)) (event_text e.kind e.a e.b)
line_by_long Late e = ended_long (actor_name (actor_at e.actor)) (event_text e.kind e.a e.b)
line_by_long Last e = omega arith

pub line_long : (e : Entry) → 0 < length (line_of e)
line_long e = line_by_long e.kind e

-- what a text begins with
take_front : (a b : List ℕ) → take (length a) (a ++ b) ≡ a
take_front [] b = refl
take_front (x ∷ a) b = ap (λ xs. x ∷ xs) (take_front a b)

begins : (text front after : List ℕ) → text ≡ front ++ after → starts_with nat_eq text front ≡ true
begins text front after e = (bytes_eq-Decides front (take (length front) text)).1 (sym (ap (take (length front)) e ∙ take_front front after))

pub prefix_text : (text front rest : List ℕ) → pointwise nat_eq (take (length front) text) front ≡ true → rest ≡ drop (length front) text → text ≡ front ++ rest
prefix_text text front rest h e =
    sym (take-append-drop (length front) text)
    ∙ ap (λ (x : List ℕ). x ++ drop (length front) text) ((bytes_eq-Decides (take (length front) text) front).0 h)
    ∙ ap (λ (x : List ℕ). front ++ x) (sym e)

pub no_prefix : (text front rest : List ℕ) → pointwise nat_eq (take (length front) text) front ≡ false → text ≡ front ++ rest → ⊥
no_prefix text front rest h e = true≢false (sym ((bytes_eq-Decides (take (length front) text) front).1 (ap (take (length front)) e ∙ take_front front rest)) ∙ h)

-- the line that was found
record IsFound (text : List ℕ) (line : Entry × ℕ) : Type 0 where
  count : line.1 ≡ length (line_of line.0)
  front : line_of line.0 ≡ take (length (line_of line.0)) text

line_found : (text : List ℕ) (o : Option Entry) (line : Entry × ℕ) → line_for text o ≡ Some line → IsFound text line
line_found text None line e = absurd (none-some line e)
line_found text (Some x) line e =
    let both = cond_some (starts_with nat_eq text (line_of x)) (x, length (line_of x)) line e in
    subst (IsFound text) both.1 (record { count = refl; front = (bytes_eq-Decides (line_of x) (take (length (line_of x)) text)).0 both.0 })

stands_last : (k : Kind) (after : ℕ) → stands k after ≡ true → 0 < after → is_last k ≡ false
stands_last Last after h some = let none : after ≡ 0 = eqb-true after 0 h in absurd (omega arith)
stands_last _ after h some = refl

stands_not : (k : Kind) (after : ℕ) → stands k after ≡ false → (is_last k ≡ true) × (0 < after)
stands_not Last after h = let some : after ≡ 0 → ⊥ = eqb-false after 0 h in (refl, omega arith)
stands_not _ after h = absurd (true≢false h)

next_found : (text : List ℕ) (o : Option (Entry × ℕ)) (line : Entry × ℕ) → next_for text o ≡ Some line → (o ≡ Some line) × (stands line.0.kind (length text - line.1) ≡ true)
next_found text None line e = absurd (none-some line e)
next_found text (Some x) line e =
    let both = cond_some (stands x.0.kind (length text - x.1)) x line e in
    (ap (λ (y : Entry × ℕ). Some y) both.1, subst (λ (y : Entry × ℕ). stands y.0.kind (length text - y.1) ≡ true) both.1 both.0)

pub found_form : (o : Option (Entry × ℕ)) (line : Entry × ℕ) → o ≡ Some line → IfSome o (λ found. IsForm found.0) → IsForm line.0
found_form None line e h = absurd (none-some line e)
found_form (Some x) line e h = subst (λ (found : Entry × ℕ). IsForm found.0) (same_Some x line e) h

-- its entry was read
pub reads_line : (old : List Entry) (text : List ℕ) (new : List Entry) (line : Entry × ℕ) → next_at text ≡ Some line → IsForm line.0 → new ≡ old ++ line.0 ∷ [] → ReadsLine old text line.1 new
reads_line old text new line e form put =
    let found = next_found text (line_at text) line e in
    let is : IsFound text line = line_found text (entry_in text) line found.0 in
    let n : ℕ = length (line_of line.0) in
    let size : n ≡ length (take n text) = ap length is.front in
    let within : line.1 ≤ length text = omega (arith, is.count, size, length-take n text) in
    let some : 0 < line.1 = omega (arith, is.count, line_long line.0) in
    let rest : length (drop line.1 text) ≡ length text - line.1 = length-drop line.1 text in
    record {
      entry = line.0;
      form = form;
      same = sym (take-append-drop line.1 text) ∙ ap (λ (x : List ℕ). x ++ drop line.1 text) (ap (λ (k : ℕ). take k text) is.count ∙ sym is.front);
      some = some;
      within = within;
      put = put;
      last = λ h. stands_last line.0.kind (length text - line.1) found.1 (omega arith);
    }

-- a line that has a form is found
line_each : (text : List ℕ) (e : Entry) (after : List ℕ) → IsForm e → text ≡ line_of e ++ after → line_at text ≡ Some (e, length (line_of e))
line_each text e after form same =
    ap (line_for text) (ap entry_in same ∙ line_back e after form)
    ∙ cond-true (starts_with nat_eq text (line_of e)) (Some (e, length (line_of e))) None (begins text (line_of e) after same)

cond_none : {A : Type 0} (b : Bool) (x : A) → cond b (Some x) None ≡ None → b ≡ false
cond_none true x e = absurd (none-some x (sym e))
cond_none false x e = refl

-- where none is found, none is there
pub none_line : (text : List ℕ) → next_at text ≡ None → HasNoLine text
none_line text none = λ e after form same.
    let n : ℕ = length (line_of e) in
    let not_there : stands e.kind (length text - n) ≡ false = cond_none (stands e.kind (length text - n)) (e, n) (ap (next_for text) (sym (line_each text e after form same)) ∙ none) in
    let both = stands_not e.kind (length text - n) not_there in
    let size : length text ≡ n + length after = ap length same ∙ length-append (line_of e) after in
    (both.0, omega (arith, both.1))
