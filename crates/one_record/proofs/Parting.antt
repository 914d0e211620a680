-- Two records of one thread are the same, or part at a turn.
use Rattle.std.proofs.Common.{◌≡◌, ◌⊎◌, Bool, true, false, ◌==◌, ◌&&◌, if◌then◌else◌, List, [], ◌∷◌, ◌++◌, Option, Some, None, refl, sym, ap, ◌∙◌, inl, inr, true≢false, eqb-true}
use Rattle.std.proofs.lemmas.Bool.{and_parts}
use Rattle.std.proofs.lemmas.Option.{none-some}
use Rattle.step_law.specs.declared.entry.Entry.{Entry}
use Rattle.step_law.specs.declared.entry.Kind.TheVariants.{Last}
use Rattle.record_law.specs.declared.shape.Broken.{Broken}
use Rattle.record_law.specs.declared.shape.Broken.TheVariants as rule
use Rattle.record_law.specs.Entries.{is_kind, same_entry}
use Rattle.record_law.specs.Lawful.{ends_by}
use Rattle.record_law.proofs.Same.{same_means, same_itself}
use Rattle.session_play.specs.Judging.{known_after}
use Rattle.session_play.specs.Looking.{steps_of}
use Rattle.session_play.specs.Playing.{play_of}
use Rattle.session_play.specs.Rules.{judging, first_broken, IsLawfulRecord}
use Rattle.session_play.specs.Run.{Run}
use Rattle.session_play.specs.SessionShape.{shape_of}
use Rattle.session_play.specs.Value.{Play}
use Rattle.one_thread.specs.Turns.{sees_all, turn}
use Rattle.one_thread.specs.OneThread.{IsOneThread, comes_next, takes_first, sends_first}
use Rattle.one_record.specs.Laws.{PartAtATurn, ArePartedByTurn}

-- ---- two lists compared

record Parting (steps also : List Entry) : Type 0 where
  before : List Entry
  here : Entry
  there : Entry
  later : List Entry
  other : List Entry
  first : steps ≡ before ++ here ∷ later
  second : also ≡ before ++ there ∷ other
  differ : here ≡ there → ⊥

-- the second goes on where the first ends
record GoesOn (steps also : List Entry) : Type 0 where
  more : Entry
  rest : List Entry
  longer : also ≡ steps ++ more ∷ rest

data Compared (steps also : List Entry) : Type 0 where
  same : steps ≡ also → Compared steps also
  goes_on : GoesOn steps also → Compared steps also
  ends : GoesOn also steps → Compared steps also
  part : Parting steps also → Compared steps also

part_later : (x y : Entry) (xs ys : List Entry) → x ≡ y → Parting xs ys → Parting (x ∷ xs) (y ∷ ys)
part_later x y xs ys alike p = record {
  before = x ∷ p.before;
  here = p.here;
  there = p.there;
  later = p.later;
  other = p.other;
  first = ap (λ l. x ∷ l) p.first;
  second = ap (λ it. it ∷ ys) (sym alike) ∙ ap (λ l. x ∷ l) p.second;
  differ = p.differ;
}

goes_on_later : (x y : Entry) (xs ys : List Entry) → x ≡ y → GoesOn xs ys → GoesOn (x ∷ xs) (y ∷ ys)
goes_on_later x y xs ys alike g = record { more = g.more; rest = g.rest; longer = ap (λ it. it ∷ ys) (sym alike) ∙ ap (λ l. x ∷ l) g.longer }

compare_later : (x y : Entry) (xs ys : List Entry) → x ≡ y → Compared xs ys → Compared (x ∷ xs) (y ∷ ys)
compare_later x y xs ys alike (same e) = same (ap (λ it. it ∷ xs) alike ∙ ap (λ l. y ∷ l) e)
compare_later x y xs ys alike (goes_on g) = goes_on (goes_on_later x y xs ys alike g)
compare_later x y xs ys alike (ends g) = ends (goes_on_later y x ys xs (sym alike) g)
compare_later x y xs ys alike (part p) = part (part_later x y xs ys alike p)

-- entries are told apart by the test
unlike : (x y : Entry) → same_entry x y ≡ false → x ≡ y → ⊥
unlike x y differ alike = true≢false (sym (same_itself x) ∙ ap (same_entry x) alike ∙ differ)

compare_heads : (x y : Entry) (xs ys : List Entry) (c : Bool) → same_entry x y ≡ c → Compared xs ys → Compared (x ∷ xs) (y ∷ ys)
compare_heads x y xs ys true e rest = compare_later x y xs ys (sym (same_means x y e)) rest
compare_heads x y xs ys false e rest =
    part (record { before = []; here = x; there = y; later = xs; other = ys; first = refl; second = refl; differ = unlike x y e })

compare : (steps also : List Entry) → Compared steps also
compare [] [] = same refl
compare [] (y ∷ ys) = goes_on (record { more = y; rest = ys; longer = refl })
compare (x ∷ xs) [] = ends (record { more = x; rest = xs; longer = refl })
compare (x ∷ xs) (y ∷ ys) = compare_heads x y xs ys (same_entry x y) refl (compare xs ys)

-- ---- nothing comes after the end

record EndsWith (x : Entry) (xs : List Entry) : Type 0 where
  init : List Entry
  end : Entry
  split : (tail : List Entry) → (x ∷ xs) ++ tail ≡ init ++ end ∷ tail
  is_last : is_kind Last end ≡ true

ends_with : (x : Entry) (xs : List Entry) → ends_by (is_kind Last x) xs ≡ true → EndsWith x xs
ends_with x [] e = record { init = []; end = x; split = λ tail. refl; is_last = e }
ends_with x (y ∷ ys) e =
    let r = ends_with y ys e in
    record { init = x ∷ r.init; end = r.end; split = λ tail. ap (λ l. x ∷ l) (r.split tail); is_last = r.is_last }

is_syntax : (c : Bool) (o : Option Broken) → c ≡ true → (if c && true then Some rule.Syntax else o) ≡ None → ⊥
is_syntax true o e none = none-some rule.Syntax (sym none)
is_syntax false o e none = true≢false (sym e)

not_longer : {F B : Type 0} → (run : Run F B) (steps also : List Entry) → IsLawfulRecord run steps → IsLawfulRecord run also → GoesOn steps also → ⊥
not_longer run [] also lawful other g = true≢false (sym lawful.ended)
not_longer run (x ∷ xs) also lawful other g =
    let r = ends_with x xs lawful.ended in
    is_syntax (is_kind Last r.end) (first_broken run (known_after (judging run) [] r.init) r.end) r.is_last
    (other.keeps_rules r.init (g.more ∷ g.rest) r.end (g.longer ∙ r.split (g.more ∷ g.rest)))

-- ---- where they part

pub comes_in_turn : {F B : Type 0} → (run : Run F B) (p : Play F B) (e : Entry) → comes_next run p e ≡ true → e.actor ≡ turn run p
comes_in_turn run p e come =
    let s = sees_all (shape_of run.setup) (steps_of p) e.kind e.a e.b in
    let sends = and_parts (s && (e.actor == turn run p) && takes_first run p e) (sends_first run p e) come in
    let takes = and_parts (s && (e.actor == turn run p)) (takes_first run p e) sends.0 in
    eqb-true e.actor (turn run p) (and_parts s (e.actor == turn run p) takes.0).1

at_turn : {F B : Type 0} → (run : Run F B) (steps also : List Entry) → IsOneThread run steps → IsOneThread run also → Parting steps also
    → PartAtATurn run steps also
at_turn run steps also one two p = record {
  before = p.before;
  here = p.here;
  there = p.there;
  later = p.later;
  other = p.other;
  first = p.first;
  second = p.second;
  differ = p.differ;
  first_turn = comes_in_turn run (play_of run p.before) p.here (one.turns p.before p.later p.here p.first);
  second_turn = comes_in_turn run (play_of run p.before) p.there (two.turns p.before p.other p.there p.second);
}

pub are_parted_by_turn : {F B : Type 0} → ArePartedByTurn F B
are_parted_by_turn run steps also one two = by (compare steps also)
  where
    by : Compared steps also → (steps ≡ also) ⊎ PartAtATurn run steps also
    by (same e) = inl e
    by (goes_on g) = absurd (not_longer run steps also one.lawful two.lawful g)
    by (ends g) = absurd (not_longer run also steps two.lawful one.lawful g)
    by (part p) = inr (at_turn run steps also one two p)
