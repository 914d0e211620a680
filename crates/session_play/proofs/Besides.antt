-- A record that is lawful with its values is lawful but for them.
use Rattle.std.proofs.Common.{◌≡◌, Bool, true, false, not, ◌&&◌, cond, List, [], ◌∷◌, ◌++◌, find, Option, Some, None, refl, sym, subst}
use Rattle.std.proofs.lemmas.Option.{none-some}
use Rattle.step_law.specs.declared.entry.Entry.{Entry}
use Rattle.step_law.specs.declared.entry.Kind.TheVariants.{Last}
use Rattle.record_law.specs.declared.shape.Broken.TheVariants.{Syntax, Order, Ring, Full, Room, Look, Holder, Class, Value, End}
use Rattle.record_law.specs.Entries.{is_kind}
use Rattle.record_law.specs.Lawful as plain
use Rattle.record_law.specs.Rules as plain_rules
use Rattle.record_law.specs.Protocol.{after}
use Rattle.session_play.specs.Judging as judging
use Rattle.session_play.specs.Laws.{IsLawfulBesides}
use Rattle.session_play.specs.Looking.{steps_of}
use Rattle.session_play.specs.Playing.{then_played}
use Rattle.session_play.specs.Rules as rules
use Rattle.session_play.specs.Run.{Run}
use Rattle.session_play.specs.SessionShape.{shape_of}
use Rattle.session_play.specs.Value.{Play}

not_found : {X : Type 0} → (b : Bool) (x : X) (rest : Option X) → cond b (Some x) rest ≡ None → rest ≡ None
not_found true x rest e = absurd (none-some x (sym e))
not_found false x rest e = e

found_or : {X : Type 0} → (b : Bool) (y : X) (rest other : Option X) → (rest ≡ None → other ≡ None) → cond b (Some y) rest ≡ None → cond b (Some y) other ≡ None
found_or true y rest other go e = e
found_or false y rest other go e = go e

-- where nothing is found in a list, nothing is found in it with one left out
skip : {X : Type 0} → (f : X → Bool) (first : List X) (x : X) (second : List X) → find f (first ++ x ∷ second) ≡ None → find f (first ++ second) ≡ None
skip f [] x second none = not_found (f x) x (find f second) none
skip f (y ∷ first) x second none = found_or (f y) y (find f (first ++ x ∷ second)) (find f (first ++ second)) (skip f first x second) none

breaks_none : {F B : Type 0} → (run : Run F B) (p : Play F B) (e : Entry) → rules.first_broken run p e ≡ None
    → plain_rules.first_broken (shape_of run.setup) (steps_of p) e ≡ None
breaks_none run p e none =
    skip (λ broken. not (rules.keeps run p e broken)) (Syntax ∷ Order ∷ Ring ∷ Full ∷ Room ∷ Look ∷ Holder ∷ Class ∷ []) Value (End ∷ []) none

at_none : {F B : Type 0} → (run : Run F B) (p : Play F B) (e : Entry) (later : List Entry) → judging.broken_at (rules.judging run) p e later ≡ None
    → plain.broken_at (shape_of run.setup) (steps_of p) e later ≡ None
at_none run p e later = by (is_kind Last e && plain.is_some_entry later)
  where
    by : (b : Bool) → cond b (Some Syntax) (rules.first_broken run p e) ≡ None → cond b (Some Syntax) (plain_rules.first_broken (shape_of run.setup) (steps_of p) e) ≡ None
    by true e' = e'
    by false e' = breaks_none run p e e'

known : {F B : Type 0} → (run : Run F B) (p : Play F B) (steps : List Entry)
    → steps_of (judging.known_after (rules.judging run) p steps) ≡ after (shape_of run.setup) (steps_of p) steps
known run p [] = refl
known run p (e ∷ later) = known run (then_played run p e) later

pub is_lawful_besides : {F B : Type 0} → IsLawfulBesides F B
is_lawful_besides run steps lawful = record {
  keeps_rules = λ before later e split.
      subst (λ h. plain.broken_at (shape_of run.setup) h e later ≡ None) (known run [] before)
      (at_none run (judging.known_after (rules.judging run) [] before) e later (lawful.keeps_rules before later e split));
  ended = lawful.ended;
}
