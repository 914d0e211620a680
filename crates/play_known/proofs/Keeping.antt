-- Records that keep the rule on values.
use Rattle.std.proofs.Common.{◌≡◌, ◌&&◌, Bool, true, false, not, cond, List, [], ◌∷◌, ◌++◌, find, Option, Some, None, refl, sym, ap, subst, ◌∙◌}
use Rattle.std.proofs.lemmas.Option.{none-some}
use Rattle.step_law.specs.declared.entry.Entry.{Entry}
use Rattle.step_law.specs.declared.entry.Kind.TheVariants.{Last}
use Rattle.record_law.specs.declared.shape.Broken.TheVariants as rule
use Rattle.record_law.specs.Entries.{is_kind}
use Rattle.record_law.specs.Lawful as plain
use Rattle.record_law.specs.Rules as plain_rules
use Rattle.session_play.specs.Judging as judging
use Rattle.session_play.specs.Looking.{steps_of}
use Rattle.session_play.specs.Playing.{step_at, then_played, playing}
use Rattle.session_play.specs.Rules as rules
use Rattle.session_play.specs.Run.{Run}
use Rattle.session_play.specs.SessionShape.{shape_of}
use Rattle.session_play.specs.Value.{Play}
use Rattle.session_play.specs.ValueRule.{keeps_values}
use Rattle.session_play.proofs.Plays.{steps_on}
use Rattle.play_known.specs.Keeping.{KeepValues, ValuesGoOn, BothAreAll}

pub values_go_on : {F B : Type 0} → ValuesGoOn F B
values_go_on run p [] second kept later = later
values_go_on run p (e ∷ first) second kept later = (kept.0, values_go_on run (then_played run p e) first second kept.1 later)

-- an entry among entries that keep it
kept_at : {F B : Type 0} → (run : Run F B) (p : Play F B) (before later : List Entry) (e : Entry) → KeepValues run p (before ++ e ∷ later)
    → keeps_values run (playing run p before) (step_at run (playing run p before) e) ≡ true
kept_at run p [] later e kept = kept.0
kept_at run p (x ∷ before) later e kept = kept_at run (then_played run p x) before later e kept.1

-- ---- where nothing is found in a list, nothing is found in it with one more that isn't sought

found_or : {X : Type 0} → (b : Bool) (y : X) (rest other : Option X) → (rest ≡ None → other ≡ None) → cond b (Some y) rest ≡ None → cond b (Some y) other ≡ None
found_or true y rest other go e = e
found_or false y rest other go e = go e

with_one : {X : Type 0} → (f : X → Bool) (first : List X) (x : X) (second : List X) → f x ≡ false → find f (first ++ second) ≡ None
    → find f (first ++ x ∷ second) ≡ None
with_one f [] x second is none = ap (λ b. cond b (Some x) (find f second)) is ∙ none
with_one f (y ∷ first) x second is none =
    found_or (f y) y (find f (first ++ second)) (find f (first ++ x ∷ second)) (with_one f first x second is) none

-- ---- a record is lawful by both

breaks_none : {F B : Type 0} → (run : Run F B) (p : Play F B) (e : Entry) → keeps_values run p (step_at run p e) ≡ true
    → plain_rules.first_broken (shape_of run.setup) (steps_of p) e ≡ None → rules.first_broken run p e ≡ None
breaks_none run p e kept none =
    with_one (λ broken. not (rules.keeps run p e broken))
    (rule.Syntax ∷ rule.Order ∷ rule.Ring ∷ rule.Full ∷ rule.Room ∷ rule.Look ∷ rule.Holder ∷ rule.Class ∷ []) rule.Value (rule.End ∷ []) (ap not kept) none

at_none : {F B : Type 0} → (run : Run F B) (p : Play F B) (e : Entry) (later : List Entry) → keeps_values run p (step_at run p e) ≡ true
    → plain.broken_at (shape_of run.setup) (steps_of p) e later ≡ None → judging.broken_at (rules.judging run) p e later ≡ None
at_none run p e later kept = by (is_kind Last e && plain.is_some_entry later)
  where
    by : (b : Bool) → cond b (Some rule.Syntax) (plain_rules.first_broken (shape_of run.setup) (steps_of p) e) ≡ None
        → cond b (Some rule.Syntax) (rules.first_broken run p e) ≡ None
    by true none = absurd (none-some rule.Syntax (sym none))
    by false none = breaks_none run p e kept none

known_played : {F B : Type 0} → (run : Run F B) (p : Play F B) (steps : List Entry) → judging.known_after (rules.judging run) p steps ≡ playing run p steps
known_played run p [] = refl
known_played run p (e ∷ later) = known_played run (then_played run p e) later

pub both_are_all : {F B : Type 0} → BothAreAll F B
both_are_all run steps lawful kept = record {
  keeps_rules = λ before later e split.
      let here : keeps_values run (playing run [] before) (step_at run (playing run [] before) e) ≡ true =
      kept_at run [] before later e (subst (λ it. KeepValues run [] it) split kept) in
      let besides : plain.broken_at (shape_of run.setup) (steps_of (playing run [] before)) e later ≡ None =
      subst (λ h. plain.broken_at (shape_of run.setup) h e later ≡ None) (sym (steps_on run [] before)) (lawful.keeps_rules before later e split) in
      subst (λ p. judging.broken_at (rules.judging run) p e later ≡ None) (sym (known_played run [] before)) (at_none run (playing run [] before) e later here besides);
  ended = lawful.ended;
}
