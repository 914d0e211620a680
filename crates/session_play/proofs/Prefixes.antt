-- What begins a record that keeps the rules keeps them.
use Rattle.std.proofs.Common.{◌≡◌, Bool, true, false, ◌&&◌, cond, List, [], ◌∷◌, ◌++◌, Option, Some, None, refl, sym, ap, ◌∙◌, append_assoc}
use Rattle.std.proofs.lemmas.Bool.{and_right, cond-false}
use Rattle.std.proofs.lemmas.Option.{none-some}
use Rattle.step_law.specs.declared.entry.Entry.{Entry}
use Rattle.step_law.specs.declared.entry.Kind.TheVariants.{Last}
use Rattle.record_law.specs.declared.shape.Broken.{Broken}
use Rattle.record_law.specs.declared.shape.Broken.TheVariants as rule
use Rattle.record_law.specs.Entries.{is_kind}
use Rattle.record_law.specs.Lawful.{is_some_entry}
use Rattle.session_play.specs.Judging.{Judging, known_after, broken_at}
use Rattle.session_play.specs.Laws.{BeginningsKeepRules}

cond_none : (b : Bool) (broken : Broken) (o : Option Broken) → cond b (Some broken) o ≡ None → o ≡ None
cond_none true broken o e = absurd (none-some broken (sym e))
cond_none false broken o e = e

-- an entry that breaks no rule before later entries breaks none of the tests
breaks_none : {S : Type 0} → (j : Judging S) (s : S) (e : Entry) (later : List Entry) → broken_at j s e later ≡ None → j.first_broken s e ≡ None
breaks_none j s e later = cond_none (is_kind Last e && is_some_entry later) rule.Syntax (j.first_broken s e)

fewer_later : {S : Type 0} → (j : Judging S) (s : S) (e : Entry) (later second : List Entry) → broken_at j s e (later ++ second) ≡ None → broken_at j s e later ≡ None
fewer_later j s e [] second k =
    cond-false (is_kind Last e && false) (Some rule.Syntax) (j.first_broken s e) (and_right (is_kind Last e) false refl) ∙ breaks_none j s e second k
fewer_later j s e (x ∷ later) second k = k

pub beginnings_keep : {S : Type 0} → BeginningsKeepRules S
beginnings_keep j first second keeps before later e split =
    let whole : first ++ second ≡ before ++ e ∷ (later ++ second) = ap (λ l. l ++ second) split ∙ append_assoc before (e ∷ later) second in
    fewer_later j (known_after j j.start before) e later second (keeps before (later ++ second) e whole)
