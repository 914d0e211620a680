-- What begins a record that keeps the rules keeps them.
use Rattle.std.proofs.Common.{◌≡◌, Bool, true, false, ◌&&◌, cond, List, [], ◌∷◌, ◌++◌, Option, Some, None, refl, sym, ap, ◌∙◌, append_assoc}
use Rattle.std.proofs.lemmas.Bool.{and_right, cond-false}
use Rattle.std.proofs.lemmas.Option.{none-some}
use Rattle.step_law.specs.declared.entry.Entry.{Entry}
use Rattle.step_law.specs.declared.entry.Kind.TheVariants.{Last}
use Rattle.record_law.specs.declared.shape.Broken.{Broken}
use Rattle.record_law.specs.declared.shape.Broken.TheVariants as rule
use Rattle.record_law.specs.declared.shape.Shape.{Shape}
use Rattle.record_law.specs.Entries.{is_kind}
use Rattle.record_law.specs.Message.{History}
use Rattle.record_law.specs.Protocol.{history_of}
use Rattle.record_law.specs.Rules.{first_broken}
use Rattle.record_law.specs.Lawful.{is_some_entry, broken_at}
use Rattle.record_law.specs.Laws.{PrefixesKeepRules}

pub cond_none : (b : Bool) (broken : Broken) (o : Option Broken) → cond b (Some broken) o ≡ None → o ≡ None
cond_none true broken o e = absurd (none-some broken (sym e))
cond_none false broken o e = e

-- an entry that breaks no rule before later entries breaks none of the tests
pub breaks_none : (s : Shape) (h : History) (e : Entry) (later : List Entry) → broken_at s h e later ≡ None → first_broken s h e ≡ None
breaks_none s h e later = cond_none (is_kind Last e && is_some_entry later) rule.Syntax (first_broken s h e)

fewer_later : (s : Shape) (h : History) (e : Entry) (later second : List Entry) → broken_at s h e (later ++ second) ≡ None → broken_at s h e later ≡ None
fewer_later s h e [] second k =
    cond-false (is_kind Last e && false) (Some rule.Syntax) (first_broken s h e) (and_right (is_kind Last e) false refl) ∙ breaks_none s h e second k
fewer_later s h e (x ∷ later) second k = k

pub prefixes_keep : PrefixesKeepRules
prefixes_keep s first second keeps before later e split =
    let whole : first ++ second ≡ before ++ e ∷ (later ++ second) = ap (λ l. l ++ second) split ∙ append_assoc before (e ∷ later) second in
    fewer_later s (history_of s before) e later second (keeps before (later ++ second) e whole)
