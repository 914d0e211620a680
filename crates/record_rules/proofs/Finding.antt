-- The first broken rule, rule by rule.
use Rattle.std.proofs.Common.{◌≡◌, Bool, true, false, not, List, ◌∷◌, Option, Some, None, find, unwrap_or, refl, sym, ap, ◌∙◌}
use Rattle.std.specs.Option.{option_map}
use Rattle.record_law.specs.Message.Message.{nothing}
use Rattle.record_law.specs.Protocol.{Follows, about_in}
use Rattle.std.proofs.lemmas.Bool.{cond-true, cond-false}
use Rattle.step_law.specs.declared.entry.Entry.{Entry}
use Rattle.record_law.specs.declared.shape.Broken.{Broken}
use Rattle.record_law.specs.declared.shape.Shape.{Shape}
use Rattle.record_law.specs.Message.{History}
use Rattle.record_law.specs.Rules.{keeps}

-- what an entry is about, where it follows
pub about_is : (it : Option Follows) → unwrap_or (option_map (λ (f : Follows). f.about) it) nothing ≡ about_in it
about_is None = refl
about_is (Some it) = refl

module _ (s : Shape) (h : History) (e : Entry) where
  abbrev pub breaks : Broken → Bool
  breaks broken = not (keeps s h e broken)

  -- a rule that a test finds broken
  pub here : (broken : Broken) (later : List Broken) (test : Bool) → test ≡ keeps s h e broken → test ≡ false → Some broken ≡ find breaks (broken ∷ later)
  here broken later test is fails = sym (cond-true (breaks broken) (Some broken) (find breaks later) (ap not (sym is ∙ fails)))

  -- a rule that a test finds kept
  pub past : (broken : Broken) (later : List Broken) (test : Bool) (found : Option Broken) → test ≡ keeps s h e broken → test ≡ true → found ≡ find breaks later → found ≡ find breaks (broken ∷ later)
  past broken later test found is holds rest = rest ∙ sym (cond-false (breaks broken) (Some broken) (find breaks later) (ap not (sym is ∙ holds)))
