-- From the first place where a rule is broken to the rule's answer.
use Rattle.std.proofs.Common.{◌≡◌, ℕ, ◌+◌, Bool, None, Some, ◌∙◌}
use Rattle.triple_store.specs.declared.term.Term.{Term}
use Rattle.triple_store.specs.declared.term.Triple.{Triple}
use Rattle.std.proofs.Common.{List}
use Rattle.plugin_decl.specs.Rules.{Rule, number, breaks, AreKeptBelow, IsFirst}
use Rattle.plugin_decl.specs.Checks.{IsFirstPlace}
use Rattle.plugin_decl.proofs.Order.{kept-next}

-- the rule's test, as the code has it
pub record IsTest (rows : List Triple) (plugin : Term) (block : ℕ) (rule : Rule) (test : ℕ → Bool) : Type 0 where
  pub same : (place : ℕ) → breaks rows plugin block rule place ≡ test place

pub broken-first : (rows : List Triple) (plugin : Term) (block : ℕ) (rule : Rule) (test : ℕ → Bool) (place : ℕ) → IsTest rows plugin block rule test → AreKeptBelow rows plugin block (number rule) → IsFirstPlace test (Some place) → IsFirst rows plugin block rule place
broken-first rows plugin block rule test place is kept first = record {
  broken = is.same place ∙ first.0;
  least = λ before below. is.same before ∙ first.1 before below;
  kept = kept;
}

pub kept-first : (rows : List Triple) (plugin : Term) (block : ℕ) (rule : Rule) (test : ℕ → Bool) → IsTest rows plugin block rule test → AreKeptBelow rows plugin block (number rule) → IsFirstPlace test None → AreKeptBelow rows plugin block (number rule + 1)
kept-first rows plugin block rule test is kept none = kept-next rows plugin block rule kept (λ place. is.same place ∙ none place)
