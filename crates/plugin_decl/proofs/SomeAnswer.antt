-- The triples of a plug-in have an answer: each rule is kept, or there is a first place where it is broken.
use Rattle.std.proofs.Common.{◌≡◌, ◌⊎◌, ℕ, zero, suc, ◌+◌, ◌<◌, ◌≤◌, Bool, true, false, List, map, length, count_by, Option, None, Some, refl, sym, ◌∙◌, ap, ⊎_elim, inl, inr, arith}
use Rattle.std.specs.Prelude.{slice_get, position, not, is_none, nat_lt, ◌&&◌}
use Rattle.std.specs.List.{list_any}
use Rattle.std.specs.Option.{option_map_or}
use Rattle.std.proofs.lemmas.Bool.{cases_lt, le-ltb, false≢true}
use Rattle.triple_store.specs.declared.term.Term.{Term}
use Rattle.triple_store.specs.declared.term.Triple.{Triple}
use Rattle.plugin_decl.specs.declared.declaration.DeclFault.{DeclFault}
use Rattle.plugin_decl.specs.declared.declaration.DeclFault.TheVariants.{NoPlugin, BadIndex, SameIndex, Gap, SameSymbol, Feature, RequiredOption}
use Rattle.plugin_decl.specs.declared.port_rules.PortRule.{PortRule}
use Rattle.plugin_decl.specs.declared.port_rules.PortRule.TheVariants.{Symbol, Name, Direction, OneDirection, Class, Value}
use Rattle.vocabulary.specs.declared.word.Word.TheVariants.{Lv2Plugin, Lv2RequiredFeature, OptionsRequiredOption}
use Rattle.plugin_decl.specs.Objects.{objects_of, is_a}
use Rattle.plugin_decl.specs.Declaration.{indexes_of, is_index, ports_of, declared_ports}
use Rattle.plugin_decl.specs.Features.{is_supported, is_given}
use Rattle.plugin_decl.specs.Rules.{Rule, number, passes_at, repeats_symbol, AreKeptBelow, AreAllKept, IsFirst, IsFirstBroken}
use Rattle.plugin_decl.specs.Rules.Rule.{no_plugin, bad_index, same_index, gap, same_symbol, feature, required_option}
use Rattle.plugin_decl.specs.PortFacts.{breaches_of}
use Rattle.plugin_decl.specs.Checks.{IsFirstPlace, rule_of, is_broken_in, fault_of}
use Rattle.plugin_decl.proofs.Checking.{IsTest, broken-first, kept-first}
use Rattle.plugin_decl.proofs.IndexRules.{test-bad_index, test-same_index, test-gap, AreIndexes-of, never-repeated}
use Rattle.plugin_decl.proofs.Order.{kept-all}
use Rattle.plugin_decl.proofs.Places.{position-first}
use Rattle.plugin_decl.proofs.PortTests.{test-port, fault-port, test-same_symbol, repeats-all, test-feature, test-option, none-before, test-no_plugin}

-- a test passes at a first place, or nowhere
abbrev HasFirst : (ℕ → Bool) → Type 0
HasFirst test = (place : Option ℕ) × IsFirstPlace test place

-- among the places below a number
abbrev HasFirstBelow : (ℕ → Bool) → ℕ → Type 0
HasFirstBelow test n = ((place : ℕ) × IsFirstPlace test (Some place)) ⊎ ((place : ℕ) → place < n → test place ≡ false)

next-below : (test : ℕ → Bool) (n : ℕ) (b : Bool) → test n ≡ b → ((place : ℕ) → place < n → test place ≡ false) → HasFirstBelow test (suc n)
next-below test n true e none = inl (n, (e, none))
next-below test n false e none = inr (λ place h. ⊎_elim
    (λ (below : place < n). none place below)
    (λ (above : n ≤ place). let same : place ≡ n = omega arith in ap test same ∙ e)
    (cases_lt place n))

first-below : (test : ℕ → Bool) (n : ℕ) → HasFirstBelow test n
first-below test zero = inr (λ place h. absurd (omega arith))
first-below test (suc n) = ⊎_elim (λ found. inl found) (λ none. next-below test n (test n) refl none) (first-below test n)

-- where it passes at no place from a number on, only those below are looked at
first-bounded : (test : ℕ → Bool) (n : ℕ) → (((place : ℕ) → place < n → test place ≡ false) → (place : ℕ) → test place ≡ false) → HasFirst test
first-bounded test n none = ⊎_elim (λ found. (Some found.0, found.1)) (λ below. (None, none below)) (first-below test n)

first-passing : {X : Type 0} (p : X → Bool) (xs : List X) → HasFirst (passes_at p xs)
first-passing p xs = (position p xs, position-first p xs (position p xs) refl)

-- the rules before the n-th are kept, or a fault is the first that is broken
abbrev IsAnswered : List Triple → Term → ℕ → ℕ → Type 0
IsAnswered rows plugin block n = AreKeptBelow rows plugin block n ⊎ ((fault : DeclFault) × IsFirstBroken rows plugin block fault)

judged : (rows : List Triple) (plugin : Term) (block : ℕ) (rule : Rule) (test : ℕ → Bool) (place : Option ℕ) → IsTest rows plugin block rule test → IsFirstPlace test place
    → ((at : ℕ) → IsFirst rows plugin block rule at → (fault : DeclFault) × IsFirstBroken rows plugin block fault)
    → AreKeptBelow rows plugin block (number rule) → IsAnswered rows plugin block (number rule + 1)
judged rows plugin block rule test None is first fault kept = inl (kept-first rows plugin block rule test is kept first)
judged rows plugin block rule test (Some at) is first fault kept = inr (fault at (broken-first rows plugin block rule test at is kept first))

-- one rule more
step : (rows : List Triple) (plugin : Term) (block : ℕ) (rule : Rule) (test : ℕ → Bool) → IsTest rows plugin block rule test → HasFirst test
    → ((at : ℕ) → IsFirst rows plugin block rule at → (fault : DeclFault) × IsFirstBroken rows plugin block fault)
    → IsAnswered rows plugin block (number rule) → IsAnswered rows plugin block (number rule + 1)
step rows plugin block rule test is first fault before = ⊎_elim
    (λ kept. judged rows plugin block rule test first.0 is first.1 fault kept)
    (λ broken. inr broken)
    before

by-class : (b : Bool) → HasFirst (λ place. b)
by-class true = (Some 0, (refl, λ before h. absurd (omega arith)))
by-class false = (None, λ place. refl)

no_plugin-step : (rows : List Triple) (plugin : Term) (block : ℕ) → IsAnswered rows plugin block 1
no_plugin-step rows plugin block =
    step rows plugin block no_plugin (λ place. not (is_a rows plugin Lv2Plugin)) (test-no_plugin rows plugin block) (by-class (not (is_a rows plugin Lv2Plugin)))
    (λ at first. (NoPlugin, only-first rows plugin block at first))
    (inl (none-before rows plugin block))
  where
    only-first : (rows : List Triple) (plugin : Term) (block at : ℕ) → IsFirst rows plugin block no_plugin at → IsFirst rows plugin block no_plugin 0
    only-first rows plugin block at first = record {
      broken = (test-no_plugin rows plugin block).same 0 ∙ sym ((test-no_plugin rows plugin block).same at) ∙ first.broken;
      least = λ before h. absurd (omega arith);
      kept = first.kept;
    }

bad_index-step : (rows : List Triple) (plugin : Term) (block : ℕ) → IsAnswered rows plugin block 1 → IsAnswered rows plugin block 2
bad_index-step rows plugin block =
    step rows plugin block bad_index (passes_at is_none (indexes_of rows plugin)) (test-bad_index rows plugin block (indexes_of rows plugin) refl)
    (first-passing is_none (indexes_of rows plugin))
    (λ at first. (BadIndex at, first))

same_index-step : (rows : List Triple) (plugin : Term) (block : ℕ) → IsAnswered rows plugin block 2 → IsAnswered rows plugin block 3
same_index-step rows plugin block =
    let indexes = indexes_of rows plugin in
    step rows plugin block same_index (λ i. nat_lt 1 (count_by (is_index i) indexes)) (test-same_index rows plugin block indexes refl)
    (first-bounded (λ i. nat_lt 1 (count_by (is_index i) indexes)) 256 (never-repeated indexes (AreIndexes-of rows plugin indexes refl)))
    (λ at first. (SameIndex at, first))

gap-past : (indexes : List (Option ℕ)) (place : ℕ) → length indexes ≤ place → (nat_lt place (length indexes) && not (list_any (is_index place) indexes)) ≡ false
gap-past indexes place h = rw (le-ltb place (length indexes) h) refl

gaps-all : (indexes : List (Option ℕ)) → ((k : ℕ) → k < length indexes → (nat_lt k (length indexes) && not (list_any (is_index k) indexes)) ≡ false) → (place : ℕ) → (nat_lt place (length indexes) && not (list_any (is_index place) indexes)) ≡ false
gaps-all indexes none place = ⊎_elim
    (λ (before : place < length indexes). none place before)
    (λ (past : length indexes ≤ place). gap-past indexes place past)
    (cases_lt place (length indexes))

gap-step : (rows : List Triple) (plugin : Term) (block : ℕ) → IsAnswered rows plugin block 3 → IsAnswered rows plugin block 4
gap-step rows plugin block =
    let indexes = indexes_of rows plugin in
    step rows plugin block gap (λ i. nat_lt i (length indexes) && not (list_any (is_index i) indexes)) (test-gap rows plugin block indexes refl)
    (first-bounded (λ i. nat_lt i (length indexes) && not (list_any (is_index i) indexes)) (length indexes) (gaps-all indexes))
    (λ at first. (Gap at, first))

same_symbol-step : (rows : List Triple) (plugin : Term) (block : ℕ) → IsAnswered rows plugin block 5 → IsAnswered rows plugin block 6
same_symbol-step rows plugin block =
    let ports = declared_ports rows plugin in
    step rows plugin block same_symbol (repeats_symbol ports) (test-same_symbol rows plugin block ports refl)
    (first-bounded (repeats_symbol ports) (length ports) (repeats-all ports (length ports) (omega arith)))
    (λ at first. (SameSymbol at, first))

-- a rule on one port
port-step : (rows : List Triple) (plugin : Term) (block : ℕ) (rule : PortRule) → IsAnswered rows plugin block (number (rule_of rule)) → IsAnswered rows plugin block (number (rule_of rule) + 1)
port-step rows plugin block rule =
    let breaches = map (breaches_of rows) (ports_of rows plugin) in
    step rows plugin block (rule_of rule) (passes_at (is_broken_in rule) breaches) (test-port rows plugin block rule breaches refl)
    (first-passing (is_broken_in rule) breaches)
    (λ at first. (fault_of rule at, fault-port rows plugin block rule at first))

-- the term at a place that passes
there : (p : Term → Bool) (found : Option Term) → option_map_or p found false ≡ true → (term : Term) × (found ≡ Some term)
there p None e = absurd (false≢true e)
there p (Some term) e = (term, refl)

feature-step : (rows : List Triple) (plugin : Term) (block : ℕ) → IsAnswered rows plugin block 10 → IsAnswered rows plugin block 11
feature-step rows plugin block =
    let terms = objects_of rows plugin Lv2RequiredFeature in
    step rows plugin block feature (passes_at (λ term. not (is_supported block term)) terms) (test-feature rows plugin block)
    (first-passing (λ term. not (is_supported block term)) terms)
    (λ at first.
    let named = there (λ term. not (is_supported block term)) (slice_get terms at) (sym ((test-feature rows plugin block).same at) ∙ first.broken) in
    (Feature named.0, (at, named.1, first)))

option-step : (rows : List Triple) (plugin : Term) (block : ℕ) → IsAnswered rows plugin block 11 → IsAnswered rows plugin block 12
option-step rows plugin block =
    let terms = objects_of rows plugin OptionsRequiredOption in
    step rows plugin block required_option (passes_at (λ term. not (is_given term)) terms) (test-option rows plugin block)
    (first-passing (λ term. not (is_given term)) terms)
    (λ at first.
    let named = there (λ term. not (is_given term)) (slice_get terms at) (sym ((test-option rows plugin block).same at) ∙ first.broken) in
    (RequiredOption named.0, (at, named.1, first)))

ports-step : (rows : List Triple) (plugin : Term) (block : ℕ) → IsAnswered rows plugin block 4 → IsAnswered rows plugin block 10
ports-step rows plugin block before =
    port-step rows plugin block Class
    (port-step rows plugin block OneDirection
    (port-step rows plugin block Direction
    (port-step rows plugin block Name
    (same_symbol-step rows plugin block
    (port-step rows plugin block Symbol before)))))

all-steps : (rows : List Triple) (plugin : Term) (block : ℕ) → IsAnswered rows plugin block 13
all-steps rows plugin block =
    port-step rows plugin block Value
    (option-step rows plugin block
    (feature-step rows plugin block
    (ports-step rows plugin block
    (gap-step rows plugin block
    (same_index-step rows plugin block
    (bad_index-step rows plugin block
    (no_plugin-step rows plugin block)))))))

-- no rule is broken, or there is a first one
pub some_answer : (rows : List Triple) (plugin : Term) (block : ℕ) → AreAllKept rows plugin block ⊎ ((fault : DeclFault) × IsFirstBroken rows plugin block fault)
some_answer rows plugin block = ⊎_elim (λ kept. inl (kept-all rows plugin block kept)) (λ broken. inr broken) (all-steps rows plugin block)
