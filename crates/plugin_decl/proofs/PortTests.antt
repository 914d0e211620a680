-- What the rules on ports, features and options test.
use Rattle.std.proofs.Common.{◌≡◌, ℕ, zero, suc, ◌<◌, ◌≤◌, Bool, true, false, List, [], ◌∷◌, map, length, take, get_or, Some, refl, sym, ◌∙◌, ap, ⊎_elim, arith}
use Rattle.std.proofs.lemmas.Bool.{cases_lt}
use Rattle.std.specs.Prelude.{not, find}
use Rattle.std.specs.List.{list_any}
use Rattle.triple_store.specs.declared.term.Term.{Term}
use Rattle.triple_store.specs.declared.term.Triple.{Triple}
use Rattle.plugin_decl.specs.declared.breaches.Breaches.{Breaches}
use Rattle.plugin_decl.specs.declared.declaration.Port.{Port}
use Rattle.plugin_decl.specs.declared.port_rules.PortRule.{PortRule}
use Rattle.plugin_decl.specs.declared.port_rules.PortRule.TheVariants.{Symbol, Name, Direction, OneDirection, Class, Value}
use Rattle.vocabulary.specs.declared.word.Word.TheVariants.{Lv2Plugin, Lv2RequiredFeature, OptionsRequiredOption}
use Rattle.plugin_decl.specs.Objects.{objects_of, is_a}
use Rattle.plugin_decl.specs.PortFacts.{breaches_of}
use Rattle.plugin_decl.specs.Declaration.{ports_of, declared_ports}
use Rattle.plugin_decl.specs.Features.{is_supported, is_given}
use Rattle.plugin_decl.specs.Rules.{Rule, number, passes_at, has_symbol_of, repeats_symbol, breaks, AreKeptBelow, IsFirst, IsFirstAmong, IsFirstBroken}
use Rattle.plugin_decl.specs.Rules.Rule.{no_plugin, same_symbol, feature, required_option}
use Rattle.plugin_decl.specs.Checks.{rule_of, is_broken_in, fault_of}
use Rattle.plugin_decl.proofs.Checking.{IsTest, broken-first, kept-first}
use Rattle.plugin_decl.proofs.Places.{find-some, passes-within, passes-past}

-- a test of what is said of each item
passes-map : {X Y : Type 0} (f : X → Y) (passes : Y → Bool) (xs : List X) (i : ℕ) → passes_at passes (map f xs) i ≡ passes_at (λ x. passes (f x)) xs i
passes-map f passes [] i = refl
passes-map f passes (x ∷ xs) zero = refl
passes-map f passes (x ∷ xs) (suc i) = passes-map f passes xs i

-- a rule on one port, where the code has these breaches of the ports in order
at-ports : (rows : List Triple) (ports : List Term) (breaches : List Breaches) (passes : Breaches → Bool) (i : ℕ) → breaches ≡ map (breaches_of rows) ports
    → passes_at (λ port. passes (breaches_of rows port)) ports i ≡ passes_at passes breaches i
at-ports rows ports breaches passes i e = sym (ap (λ bs. passes_at passes bs i) e ∙ passes-map (breaches_of rows) passes ports i)

pub test-port : (rows : List Triple) (plugin : Term) (block : ℕ) (rule : PortRule) (breaches : List Breaches) → breaches ≡ map (breaches_of rows) (ports_of rows plugin) → IsTest rows plugin block (rule_of rule) (passes_at (is_broken_in rule) breaches)
unfolding breaks
test-port rows plugin block Symbol breaches e = record { same = λ i. at-ports rows (ports_of rows plugin) breaches (is_broken_in Symbol) i e }
test-port rows plugin block Name breaches e = record { same = λ i. at-ports rows (ports_of rows plugin) breaches (is_broken_in Name) i e }
test-port rows plugin block Direction breaches e = record { same = λ i. at-ports rows (ports_of rows plugin) breaches (is_broken_in Direction) i e }
test-port rows plugin block OneDirection breaches e = record { same = λ i. at-ports rows (ports_of rows plugin) breaches (is_broken_in OneDirection) i e }
test-port rows plugin block Class breaches e = record { same = λ i. at-ports rows (ports_of rows plugin) breaches (is_broken_in Class) i e }
test-port rows plugin block Value breaches e = record { same = λ i. at-ports rows (ports_of rows plugin) breaches (is_broken_in Value) i e }

-- the fault that is answered is that of the rule
pub fault-port : (rows : List Triple) (plugin : Term) (block : ℕ) (rule : PortRule) (i : ℕ) → IsFirst rows plugin block (rule_of rule) i → IsFirstBroken rows plugin block (fault_of rule i)
fault-port rows plugin block Symbol i first = first
fault-port rows plugin block Name i first = first
fault-port rows plugin block Direction i first = first
fault-port rows plugin block OneDirection i first = first
fault-port rows plugin block Class i first = first
fault-port rows plugin block Value i first = first

pub test-same_symbol : (rows : List Triple) (plugin : Term) (block : ℕ) (ports : List Port) → ports ≡ declared_ports rows plugin → IsTest rows plugin block same_symbol (repeats_symbol ports)
unfolding breaks
test-same_symbol rows plugin block ports e = record { same = λ i. ap (λ xs. repeats_symbol xs i) (sym e) }

-- at the port that is looked at
pub repeats-at : (ports : List Port) (i : ℕ) (port : Port) → i < length ports → port ≡ get_or ports i port → repeats_symbol ports i ≡ list_any (has_symbol_of port) (take i ports)
unfolding repeats_symbol
repeats-at ports i port h e =
    passes-within (λ (at : Port). list_any (has_symbol_of at) (take i ports)) ports i port h
    ∙ ap (λ (at : Port). list_any (has_symbol_of at) (take i ports)) (sym e)

-- and past the last one
pub repeats-past : (ports : List Port) (i : ℕ) → length ports ≤ i → repeats_symbol ports i ≡ false
unfolding repeats_symbol
repeats-past ports i h = passes-past (λ (at : Port). list_any (has_symbol_of at) (take i ports)) ports i h

pub repeats-all : (ports : List Port) (n : ℕ) → length ports ≤ n → ((k : ℕ) → k < n → repeats_symbol ports k ≡ false) → (place : ℕ) → repeats_symbol ports place ≡ false
repeats-all ports n h none place = ⊎_elim
    (λ (before : place < n). none place before)
    (λ (past : n ≤ place). repeats-past ports place (omega arith))
    (cases_lt place n)

-- the first required feature that isn't supported
pub test-feature : (rows : List Triple) (plugin : Term) (block : ℕ) → IsTest rows plugin block feature (passes_at (λ term. not (is_supported block term)) (objects_of rows plugin Lv2RequiredFeature))
unfolding breaks
test-feature rows plugin block = record { same = λ place. refl }

pub test-option : (rows : List Triple) (plugin : Term) (block : ℕ) → IsTest rows plugin block required_option (passes_at (λ term. not (is_given term)) (objects_of rows plugin OptionsRequiredOption))
unfolding breaks
test-option rows plugin block = record { same = λ place. refl }

-- the term that `find` finds is the first that breaks its rule
pub among-first : (rows : List Triple) (plugin : Term) (block : ℕ) (rule : Rule) (p : Term → Bool) (terms : List Term) (term : Term) → IsTest rows plugin block rule (passes_at p terms) → AreKeptBelow rows plugin block (number rule) → find p terms ≡ Some term → IsFirstAmong rows plugin block rule terms term
among-first rows plugin block rule p terms term is kept e =
    let found = find-some p terms term e in
    (found.0, found.1, broken-first rows plugin block rule (passes_at p terms) found.0 is kept (found.2, found.3))

-- no rule comes before the first one
pub none-before : (rows : List Triple) (plugin : Term) (block : ℕ) → AreKeptBelow rows plugin block 0
none-before rows plugin block rule h = absurd (omega arith)

pub test-no_plugin : (rows : List Triple) (plugin : Term) (block : ℕ) → IsTest rows plugin block no_plugin (λ place. not (is_a rows plugin Lv2Plugin))
unfolding breaks
test-no_plugin rows plugin block = record { same = λ place. refl }

pub class-kept : (rows : List Triple) (plugin : Term) (block : ℕ) → is_a rows plugin Lv2Plugin ≡ true → AreKeptBelow rows plugin block 1
class-kept rows plugin block e = kept-first rows plugin block no_plugin (λ place. not (is_a rows plugin Lv2Plugin)) (test-no_plugin rows plugin block) (none-before rows plugin block) (λ place. ap not e)

pub class-broken : (rows : List Triple) (plugin : Term) (block : ℕ) → is_a rows plugin Lv2Plugin ≡ false → IsFirst rows plugin block no_plugin 0
class-broken rows plugin block e = broken-first rows plugin block no_plugin (λ place. not (is_a rows plugin Lv2Plugin)) 0 (test-no_plugin rows plugin block) (none-before rows plugin block) (ap not e, λ before h. absurd (omega arith))
