-- The triples of a plug-in have one answer.
use Rattle.std.proofs.Common.{◌≡◌, ℕ, ◌<◌, ◌≤◌, List, Option, Some, refl, sym, ◌∙◌, ap, subst, ⊎_elim, arith}
use Rattle.std.specs.Prelude.{slice_get}
use Rattle.std.specs.Option.{option_map}
use Rattle.std.proofs.lemmas.Bool.{cases_lt, false≢true}
use Rattle.triple_store.specs.declared.term.Term.{Term}
use Rattle.triple_store.specs.declared.term.Triple.{Triple}
use Rattle.plugin_decl.specs.declared.declaration.DeclFault.{DeclFault}
use Rattle.plugin_decl.specs.declared.declaration.DeclFault.TheVariants.{NoPlugin, BadIndex, SameIndex, Gap, BadSymbol, SameSymbol, NoName, NoDirection, TwoDirections, PortClass, Feature, RequiredOption, BadValue, NoMemory}
use Rattle.vocabulary.specs.declared.word.Word.TheVariants.{Lv2RequiredFeature, OptionsRequiredOption}
use Rattle.plugin_decl.specs.Objects.{objects_of}
use Rattle.plugin_decl.specs.Rules.{Rule, number, AreAllKept, IsFirst, IsFirstBroken}
use Rattle.plugin_decl.specs.Rules.Rule.{no_plugin, bad_index, same_index, gap, bad_symbol, same_symbol, no_name, no_direction, two_directions, port_class, feature, required_option, bad_value}
use Rattle.plugin_decl.proofs.Order.{same_rule}

-- the fault that a rule gives at a place
fault_at : List Triple → Term → Rule → ℕ → Option DeclFault
fault_at rows plugin no_plugin place = Some NoPlugin
fault_at rows plugin bad_index place = Some (BadIndex place)
fault_at rows plugin same_index i = Some (SameIndex i)
fault_at rows plugin gap i = Some (Gap i)
fault_at rows plugin bad_symbol i = Some (BadSymbol i)
fault_at rows plugin same_symbol i = Some (SameSymbol i)
fault_at rows plugin no_name i = Some (NoName i)
fault_at rows plugin no_direction i = Some (NoDirection i)
fault_at rows plugin two_directions i = Some (TwoDirections i)
fault_at rows plugin port_class i = Some (PortClass i)
fault_at rows plugin feature place = option_map Feature (slice_get (objects_of rows plugin Lv2RequiredFeature) place)
fault_at rows plugin required_option place = option_map RequiredOption (slice_get (objects_of rows plugin OptionsRequiredOption) place)
fault_at rows plugin bad_value i = Some (BadValue i)

-- a fault that is the first broken rule is that of the rule at its first place
record Named (rows : List Triple) (plugin : Term) (block : ℕ) (fault : DeclFault) : Type 0 where
  rule : Rule
  place : ℕ
  given : Some fault ≡ fault_at rows plugin rule place
  first : IsFirst rows plugin block rule place

named : (rows : List Triple) (plugin : Term) (block : ℕ) (fault : DeclFault) → IsFirstBroken rows plugin block fault → Named rows plugin block fault
unfolding fault_at
named rows plugin block NoPlugin h = record { rule = no_plugin; place = 0; given = refl; first = h }
named rows plugin block (BadIndex k) h = record { rule = bad_index; place = k; given = refl; first = h }
named rows plugin block (SameIndex k) h = record { rule = same_index; place = k; given = refl; first = h }
named rows plugin block (Gap k) h = record { rule = gap; place = k; given = refl; first = h }
named rows plugin block (BadSymbol k) h = record { rule = bad_symbol; place = k; given = refl; first = h }
named rows plugin block (SameSymbol k) h = record { rule = same_symbol; place = k; given = refl; first = h }
named rows plugin block (NoName k) h = record { rule = no_name; place = k; given = refl; first = h }
named rows plugin block (NoDirection k) h = record { rule = no_direction; place = k; given = refl; first = h }
named rows plugin block (TwoDirections k) h = record { rule = two_directions; place = k; given = refl; first = h }
named rows plugin block (PortClass k) h = record { rule = port_class; place = k; given = refl; first = h }
named rows plugin block (Feature term) h = record { rule = feature; place = h.0; given = ap (option_map Feature) (sym h.1); first = h.2 }
named rows plugin block (RequiredOption term) h = record { rule = required_option; place = h.0; given = ap (option_map RequiredOption) (sym h.1); first = h.2 }
named rows plugin block (BadValue k) h = record { rule = bad_value; place = k; given = refl; first = h }
named rows plugin block NoMemory h = absurd h

-- no rule comes before the first
not_before : (rows : List Triple) (plugin : Term) (block : ℕ) (r s : Rule) (p q : ℕ) → IsFirst rows plugin block r p → IsFirst rows plugin block s q → number r < number s → ⊥
not_before rows plugin block r s p q a b h = false≢true (sym (b.kept r h p) ∙ a.broken)

one_number : (rows : List Triple) (plugin : Term) (block : ℕ) (r s : Rule) (p q : ℕ) → IsFirst rows plugin block r p → IsFirst rows plugin block s q → number r ≡ number s
one_number rows plugin block r s p q a b = ⊎_elim
    (λ (below : number r < number s). absurd (not_before rows plugin block r s p q a b below))
    (λ (above : number s ≤ number r). ⊎_elim
    (λ (below : number s < number r). absurd (not_before rows plugin block s r q p b a below))
    (λ (same : number r ≤ number s). omega arith)
    (cases_lt (number s) (number r)))
    (cases_lt (number r) (number s))

-- no place comes before the least
one_place : (rows : List Triple) (plugin : Term) (block : ℕ) (r : Rule) (p q : ℕ) → IsFirst rows plugin block r p → IsFirst rows plugin block r q → p ≡ q
one_place rows plugin block r p q a b = ⊎_elim
    (λ (below : p < q). absurd (false≢true (sym (b.least p below) ∙ a.broken)))
    (λ (above : q ≤ p). ⊎_elim
    (λ (below : q < p). absurd (false≢true (sym (a.least q below) ∙ b.broken)))
    (λ (same : p ≤ q). omega arith)
    (cases_lt q p))
    (cases_lt p q)

some-same : (f g : DeclFault) (o : Option DeclFault) → Some f ≡ o → Some g ≡ o → f ≡ g
some-same f g o a b = cc

pub one_fault : (rows : List Triple) (plugin : Term) (block : ℕ) (f g : DeclFault) → IsFirstBroken rows plugin block f → IsFirstBroken rows plugin block g → f ≡ g
one_fault rows plugin block f g a b =
    let m = named rows plugin block f a in
    let n = named rows plugin block g b in
    let rule : m.rule ≡ n.rule = same_rule m.rule n.rule (one_number rows plugin block m.rule n.rule m.place n.place m.first n.first) in
    let place : m.place ≡ n.place = one_place rows plugin block n.rule m.place n.place (subst (λ r. IsFirst rows plugin block r m.place) rule m.first) n.first in
    some-same f g (fault_at rows plugin n.rule n.place) (m.given ∙ ap (λ r. fault_at rows plugin r m.place) rule ∙ ap (fault_at rows plugin n.rule) place) n.given

-- where no rule is broken, no fault is the first
pub not_both : (rows : List Triple) (plugin : Term) (block : ℕ) (fault : DeclFault) → AreAllKept rows plugin block → ¬ IsFirstBroken rows plugin block fault
not_both rows plugin block fault kept first =
    let n = named rows plugin block fault first in
    false≢true (sym (kept n.rule n.place) ∙ n.first.broken)
