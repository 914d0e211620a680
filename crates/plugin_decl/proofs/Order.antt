-- The rules are judged in their order.
use Rattle.std.proofs.Common.{◌≡◌, ℕ, ◌+◌, ◌<◌, List, [], ◌∷◌, get_or, refl, sym, ◌∙◌, ap, subst, ⊎_elim, arith}
use Rattle.std.proofs.lemmas.Bool.{cases_lt}
use Rattle.triple_store.specs.declared.term.Term.{Term}
use Rattle.triple_store.specs.declared.term.Triple.{Triple}
use Rattle.plugin_decl.specs.Rules.{Rule, number, IsKept, AreKeptBelow, AreAllKept}
use Rattle.plugin_decl.specs.Rules.Rule.{no_plugin, bad_index, same_index, gap, bad_symbol, same_symbol, no_name, no_direction, two_directions, port_class, feature, required_option, bad_value}

-- the rules in their order
table : List Rule
table = no_plugin ∷ bad_index ∷ same_index ∷ gap ∷ bad_symbol ∷ same_symbol ∷ no_name ∷ no_direction ∷ two_directions ∷ port_class ∷ feature ∷ required_option ∷ bad_value ∷ []

-- each stands at its number
placed : (rule : Rule) → get_or table (number rule) no_plugin ≡ rule
unfolding table
placed no_plugin = refl
placed bad_index = refl
placed same_index = refl
placed gap = refl
placed bad_symbol = refl
placed same_symbol = refl
placed no_name = refl
placed no_direction = refl
placed two_directions = refl
placed port_class = refl
placed feature = refl
placed required_option = refl
placed bad_value = refl

-- so a number is that of one rule
pub same_rule : (a b : Rule) → number a ≡ number b → a ≡ b
same_rule a b e = sym (placed a) ∙ ap (λ n. get_or table n no_plugin) e ∙ placed b

-- there are no more than 13
pub all_numbered : (rule : Rule) → number rule < 13
all_numbered no_plugin = omega arith
all_numbered bad_index = omega arith
all_numbered same_index = omega arith
all_numbered gap = omega arith
all_numbered bad_symbol = omega arith
all_numbered same_symbol = omega arith
all_numbered no_name = omega arith
all_numbered no_direction = omega arith
all_numbered two_directions = omega arith
all_numbered port_class = omega arith
all_numbered feature = omega arith
all_numbered required_option = omega arith
all_numbered bad_value = omega arith

-- the rules up to one are kept where those before it and itself are
pub kept-next : (rows : List Triple) (plugin : Term) (block : ℕ) (rule : Rule) → AreKeptBelow rows plugin block (number rule) → IsKept rows plugin block rule → AreKeptBelow rows plugin block (number rule + 1)
kept-next rows plugin block rule before here r h = ⊎_elim
    (λ (below : number r < number rule). before r below)
    (λ above. let e : number r ≡ number rule = omega arith in subst (IsKept rows plugin block) (sym (same_rule r rule e)) here)
    (cases_lt (number r) (number rule))

-- all are kept where the 13 are
pub kept-all : (rows : List Triple) (plugin : Term) (block : ℕ) → AreKeptBelow rows plugin block 13 → AreAllKept rows plugin block
kept-all rows plugin block kept rule = kept rule (all_numbered rule)
