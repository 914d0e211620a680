-- One property after the other is added to what was found.
use Rattle.std.proofs.Common.{◌≡◌, ℕ, List, Option, Some, None, subst, arith}
use Rattle.atom_core.specs.declared.view.AtomView.{AtomView}
use Rattle.atom_core.specs.Value.{Lead, keyed, Value, Parts, none, part}
use Rattle.atom_core.specs.Answer.{Spells}
use Rattle.atom_core.specs.Atoms.{SpellProperties}
use Rattle.atom_core.specs.Iterating.{Property, TakesProperty}
use Rattle.atom_core.proofs.Firsts.{fits_more}
use Rattle.patch_control.specs.declared.words.TheConstants.{PROPERTY, VALUE, SUBJECT, BODY}
use Rattle.patch_control.specs.declared.slot.Slot.{Slot}
use Rattle.patch_control.specs.declared.found.Found.{Found}
use Rattle.patch_control.specs.Message.{counted, any_value, an_object}
use Rattle.patch_control.specs.Gathering.{Gathers, Views}
use Rattle.patch_control.proofs.Leading.{Added, number_taken, number_skipped, atom_taken, atom_skipped}

module _ (all rest : Parts) (key context : ℕ) (v : Value) (old : Found) (h : Gathers all old (part (keyed key context) v rest)) where
  pub property_added : (slot : Slot ℕ) (item : Option ℕ) → key ≡ PROPERTY → item ≡ counted v → Added old.property slot item
      → Gathers all (record { property = slot; subject = old.subject; value = old.value; body = old.body }) rest
  property_added slot item is same added = record {
    property = number_taken PROPERTY key context v all rest old.property slot item is same added h.property;
    subject = number_skipped SUBJECT key context v all rest old.subject (λ e. omega (arith, is, e)) h.subject;
    value = atom_skipped any_value VALUE key context v all rest old.value (λ e. omega (arith, is, e)) h.value;
    body = atom_skipped an_object BODY key context v all rest old.body (λ e. omega (arith, is, e)) h.body;
  }

  pub subject_added : (slot : Slot ℕ) (item : Option ℕ) → key ≡ SUBJECT → item ≡ counted v → Added old.subject slot item
      → Gathers all (record { property = old.property; subject = slot; value = old.value; body = old.body }) rest
  subject_added slot item is same added = record {
    property = number_skipped PROPERTY key context v all rest old.property (λ e. omega (arith, is, e)) h.property;
    subject = number_taken SUBJECT key context v all rest old.subject slot item is same added h.subject;
    value = atom_skipped any_value VALUE key context v all rest old.value (λ e. omega (arith, is, e)) h.value;
    body = atom_skipped an_object BODY key context v all rest old.body (λ e. omega (arith, is, e)) h.body;
  }

  pub value_added : (slot : Slot AtomView) (item : Option AtomView) → key ≡ VALUE → Views item (any_value v) → Added old.value slot item
      → Gathers all (record { property = old.property; subject = old.subject; value = slot; body = old.body }) rest
  value_added slot item is same added = record {
    property = number_skipped PROPERTY key context v all rest old.property (λ e. omega (arith, is, e)) h.property;
    subject = number_skipped SUBJECT key context v all rest old.subject (λ e. omega (arith, is, e)) h.subject;
    value = atom_taken any_value VALUE key context v all rest old.value slot item is same added h.value;
    body = atom_skipped an_object BODY key context v all rest old.body (λ e. omega (arith, is, e)) h.body;
  }

  pub body_added : (slot : Slot AtomView) (item : Option AtomView) → key ≡ BODY → Views item (an_object v) → Added old.body slot item
      → Gathers all (record { property = old.property; subject = old.subject; value = old.value; body = slot }) rest
  body_added slot item is same added = record {
    property = number_skipped PROPERTY key context v all rest old.property (λ e. omega (arith, is, e)) h.property;
    subject = number_skipped SUBJECT key context v all rest old.subject (λ e. omega (arith, is, e)) h.subject;
    value = atom_skipped any_value VALUE key context v all rest old.value (λ e. omega (arith, is, e)) h.value;
    body = atom_taken an_object BODY key context v all rest old.body slot item is same added h.body;
  }

  pub none_added : (key ≡ PROPERTY → ⊥) → (key ≡ SUBJECT → ⊥) → (key ≡ VALUE → ⊥) → (key ≡ BODY → ⊥) → Gathers all old rest
  none_added property subject value body = record {
    property = number_skipped PROPERTY key context v all rest old.property property h.property;
    subject = number_skipped SUBJECT key context v all rest old.subject subject h.subject;
    value = atom_skipped any_value VALUE key context v all rest old.value value h.value;
    body = atom_skipped an_object BODY key context v all rest old.body body h.body;
  }

-- the properties that are left
pub record Left (all : Parts) (bytes : List ℕ) (found : Found) : Type 0 where
  pub rest : Parts
  pub spells : SpellProperties bytes rest
  pub gathers : Gathers all found rest

-- what adding a property does
abbrev pub Adds : Found → ℕ → AtomView → Found → Type 0
Adds old key atom new =
    (all rest : Parts) (context : ℕ) (v : Value) → Spells atom.bytes.now v → Gathers all old (part (keyed key context) v rest) → Gathers all new rest

pub one_more : (all : Parts) (before after : List ℕ) (old new : Found) (property : Property) → (l : Left all before old)
    → TakesProperty l.rest (Some property) after → Adds old property.0 property.2 new → Left all after new
one_more all before after old new property l takes adds =
    more all before after old new property l.rest l.spells l.gathers takes adds
  where
    more : (all : Parts) (before after : List ℕ) (old new : Found) (property : Property) (rest : Parts) → SpellProperties before rest → Gathers all old rest
        → TakesProperty rest (Some property) after → Adds old property.0 property.2 new → Left all after new
    more all before after old new property none spells gathers takes adds = absurd takes
    more all before after old new property (part lead v rest) spells gathers takes adds = record {
      rest = rest;
      spells = takes.2;
      gathers = adds all rest property.1 v
          (record { fits = fits_more 15 16 v (omega arith) (spells.0.2); bytes_are = takes.1 })
          (subst (λ (l : Lead). Gathers all old (part l v rest)) takes.0 gathers);
    }

pub no_more : (all : Parts) (bytes after : List ℕ) (found : Found) → (l : Left all bytes found) → TakesProperty l.rest None after → Gathers all found none
no_more all bytes after found l takes = ended all after found l.rest l.gathers takes
  where
    ended : (all : Parts) (after : List ℕ) (found : Found) (rest : Parts) → Gathers all found rest → TakesProperty rest None after → Gathers all found none
    ended all after found none gathers takes = gathers
    ended all after found (part lead v rest) gathers takes = absurd takes
