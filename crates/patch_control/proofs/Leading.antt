-- What one more property adds to what was found under a key.
use Rattle.std.proofs.Common.{◌≡◌, ◌==◌, if◌then◌else◌, ℕ, Bool, true, false, ◌&&◌, ◌||◌, Option, None, Some, refl, sym, ap, ◌∙◌, subst, eq-eqb, ne_eqb}
use Rattle.std.specs.Option.{option_or}
use Rattle.atom_core.specs.declared.view.AtomView.{AtomView}
use Rattle.atom_core.specs.Value.{keyed, Value, Parts, none, part}
use Rattle.patch_control.specs.declared.slot.Slot.{Slot}
use Rattle.patch_control.specs.Properties.{first, has_key, repeats_key}
use Rattle.patch_control.specs.Message.{counted}
use Rattle.patch_control.specs.Gathering.{Leads, Views, LeadsNumber, LeadsAtom}

pub leads_all : {A : Type 0} (counts : Value → Option A) (own : ℕ) (all : Parts) → Leads counts own all None false false all
leads_all counts own all = record { item_is = refl; again_is = refl }

or_again : {A : Type 0} (a b c : Option A) → option_or (option_or a b) c ≡ option_or a (option_or b c)
or_again None b c = refl
or_again (Some x) b c = refl

or_none : {A : Type 0} (a : Option A) → option_or a None ≡ a
or_none None = refl
or_none (Some x) = refl

tests_then : (again stands more others : Bool) → ((again || stands) || ((true && more) || others)) ≡ (again || ((stands && true) || (more || others)))
tests_then true stands more others = refl
tests_then false true more others = refl
tests_then false false more others = refl

tests_end : (again stands : Bool) → (again || ((stands && false) || false)) ≡ again
tests_end true stands = refl
tests_end false true = refl
tests_end false false = refl

-- the key stands once more
pub taken : {A : Type 0} (counts : Value → Option A) (own context : ℕ) (v : Value) (all rest : Parts) (item : Option A) (stands again : Bool)
    → Leads counts own all item stands again (part (keyed own context) v rest)
    → Leads counts own all (option_or item (counts v)) true (again || stands) rest
taken counts own context v all rest item stands again h =
    let same : (own == own) ≡ true = eq-eqb own own refl in
    record {
      item_is =
          or_again item (counts v) (first counts own rest)
          ∙ sym (ap (λ (b : Bool). option_or item (if b then option_or (counts v) (first counts own rest) else first counts own rest)) same)
          ∙ h.item_is;
      again_is =
          tests_then again stands (has_key own rest) (repeats_key own rest)
          ∙ sym (ap (λ (b : Bool). again || ((stands && (b || has_key own rest)) || ((b && has_key own rest) || repeats_key own rest))) same)
          ∙ h.again_is;
    }

-- another key stands
pub skipped : {A : Type 0} (counts : Value → Option A) (own key context : ℕ) (v : Value) (all rest : Parts) (item : Option A) (stands again : Bool)
    → (key ≡ own → ⊥) → Leads counts own all item stands again (part (keyed key context) v rest) → Leads counts own all item stands again rest
skipped counts own key context v all rest item stands again other h =
    let differs : (key == own) ≡ false = ne_eqb key own other in
    record {
      item_is =
          sym (ap (λ (b : Bool). option_or item (if b then option_or (counts v) (first counts own rest) else first counts own rest)) differs) ∙ h.item_is;
      again_is =
          sym (ap (λ (b : Bool). again || ((stands && (b || has_key own rest)) || ((b && has_key own rest) || repeats_key own rest))) differs) ∙ h.again_is;
    }

-- no property is left
pub record Found {A : Type 0} (counts : Value → Option A) (own : ℕ) (all : Parts) (item : Option A) (again : Bool) : Type 0 where
  pub item_is : item ≡ first counts own all
  pub again_is : again ≡ repeats_key own all

pub found : {A : Type 0} (counts : Value → Option A) (own : ℕ) (all : Parts) (item : Option A) (stands again : Bool)
    → Leads counts own all item stands again none → Found counts own all item again
found counts own all item stands again h = record {
  item_is = sym (or_none item) ∙ h.item_is;
  again_is = sym (tests_end again stands) ∙ h.again_is;
}

-- a slot to which an item was added
pub record Added {A : Type 0} (old new : Slot A) (item : Option A) : Type 0 where
  pub item_is : new.item ≡ option_or old.item item
  pub stands : new.stands ≡ true
  pub again : new.again ≡ (old.again || old.stands)

renamed : {A : Type 0} (counts : Value → Option A) (own : ℕ) (all rest : Parts) (a b : Option A) (s t x y : Bool) → b ≡ a → t ≡ s → y ≡ x
    → Leads counts own all a s x rest → Leads counts own all b t y rest
renamed counts own all rest a b s t x y same_item same_stands same_again h =
    subst (λ i. Leads counts own all i t y rest) (sym same_item)
    (subst (λ i. Leads counts own all a i y rest) (sym same_stands) (subst (λ i. Leads counts own all a s i rest) (sym same_again) h))

pub number_taken : (own key context : ℕ) (v : Value) (all rest : Parts) (old new : Slot ℕ) (item : Option ℕ) → key ≡ own → item ≡ counted v → Added old new item
    → LeadsNumber own all old (part (keyed key context) v rest) → LeadsNumber own all new rest
number_taken own key context v all rest old new item is same added h =
    renamed counted own all rest (option_or old.item (counted v)) new.item true new.stands (old.again || old.stands) new.again
    (added.item_is ∙ ap (option_or old.item) same) added.stands added.again
    (taken counted own context v all rest old.item old.stands old.again (subst (λ k. LeadsNumber own all old (part (keyed k context) v rest)) is h))

pub number_skipped : (own key context : ℕ) (v : Value) (all rest : Parts) (slot : Slot ℕ) → (key ≡ own → ⊥)
    → LeadsNumber own all slot (part (keyed key context) v rest) → LeadsNumber own all slot rest
number_skipped own key context v all rest slot other h = skipped counted own key context v all rest slot.item slot.stands slot.again other h

views_or : (a b : Option AtomView) (x y : Option Value) → Views a x → Views b y → Views (option_or a b) (option_or x y)
views_or None b None y one two = two
views_or (Some view) b (Some value) y one two = one
views_or None b (Some value) y one two = absurd one
views_or (Some view) b None y one two = absurd one

views_as : (a b : Option AtomView) (x : Option Value) → b ≡ a → Views a x → Views b x
views_as a b x same h = subst (λ i. Views i x) (sym same) h

pub atom_taken : (counts : Value → Option Value) (own key context : ℕ) (v : Value) (all rest : Parts) (old new : Slot AtomView) (item : Option AtomView)
    → key ≡ own → Views item (counts v) → Added old new item
    → LeadsAtom counts own all old (part (keyed key context) v rest) → LeadsAtom counts own all new rest
atom_taken counts own key context v all rest old new item is views added h = (
  option_or h.0 (counts v),
  views_as (option_or old.item item) new.item (option_or h.0 (counts v)) added.item_is (views_or old.item item h.0 (counts v) h.1 views),
  renamed counts own all rest (option_or h.0 (counts v)) (option_or h.0 (counts v)) true new.stands (old.again || old.stands) new.again refl added.stands
      added.again
      (taken counts own context v all rest h.0 old.stands old.again
      (subst (λ k. Leads counts own all h.0 old.stands old.again (part (keyed k context) v rest)) is h.2)),
)

pub atom_skipped : (counts : Value → Option Value) (own key context : ℕ) (v : Value) (all rest : Parts) (slot : Slot AtomView) → (key ≡ own → ⊥)
    → LeadsAtom counts own all slot (part (keyed key context) v rest) → LeadsAtom counts own all slot rest
atom_skipped counts own key context v all rest slot other h = (
  h.0,
  h.1,
  skipped counts own key context v all rest h.0 slot.stands slot.again other h.2,
)
