-- What was found is what the properties say.
use Rattle.std.proofs.Common.{◌≡◌, if◌then◌else◌, ℕ, Bool, true, false, ◌||◌, Option, Some, None, Result, Ok, Err, refl, sym, ap, ◌∙◌, subst}
use Rattle.atom_core.specs.declared.view.AtomView.{AtomView}
use Rattle.atom_core.specs.Value.{Value, Parts, none}
use Rattle.atom_core.specs.Spelling.{atom_of}
use Rattle.patch_control.specs.declared.words.TheConstants.{PROPERTY, VALUE, SUBJECT, BODY}
use Rattle.patch_control.specs.declared.message.Message.{Message}
use Rattle.patch_control.specs.declared.message.Message.TheVariants.{Get, Set, Put}
use Rattle.patch_control.specs.declared.message.PatchFault.{PatchFault}
use Rattle.patch_control.specs.declared.message.PatchFault.TheVariants.{NoProperty, NoValue, NoBody, SameKey}
use Rattle.patch_control.specs.declared.found.Found.{Found}
use Rattle.patch_control.specs.Properties.{first, repeats_key}
use Rattle.patch_control.specs.Message.{Content, get, set, put, counted, any_value, an_object, or_absent, subject_in, repeats, unless_repeated, get_in, set_with, set_in, put_with, put_in, HasContent, Reads}
use Rattle.patch_control.specs.Gathering.{Gathers, Views, repeats_in}
use Rattle.patch_control.proofs.Leading.{found}

-- all that was found, where no property is left
pub record Whole (parts : Parts) (f : Found) : Type 0 where
  pub property : f.property.item ≡ first counted PROPERTY parts
  pub subject : f.subject.item ≡ first counted SUBJECT parts
  pub value : Views f.value.item (first any_value VALUE parts)
  pub body : Views f.body.item (first an_object BODY parts)
  pub again : repeats_in f ≡ repeats parts

four : (a b c d p q r s : Bool) → a ≡ p → b ≡ q → c ≡ r → d ≡ s → (a || (b || (c || d))) ≡ (p || (q || (r || s)))
four a b c d p q r s one two three last =
    ap (λ x. x || (b || (c || d))) one ∙ ap (λ x. p || (x || (c || d))) two ∙ ap (λ x. p || (q || (x || d))) three ∙ ap (λ x. p || (q || (r || x))) last

pub whole : (parts : Parts) (f : Found) → Gathers parts f none → Whole parts f
whole parts f g =
    let p = found counted PROPERTY parts f.property.item f.property.stands f.property.again g.property in
    let s = found counted SUBJECT parts f.subject.item f.subject.stands f.subject.again g.subject in
    let v = found any_value VALUE parts g.value.0 f.value.stands f.value.again g.value.2 in
    let b = found an_object BODY parts g.body.0 f.body.stands f.body.again g.body.2 in
    record {
      property = p.item_is;
      subject = s.item_is;
      value = subst (Views f.value.item) v.item_is g.value.1;
      body = subst (Views f.body.item) b.item_is g.body.1;
      again =
          four f.property.again f.value.again f.subject.again f.body.again (repeats_key PROPERTY parts) (repeats_key VALUE parts) (repeats_key SUBJECT parts)
          (repeats_key BODY parts) p.again_is v.again_is s.again_is b.again_is;
    }

-- a message, unless a key stands twice
pub says_once : (a b : Bool) (m : Message) (content : Content) (result : Result Message PatchFault) → result ≡ (if a then Err SameKey else Ok m) → a ≡ b
    → HasContent m content → Reads result (unless_repeated b content)
says_once a b m content result is same has = subst (λ r. Reads r (unless_repeated b content)) (sym is) (at a b m content same has)
  where
    at : (a b : Bool) (m : Message) (content : Content) → a ≡ b → HasContent m content → Reads (if a then Err SameKey else Ok m) (unless_repeated b content)
    at true true m content same has = refl
    at false false m content same has = has
    at true false m content same has = absurd cc
    at false true m content same has = absurd cc

pub says_get : (parts : Parts) (f : Found) (property subject : ℕ) (result : Result Message PatchFault) → Gathers parts f none
    → property ≡ or_absent f.property.item → subject ≡ or_absent f.subject.item
    → result ≡ (if repeats_in f then Err SameKey else Ok (Get property subject)) → Reads result (get_in parts)
says_get parts f property subject result g p s is =
    let w = whole parts f g in
    says_once (repeats_in f) (repeats parts) (Get property subject) (get (or_absent (first counted PROPERTY parts)) (subject_in parts)) result is w.again
    (p ∙ ap or_absent w.property, s ∙ ap or_absent w.subject)

pub no_property : (parts : Parts) (f : Found) → Gathers parts f none → f.property.item ≡ None → set_in parts ≡ Err NoProperty
no_property parts f g empty =
    let w = whole parts f g in
    ap (λ (p : Option ℕ). set_with p (first any_value VALUE parts) (subject_in parts) (repeats parts)) (sym w.property ∙ empty)

views_none : (x : Option Value) → Views None x → x ≡ None
views_none None h = refl
views_none (Some v) h = absurd h

record Viewed (view : AtomView) (x : Option Value) : Type 0 where
  value : Value
  is : x ≡ Some value
  bytes : view.bytes.now ≡ atom_of value

viewed : (view : AtomView) (x : Option Value) → Views (Some view) x → Viewed view x
viewed view (Some value) h = record { value = value; is = refl; bytes = h }
viewed view None h = absurd h

pub no_value : (parts : Parts) (f : Found) (property : ℕ) → Gathers parts f none → f.property.item ≡ Some property → f.value.item ≡ None
    → set_in parts ≡ Err NoValue
no_value parts f property g has empty =
    let w = whole parts f g in
    let p : first counted PROPERTY parts ≡ Some property = sym w.property ∙ has in
    let v : first any_value VALUE parts ≡ None = views_none (first any_value VALUE parts) (subst (λ x. Views x (first any_value VALUE parts)) empty w.value) in
    ap (λ (x : Option ℕ). set_with x (first any_value VALUE parts) (subject_in parts) (repeats parts)) p
    ∙ ap (λ (x : Option Value). set_with (Some property) x (subject_in parts) (repeats parts)) v

pub says_set : (parts : Parts) (f : Found) (property subject : ℕ) (view : AtomView) (result : Result Message PatchFault) → Gathers parts f none
    → f.property.item ≡ Some property → subject ≡ or_absent f.subject.item → f.value.item ≡ Some view
    → result ≡ (if repeats_in f then Err SameKey else Ok (Set property subject view)) → Reads result (set_in parts)
says_set parts f property subject view result g has s some is =
    let w = whole parts f g in
    let p : first counted PROPERTY parts ≡ Some property = sym w.property ∙ has in
    let v = viewed view (first any_value VALUE parts) (subst (λ x. Views x (first any_value VALUE parts)) some w.value) in
    let says : set_in parts ≡ unless_repeated (repeats parts) (set property (subject_in parts) v.value) =
    ap (λ (x : Option ℕ). set_with x (first any_value VALUE parts) (subject_in parts) (repeats parts)) p
    ∙ ap (λ (x : Option Value). set_with (Some property) x (subject_in parts) (repeats parts)) v.is in
    subst (Reads result) (sym says)
    (says_once (repeats_in f) (repeats parts) (Set property subject view) (set property (subject_in parts) v.value) result is w.again
    (refl, s ∙ ap or_absent w.subject, v.bytes))

pub no_body : (parts : Parts) (f : Found) → Gathers parts f none → f.body.item ≡ None → put_in parts ≡ Err NoBody
no_body parts f g empty =
    let w = whole parts f g in
    let b : first an_object BODY parts ≡ None = views_none (first an_object BODY parts) (subst (λ x. Views x (first an_object BODY parts)) empty w.body) in
    ap (λ (x : Option Value). put_with x (subject_in parts) (repeats parts)) b

pub says_put : (parts : Parts) (f : Found) (subject : ℕ) (view : AtomView) (result : Result Message PatchFault) → Gathers parts f none
    → subject ≡ or_absent f.subject.item → f.body.item ≡ Some view
    → result ≡ (if repeats_in f then Err SameKey else Ok (Put subject view)) → Reads result (put_in parts)
says_put parts f subject view result g s some is =
    let w = whole parts f g in
    let b = viewed view (first an_object BODY parts) (subst (λ x. Views x (first an_object BODY parts)) some w.body) in
    let says : put_in parts ≡ unless_repeated (repeats parts) (put (subject_in parts) b.value) =
    ap (λ (x : Option Value). put_with x (subject_in parts) (repeats parts)) b.is in
    subst (Reads result) (sym says)
    (says_once (repeats_in f) (repeats parts) (Put subject view) (put (subject_in parts) b.value) result is w.again
    (s ∙ ap or_absent w.subject, b.bytes))

-- a fault that is the properties'
pub says_fault : (result : Result Message PatchFault) (said : Result Content PatchFault) (fault : PatchFault) → result ≡ Err fault
    → said ≡ Err fault → Reads result said
says_fault result said fault one two = subst (λ r. Reads r said) (sym one) (subst (Reads (Err fault)) (sym two) refl)
