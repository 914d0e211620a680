-- A property that is ready is stored.
use Rattle.std.proofs.Common.{◌≡◌, ℕ, suc, ◌≤◌, Bool, true, false, cond, List, [], length, Option, None, Some, is_some, unwrap_or, refl, sym, ap, ◌∙◌, true≢false, arith, lt-ltb}
use Rattle.std.specs.Prelude.{◌&&◌, nat_le, option_and_then, ℤ, pos, negsuc}
use Rattle.std.proofs.lemmas.Bool.{le-leb}
use Rattle.triple_store.specs.declared.term.Triple.{Triple}
use Rattle.state_store.specs.Properties.{with_property, is_mapped, are_flags, fit}
use Rattle.state_store.specs.Shelf.{Shelved, value_of, status_of}
use Rattle.state_store.specs.declared.status.TheConstants.{SUCCESS}
use Rattle.state_store.proofs.Storing.{status_done}
use Rattle.urid_map.specs.Numbers.{number_of}
use Rattle.state_file.specs.Objects.{text_in}
use Rattle.state_file.specs.States.{kind_in, flags_in, flags_term, bytes_in}
use Rattle.state_file.specs.Values.{as_flags, flags_of, integer_of}
use Rattle.state_file.specs.Reading.{key_number, prop_of}

-- flags that a text says are lawful
as-lawful : (said : Option ℤ) → is_some (as_flags said) ≡ true → are_flags (unwrap_or (as_flags said) 0) ≡ true
as-lawful None there = absurd (true≢false (sym there))
as-lawful (Some (negsuc n)) there = absurd (true≢false (sym there))
as-lawful (Some (pos n)) there = by (are_flags n) refl there
  where
    by : (b : Bool) → are_flags n ≡ b → is_some (cond b (Some n) None) ≡ true → are_flags (unwrap_or (cond b (Some n) None) 0) ≡ true
    by true lawful h = lawful
    by false lawful h = absurd (true≢false (sym h))

text-lawful : (text : Option (List ℕ)) → is_some (option_and_then flags_of text) ≡ true → are_flags (unwrap_or (option_and_then flags_of text) 0) ≡ true
text-lawful None there = absurd (true≢false (sym there))
text-lawful (Some text) there = as-lawful (integer_of text) there

flags-lawful : (rows : List Triple) (property : Triple) → is_some (flags_in rows property) ≡ true → are_flags (unwrap_or (flags_in rows property) 0) ≡ true
unfolding flags_in
flags-lawful rows property there = text-lawful (option_and_then text_in (flags_term rows property)) there

-- a number that a URI has
pub mapped-number : (urids : List (List ℕ)) (uri : List ℕ) (number : ℕ) → number ≡ number_of urids uri → number ≤ length urids → is_mapped (length urids) number ≡ true
mapped-number urids uri number same within =
    let some : suc 0 ≤ number = omega arith in
    ap (λ b. b && nat_le number (length urids)) (lt-ltb 0 number some) ∙ le-leb number (length urids) within

-- what storing it leaves
pub stored-as : (rows : List Triple) (urids : List (List ℕ)) (property : Triple) (old new : Shelved) (key kind flags status : ℕ) (bytes : List ℕ)
    → old.mapped ≡ length urids → key ≡ key_number urids property → kind ≡ number_of urids (unwrap_or (kind_in rows property) [])
    → flags ≡ unwrap_or (flags_in rows property) 0 → bytes ≡ unwrap_or (bytes_in rows property) []
    → is_mapped (length urids) key ≡ true → is_mapped (length urids) kind ≡ true → is_some (flags_in rows property) ≡ true
    → fit (with_property old.rows (key_number urids property) (prop_of rows urids property)) ≡ true
    → status ≡ status_of old key (value_of kind flags bytes) → (status ≡ SUCCESS → new ≡ record old { rows = with_property old.rows key (value_of kind flags bytes) })
    → (new.mapped ≡ old.mapped) × (new.rows ≡ with_property old.rows (key_number urids property) (prop_of rows urids property))
stored-as rows urids property old new key kind flags status bytes mapped is-key is-kind is-flags is-bytes has-key has-kind there room answered done =
    (ap (λ (shelf : Shelved). shelf.mapped) left, ap (λ (shelf : Shelved). shelf.rows) left ∙ same)
  where
    is-prop : value_of kind flags bytes ≡ prop_of rows urids property
    is-prop = λ i. record { kind = is-kind i; flags = is-flags i; bytes = is-bytes i }

    same : with_property old.rows key (value_of kind flags bytes) ≡ with_property old.rows (key_number urids property) (prop_of rows urids property)
    same = λ i. with_property old.rows (is-key i) (is-prop i)

    has-room : fit (with_property old.rows key (value_of kind flags bytes)) ≡ true
    has-room = ap fit same ∙ room

    lawful : are_flags flags ≡ true
    lawful = ap are_flags is-flags ∙ flags-lawful rows property there

    success : status ≡ SUCCESS
    success = answered ∙ sym (status_done old key (value_of kind flags bytes) (ap (λ m. is_mapped m key) mapped ∙ has-key) (ap (λ m. is_mapped m kind) mapped ∙ has-kind) lawful has-room)

    left : new ≡ record old { rows = with_property old.rows key (value_of kind flags bytes) }
    left = done success
