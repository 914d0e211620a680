-- An atom is a message by its bytes exactly where its value says one.
use Rattle.std.proofs.Common.{◌≡◌, ℕ, zero, suc, pred, ◌+◌, ◌^◌, ◌<◌, ◌==◌, nat_lt, if◌then◌else◌, Bool, true, false, not, ◌&&◌, ◌||◌, List, [], ◌∷◌, ◌++◌, length, drop, filter, Option, Some, None, Result, Ok, Err, refl, sym, ap, ◌∙◌, subst, append_assoc, arith}
use Rattle.std.specs.Prelude.{is_ok, is_some}
use Rattle.std.specs.List.{list_any}
use Rattle.std.specs.Option.{option_or}
use Rattle.std.specs.Int.{w32, from_le_bytes}
use Rattle.std.proofs.lemmas.Bool.{eqb-true, lt-ltb}
use Rattle.std.proofs.lemmas.List.{append-nil, drop_at}
use Rattle.atom_core.specs.declared.form.Form.TheVariants.{Any, Object}
use Rattle.atom_core.specs.Form.{form_of}
use Rattle.atom_core.specs.Place.{number_at}
use Rattle.atom_core.specs.Value.{Plain, int, long, boolean, urid, string, literal, vector, float, double, fixed, uri, path, other, tuple, object, sequence, bare, keyed, timed, Value, plain, holding, Parts, none, part}
use Rattle.atom_core.specs.Spelling.{u32, plain_kind, kind_of, body_of, parts_of}
use Rattle.atom_core.specs.Fits.{PlainFits, Fits, PartsFit}
use Rattle.atom_core.specs.Answer.{most_containers}
use Rattle.atom_core.proofs.Numbers.{u32-length}
use Rattle.patch_control.specs.declared.words.TheConstants.{GET, SET, PUT, PROPERTY, VALUE, SUBJECT, BODY}
use Rattle.patch_control.specs.declared.message.PatchFault.{PatchFault}
use Rattle.patch_control.specs.Properties.{first, has_key, repeats_key}
use Rattle.patch_control.specs.Message.{Content, nonzero, counted, any_value, an_object, repeats, unless_repeated, get_in, set_with, set_in, put_with, put_in, of_kind, message_of}
use Rattle.session_play.specs.Patch.{Property, properties_of, with_key, is_uri, is_object, is_twice, is_set, is_put, is_message_of, is_message}
use Rattle.port_atoms.specs.Read.{properties_in}
use Rattle.port_atoms.proofs.Parted.{number_first, number_fourth, front}
use Rattle.port_atoms.proofs.Listed.{properties_spelled}

-- ---- how often a key stands

one_more : (n : ℕ) → nat_lt 0 (suc n) ≡ true
one_more n = lt-ltb 0 (suc n) (omega arith)

over_one : (n : ℕ) → nat_lt 1 (suc n) ≡ nat_lt 0 n
over_one zero = refl
over_one (suc n) = lt-ltb 1 (suc (suc n)) (omega arith) ∙ sym (one_more n)

over_none : (n : ℕ) → (nat_lt 0 n || nat_lt 1 n) ≡ nat_lt 0 n
over_none zero = refl
over_none (suc n) = rw (one_more n) refl

stands : (key : ℕ) (ps : Parts) → nat_lt 0 (length (with_key key (properties_in ps))) ≡ has_key key ps
stands key none = refl
stands key (part bare v ps) = stands key ps
stands key (part (timed t) v ps) = stands key ps
stands key (part (keyed k c) v ps) = by (stands key ps) (k == key) refl
  where
    by : nat_lt 0 (length (with_key key (properties_in ps))) ≡ has_key key ps → (b : Bool) → (k == key) ≡ b
        → nat_lt 0 (length (with_key key (properties_in (part (keyed k c) v ps)))) ≡ (k == key || has_key key ps)
    by more true e = rw e (one_more (length (with_key key (properties_in ps))))
    by more false e = rw e more

repeated : (key : ℕ) (ps : Parts) → nat_lt 1 (length (with_key key (properties_in ps))) ≡ repeats_key key ps
repeated key none = refl
repeated key (part bare v ps) = repeated key ps
repeated key (part (timed t) v ps) = repeated key ps
repeated key (part (keyed k c) v ps) = by (repeated key ps) (k == key) refl
  where
    by : nat_lt 1 (length (with_key key (properties_in ps))) ≡ repeats_key key ps → (b : Bool) → (k == key) ≡ b
        → nat_lt 1 (length (with_key key (properties_in (part (keyed k c) v ps)))) ≡ ((k == key && has_key key ps) || repeats_key key ps)
    by more true e =
        let n : ℕ = length (with_key key (properties_in ps)) in
        rw e (over_one n ∙ sym (over_none n) ∙ ap (λ b. b || nat_lt 1 n) (stands key ps) ∙ ap (λ b. has_key key ps || b) more)
    by more false e = rw e more

last_or : (a b c d : Bool) → (a || (b || (c || (d || false)))) ≡ (a || (b || (c || d)))
last_or true b c d = refl
last_or false true c d = refl
last_or false false true d = refl
last_or false false false true = refl
last_or false false false false = refl

twice : (ps : Parts) → is_twice (properties_in ps) ≡ repeats ps
twice ps =
    last_or (over PROPERTY) (over VALUE) (over SUBJECT) (over BODY)
    ∙ ap (λ b. b || (over VALUE || (over SUBJECT || over BODY))) (repeated PROPERTY ps)
    ∙ ap (λ b. repeats_key PROPERTY ps || (b || (over SUBJECT || over BODY))) (repeated VALUE ps)
    ∙ ap (λ b. repeats_key PROPERTY ps || (repeats_key VALUE ps || (b || over BODY))) (repeated SUBJECT ps)
    ∙ ap (λ b. repeats_key PROPERTY ps || (repeats_key VALUE ps || (repeats_key SUBJECT ps || b))) (repeated BODY ps)
  where
    over : ℕ → Bool
    over key = nat_lt 1 (length (with_key key (properties_in ps)))

-- ---- whether a property counts

some_or : {A : Type 0} → (a b : Option A) → is_some (option_or a b) ≡ (is_some a || is_some b)
some_or None b = refl
some_or (Some x) b = refl

-- a test of properties tells whether their values count
abbrev Tells : {A : Type 0} → ℕ → (Property → Bool) → (Value → Option A) → Type 0
Tells n test counts = (k : ℕ) (v : Value) → Fits n v → test (record { key = k; kind = kind_of v; body = body_of v }) ≡ is_some (counts v)

found : {A : Type 0} → (n : ℕ) (test : Property → Bool) (counts : Value → Option A) → Tells (pred n) test counts → (key : ℕ) (ps : Parts) → PartsFit n Object ps
    → list_any test (with_key key (properties_in ps)) ≡ is_some (first counts key ps)
found n test counts tells key none fits = refl
found n test counts tells key (part bare v ps) fits = absurd (fits.1)
found n test counts tells key (part (timed t) v ps) fits = absurd (fits.1)
found n test counts tells key (part (keyed k c) v ps) fits = by (found n test counts tells key ps fits.3) (k == key) refl
  where
    by : list_any test (with_key key (properties_in ps)) ≡ is_some (first counts key ps) → (b : Bool) → (k == key) ≡ b
        → list_any test (with_key key (properties_in (part (keyed k c) v ps))) ≡ is_some (if k == key then option_or (counts v) (first counts key ps) else first counts key ps)
    by more true e =
        rw e
        (ap (λ b. b || list_any test (with_key key (properties_in ps))) (tells k v fits.2)
        ∙ ap (λ b. is_some (counts v) || b) more
        ∙ sym (some_or (counts v) (first counts key ps)))
    by more false e = rw e more

-- a type of any bytes is no type with a form
apart : (kind other_kind : ℕ) → form_of kind ≡ Any → (form_of other_kind ≡ Any → ⊥) → (kind == other_kind) ≡ false
apart kind other_kind any not_any = by (kind == other_kind) refl
  where
    by : (b : Bool) → (kind == other_kind) ≡ b → (kind == other_kind) ≡ false
    by false e = e
    by true e = absurd (not_any (subst (λ k. form_of k ≡ Any) (eqb-true kind other_kind e) any))

four_form : form_of 4 ≡ Any → ⊥
unfolding form_of
four_form e = absurd cc

nine_form : form_of 9 ≡ Any → ⊥
unfolding form_of
nine_form e = absurd cc

some_number : (n : ℕ) → nat_lt 0 n ≡ is_some (nonzero (Some n))
some_number zero = refl
some_number (suc n) = one_more n

and_false : (a b : Bool) → a ≡ false → (a && b) ≡ false
and_false true b e = absurd cc
and_false false b e = refl

uri_tells : (n k : ℕ) (v : Value) → Fits n v → is_uri (record { key = k; kind = kind_of v; body = body_of v }) ≡ is_some (counted v)
uri_tells n k (plain (urid m)) fits =
    ap (nat_lt 0) (number_first (u32 m) ∙ ap (from_le_bytes w32) (sym (append-nil (u32 m))) ∙ front m [] fits.0) ∙ some_number m
uri_tells n k (plain (other kind bytes)) fits = and_false (kind == 4) (nat_lt 0 (number_at bytes 0)) (apart kind 4 fits.0.1 four_form)
uri_tells n k (plain (int z)) fits = refl
uri_tells n k (plain (long z)) fits = refl
uri_tells n k (plain (boolean z)) fits = refl
uri_tells n k (plain (string text)) fits = refl
uri_tells n k (plain (literal datatype lang text)) fits = refl
uri_tells n k (plain (vector size kind elements)) fits = refl
uri_tells n k (plain (float bytes)) fits = refl
uri_tells n k (plain (double bytes)) fits = refl
uri_tells n k (plain (fixed z)) fits = refl
uri_tells n k (plain (uri text)) fits = refl
uri_tells n k (plain (path text)) fits = refl
uri_tells n k (holding tuple ps) fits = refl
uri_tells n k (holding (object id kind) ps) fits = refl
uri_tells n k (holding sequence ps) fits = refl

-- only an object's type is that of objects
plain_apart : (p : Plain) → PlainFits p → (plain_kind p == 9) ≡ false
plain_apart (other kind bytes) fits = apart kind 9 fits.1 nine_form
plain_apart (urid m) fits = refl
plain_apart (int z) fits = refl
plain_apart (long z) fits = refl
plain_apart (boolean z) fits = refl
plain_apart (string text) fits = refl
plain_apart (literal datatype lang text) fits = refl
plain_apart (vector size kind elements) fits = refl
plain_apart (float bytes) fits = refl
plain_apart (double bytes) fits = refl
plain_apart (fixed z) fits = refl
plain_apart (uri text) fits = refl
plain_apart (path text) fits = refl

object_tells : (n k : ℕ) (v : Value) → Fits n v → is_object (record { key = k; kind = kind_of v; body = body_of v }) ≡ is_some (an_object v)
object_tells n k (plain p) fits = plain_apart p fits.0
object_tells n k (holding tuple ps) fits = refl
object_tells n k (holding (object id kind) ps) fits = refl
object_tells n k (holding sequence ps) fits = refl

-- ---- what a message says

any_there : (properties : List Property) → list_any (λ _. true) properties ≡ nat_lt 0 (length properties)
any_there [] = refl
any_there (it ∷ properties) = sym (one_more (length properties))

once_ok : (again : Bool) (content : Content) → is_ok (unless_repeated again content) ≡ not again
once_ok true content = refl
once_ok false content = refl

set_ok : (property : Option ℕ) (value : Option Value) (subject : ℕ) (again : Bool)
    → is_ok (set_with property value subject again) ≡ ((is_some property && is_some value) && not again)
set_ok None value subject again = refl
set_ok (Some p) None subject again = refl
set_ok (Some p) (Some v) subject again = once_ok again _

put_ok : (body : Option Value) (subject : ℕ) (again : Bool) → is_ok (put_with body subject again) ≡ (is_some body && not again)
put_ok None subject again = refl
put_ok (Some body) subject again = once_ok again _

get_said : (ps : Parts) → not (is_twice (properties_in ps)) ≡ is_ok (get_in ps)
get_said ps = ap not (twice ps) ∙ sym (once_ok (repeats ps) _)

set_said : (n : ℕ) (ps : Parts) → PartsFit n Object ps → (is_set (properties_in ps) && not (is_twice (properties_in ps))) ≡ is_ok (set_in ps)
set_said n ps fits =
    let names : list_any is_uri (with_key PROPERTY (properties_in ps)) ≡ is_some (first counted PROPERTY ps) = found n is_uri counted (uri_tells (pred n)) PROPERTY ps fits in
    let values : nat_lt 0 (length (with_key VALUE (properties_in ps))) ≡ is_some (first any_value VALUE ps) =
    sym (any_there (with_key VALUE (properties_in ps))) ∙ found n (λ _. true) any_value (λ k v fit. refl) VALUE ps fits in
    ap (λ b. (b && nat_lt 0 (length (with_key VALUE (properties_in ps)))) && not (is_twice (properties_in ps))) names
    ∙ ap (λ b. (is_some (first counted PROPERTY ps) && b) && not (is_twice (properties_in ps))) values
    ∙ ap (λ b. (is_some (first counted PROPERTY ps) && is_some (first any_value VALUE ps)) && not b) (twice ps)
    ∙ sym (set_ok (first counted PROPERTY ps) (first any_value VALUE ps) _ (repeats ps))

put_said : (n : ℕ) (ps : Parts) → PartsFit n Object ps → (is_put (properties_in ps) && not (is_twice (properties_in ps))) ≡ is_ok (put_in ps)
put_said n ps fits =
    ap (λ b. b && not (is_twice (properties_in ps))) (found n is_object an_object (object_tells (pred n)) BODY ps fits)
    ∙ ap (λ b. is_some (first an_object BODY ps) && not b) (twice ps)
    ∙ sym (put_ok (first an_object BODY ps) _ (repeats ps))

choice : (is_get is_set is_put a b c : Bool) (x y z w : Result Content PatchFault) → a ≡ is_ok x → b ≡ is_ok y → c ≡ is_ok z → true ≡ is_ok w
    → (if is_get then a else if is_set then b else if is_put then c else true) ≡ is_ok (if is_get then x else if is_set then y else if is_put then z else w)
choice true is_set is_put a b c x y z w e f g h = e
choice false true is_put a b c x y z w e f g h = f
choice false false true a b c x y z w e f g h = g
choice false false false a b c x y z w e f g h = h

kind_said : (n kind : ℕ) (ps : Parts) → PartsFit n Object ps → is_message_of kind (properties_in ps) ≡ is_ok (of_kind kind ps)
kind_said n kind ps fits =
    choice (kind == GET) (kind == SET) (kind == PUT) (not (is_twice (properties_in ps))) (is_set (properties_in ps) && not (is_twice (properties_in ps)))
    (is_put (properties_in ps) && not (is_twice (properties_in ps))) (get_in ps) (set_in ps) (put_in ps) _ (get_said ps) (set_said n ps fits) (put_said n ps fits) refl

-- the type of an object stands after its id
kind_read : (id kind : ℕ) (rest : List ℕ) → kind < 2 ^ 32 → number_at ((u32 id ++ u32 kind) ++ rest) 4 ≡ kind
kind_read id kind rest small =
    number_fourth ((u32 id ++ u32 kind) ++ rest)
    ∙ ap (λ l. from_le_bytes w32 (drop 4 l)) (append_assoc (u32 id) (u32 kind) rest)
    ∙ ap (from_le_bytes w32) (drop_at (u32 id) (u32 kind ++ rest) 4 (u32-length id))
    ∙ front kind rest small

pub messages_spelled : (v : Value) → Fits most_containers v → is_message (kind_of v) (body_of v) ≡ is_ok (message_of v)
unfolding form_of
messages_spelled (plain p) fits = and_false (plain_kind p == 9) _ (plain_apart p fits.0)
messages_spelled (holding tuple ps) fits = refl
messages_spelled (holding sequence ps) fits = refl
messages_spelled (holding (object id kind) ps) fits =
    ap (λ k. is_message_of k (properties_of (body_of (holding (object id kind) ps)))) (kind_read id kind (parts_of ps) fits.0.1)
    ∙ ap (is_message_of kind) (properties_spelled id kind ps fits)
    ∙ kind_said most_containers kind ps fits.2
