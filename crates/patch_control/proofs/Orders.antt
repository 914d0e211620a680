-- Two properties change places: the same keys stand, repeat and count, and where a key stands once the same counts.
use Rattle.std.proofs.Common.{◌≡◌, ◌==◌, if◌then◌else◌, ℕ, Bool, true, false, ◌&&◌, ◌||◌, Option, Some, None, Result, Ok, refl, ap, ◌∙◌}
use Rattle.std.specs.Option.{option_or}
use Rattle.atom_core.specs.Value.{Lead, bare, keyed, timed, Value, Parts, part}
use Rattle.patch_control.specs.declared.words.TheConstants.{GET, SET, PUT, PROPERTY, VALUE, SUBJECT, BODY}
use Rattle.patch_control.specs.declared.message.PatchFault.{PatchFault}
use Rattle.patch_control.specs.Properties.{first, has_key, repeats_key}
use Rattle.patch_control.specs.Message.{Content, get, set, put, other, counted, any_value, an_object, or_absent, repeats, unless_repeated, set_with, put_with, get_in, set_in, put_in, of_kind}
use Rattle.patch_control.specs.Laws.{Swapped, here, later, AnyOrder}

-- what a key has, with one more property
abbrev first_at : {A : Type 0} → Bool → Option A → Option A → Option A
first_at at item rest = if at then option_or item rest else rest

abbrev some : {A : Type 0} → Option A → Bool
some None = false
some (Some x) = true

-- two answers that agree in whether there is one, and are the same where the key doesn't repeat
pub record Alike {A : Type 0} (has more : Bool) (again twice : Bool) (old new : Option A) : Type 0 where
  pub has_is : has ≡ more
  pub again_is : again ≡ twice
  pub some_is : some old ≡ some new
  pub same : again ≡ false → old ≡ new

later_alike : {A : Type 0} (at has more again twice : Bool) (item old new : Option A) → Alike has more again twice old new
    → Alike (at || has) (at || more) ((at && has) || again) ((at && more) || twice) (first_at at item old) (first_at at item new)
later_alike false has more again twice item old new h = h
later_alike true true more again twice None old new h = record { has_is = refl; again_is = ap (λ b. b || twice) h.has_is; some_is = h.some_is; same = λ e. absurd cc }
later_alike true true more again twice (Some x) old new h = record { has_is = refl; again_is = ap (λ b. b || twice) h.has_is; some_is = refl; same = λ e. refl }
later_alike true false more again twice None old new h = record {
  has_is = refl;
  again_is = h.again_is ∙ ap (λ b. b || twice) h.has_is;
  some_is = h.some_is;
  same = h.same;
}
later_alike true false more again twice (Some x) old new h = record {
  has_is = refl;
  again_is = h.again_is ∙ ap (λ b. b || twice) h.has_is;
  some_is = refl;
  same = λ e. refl;
}

here_alike : {A : Type 0} (a b has again : Bool) (x y rest : Option A)
    → Alike (a || (b || has)) (b || (a || has)) ((a && (b || has)) || ((b && has) || again)) ((b && (a || has)) || ((a && has) || again))
    (first_at a x (first_at b y rest)) (first_at b y (first_at a x rest))
here_alike false b has again x y rest = swapped_once b has again y rest
  where
    swapped_once : {A : Type 0} (b has again : Bool) (y rest : Option A)
        → Alike (b || has) (b || has) ((b && has) || again) ((b && has) || again) (first_at b y rest) (first_at b y rest)
    swapped_once b has again y rest = record { has_is = refl; again_is = refl; some_is = refl; same = λ e. refl }
here_alike true false has again x y rest = record { has_is = refl; again_is = refl; some_is = refl; same = λ e. refl }
here_alike true true has again None None rest = record { has_is = refl; again_is = refl; some_is = refl; same = λ e. absurd cc }
here_alike true true has again None (Some y) rest = record { has_is = refl; again_is = refl; some_is = refl; same = λ e. absurd cc }
here_alike true true has again (Some x) None rest = record { has_is = refl; again_is = refl; some_is = refl; same = λ e. absurd cc }
here_alike true true has again (Some x) (Some y) rest = record { has_is = refl; again_is = refl; some_is = refl; same = λ e. absurd cc }

-- what a key has in two lists of properties
abbrev AlikeAt : {A : Type 0} → (Value → Option A) → ℕ → Parts → Parts → Type 0
AlikeAt counts own old new = Alike (has_key own old) (has_key own new) (repeats_key own old) (repeats_key own new) (first counts own old) (first counts own new)

changed : {A : Type 0} (counts : Value → Option A) (own : ℕ) (l m : Lead) (v w : Value) (parts : Parts)
    → AlikeAt counts own (part l v (part m w parts)) (part m w (part l v parts))
changed counts own bare bare v w parts = here_alike false false (has_key own parts) (repeats_key own parts) (counts v) (counts w) (first counts own parts)
changed counts own bare (keyed k c) v w parts = here_alike false (k == own) (has_key own parts) (repeats_key own parts) (counts v) (counts w) (first counts own parts)
changed counts own bare (timed t) v w parts = here_alike false false (has_key own parts) (repeats_key own parts) (counts v) (counts w) (first counts own parts)
changed counts own (keyed j b) bare v w parts = here_alike (j == own) false (has_key own parts) (repeats_key own parts) (counts v) (counts w) (first counts own parts)
changed counts own (keyed j b) (keyed k c) v w parts =
    here_alike (j == own) (k == own) (has_key own parts) (repeats_key own parts) (counts v) (counts w) (first counts own parts)
changed counts own (keyed j b) (timed t) v w parts = here_alike (j == own) false (has_key own parts) (repeats_key own parts) (counts v) (counts w) (first counts own parts)
changed counts own (timed s) bare v w parts = here_alike false false (has_key own parts) (repeats_key own parts) (counts v) (counts w) (first counts own parts)
changed counts own (timed s) (keyed k c) v w parts = here_alike false (k == own) (has_key own parts) (repeats_key own parts) (counts v) (counts w) (first counts own parts)
changed counts own (timed s) (timed t) v w parts = here_alike false false (has_key own parts) (repeats_key own parts) (counts v) (counts w) (first counts own parts)

one_before : {A : Type 0} (counts : Value → Option A) (own : ℕ) (l : Lead) (v : Value) (old new : Parts) → AlikeAt counts own old new
    → AlikeAt counts own (part l v old) (part l v new)
one_before counts own bare v old new h = h
one_before counts own (keyed k c) v old new h =
    later_alike (k == own) (has_key own old) (has_key own new) (repeats_key own old) (repeats_key own new) (counts v) (first counts own old) (first counts own new) h
one_before counts own (timed t) v old new h = h

alike : {A : Type 0} (counts : Value → Option A) (own : ℕ) (old new : Parts) → Swapped old new → AlikeAt counts own old new
alike counts own _ _ (here l m v w parts) = changed counts own l m v w parts
alike counts own _ _ (later l v old new s) = one_before counts own l v old new (alike counts own old new s)

-- messages and faults by what the keys have
once_same : (a b : Bool) (c d : Content) → a ≡ b → (a ≡ false → c ≡ d) → unless_repeated a c ≡ unless_repeated b d
once_same true true c d same says = refl
once_same false false c d same says = ap (λ x. Ok x) (says refl)
once_same true false c d same says = absurd cc
once_same false true c d same says = absurd cc

abbrev value_or : Value → Option Value → Value
value_or v None = v
value_or v (Some w) = w

set_same : (p q : Option ℕ) (v w : Option Value) (s t : ℕ) (a b : Bool) → some p ≡ some q → some v ≡ some w → a ≡ b
    → (a ≡ false → (p ≡ q) × (v ≡ w) × (s ≡ t)) → set_with p v s a ≡ set_with q w t b
set_same None None v w s t a b ep ev same says = refl
set_same (Some p) (Some q) None None s t a b ep ev same says = refl
set_same (Some p) (Some q) (Some v) (Some w) s t a b ep ev same says =
    once_same a b (set p s v) (set q t w) same (λ e. set_is p q v w s t (says e).0 (says e).1 (says e).2)
  where
    set_is : (p q : ℕ) (v w : Value) (s t : ℕ) → Some p ≡ Some q → Some v ≡ Some w → s ≡ t → set p s v ≡ set q t w
    set_is p q v w s t one two three =
        ap (λ x. set (or_absent x) s v) one ∙ ap (λ x. set q s (value_or v x)) two ∙ ap (λ x. set q x w) three
set_same (Some p) (Some q) None (Some w) s t a b ep ev same says = absurd cc
set_same (Some p) (Some q) (Some v) None s t a b ep ev same says = absurd cc
set_same None (Some q) v w s t a b ep ev same says = absurd cc
set_same (Some p) None v w s t a b ep ev same says = absurd cc

put_same : (v w : Option Value) (s t : ℕ) (a b : Bool) → some v ≡ some w → a ≡ b → (a ≡ false → (v ≡ w) × (s ≡ t)) → put_with v s a ≡ put_with w t b
put_same None None s t a b ev same says = refl
put_same (Some v) (Some w) s t a b ev same says = once_same a b (put s v) (put t w) same (λ e. put_is v w s t (says e).0 (says e).1)
  where
    put_is : (v w : Value) (s t : ℕ) → Some v ≡ Some w → s ≡ t → put s v ≡ put t w
    put_is v w s t one two = ap (λ x. put s (value_or v x)) one ∙ ap (λ x. put x w) two
put_same None (Some w) s t a b ev same says = absurd cc
put_same (Some v) None s t a b ev same says = absurd cc

four : (a b c d p q r s : Bool) → a ≡ p → b ≡ q → c ≡ r → d ≡ s → (a || (b || (c || d))) ≡ (p || (q || (r || s)))
four a b c d p q r s one two three last =
    ap (λ x. x || (b || (c || d))) one ∙ ap (λ x. p || (x || (c || d))) two ∙ ap (λ x. p || (q || (x || d))) three ∙ ap (λ x. p || (q || (r || x))) last

none_of : (a b c d : Bool) → (a || (b || (c || d))) ≡ false → (a ≡ false) × (b ≡ false) × (c ≡ false) × (d ≡ false)
none_of false false false false e = (refl, refl, refl, refl)
none_of true b c d e = absurd cc
none_of false true c d e = absurd cc
none_of false false true d e = absurd cc
none_of false false false true e = absurd cc

of_kind_same : (kind : ℕ) (old new : Parts) → Swapped old new → of_kind kind old ≡ of_kind kind new
of_kind_same kind old new s =
    let p = alike counted PROPERTY old new s in
    let v = alike any_value VALUE old new s in
    let t = alike counted SUBJECT old new s in
    let b = alike an_object BODY old new s in
    let same : repeats old ≡ repeats new =
    four (repeats_key PROPERTY old) (repeats_key VALUE old) (repeats_key SUBJECT old) (repeats_key BODY old) (repeats_key PROPERTY new) (repeats_key VALUE new)
    (repeats_key SUBJECT new) (repeats_key BODY new) p.again_is v.again_is t.again_is b.again_is in
    let none = none_of (repeats_key PROPERTY old) (repeats_key VALUE old) (repeats_key SUBJECT old) (repeats_key BODY old) in
    let gets : get_in old ≡ get_in new =
    once_same (repeats old) (repeats new) _ _ same (λ e.
    ap (λ (x : Option ℕ). get (or_absent x) (or_absent (first counted SUBJECT old))) (p.same (none e).0)
    ∙ ap (λ (x : Option ℕ). get (or_absent (first counted PROPERTY new)) (or_absent x)) (t.same (none e).2)) in
    let sets : set_in old ≡ set_in new =
    set_same (first counted PROPERTY old) (first counted PROPERTY new) (first any_value VALUE old) (first any_value VALUE new) _ _ (repeats old) (repeats new)
    p.some_is v.some_is same (λ e. (p.same (none e).0, v.same (none e).1, ap or_absent (t.same (none e).2))) in
    let puts : put_in old ≡ put_in new =
    put_same (first an_object BODY old) (first an_object BODY new) _ _ (repeats old) (repeats new) b.some_is same
    (λ e. (b.same (none e).3, ap or_absent (t.same (none e).2))) in
    ap (λ (x : Result Content PatchFault). if kind == GET then x else if kind == SET then set_in old else if kind == PUT then put_in old else Ok other) gets
    ∙ ap (λ (x : Result Content PatchFault). if kind == GET then get_in new else if kind == SET then x else if kind == PUT then put_in old else Ok other) sets
    ∙ ap (λ (x : Result Content PatchFault). if kind == GET then get_in new else if kind == SET then set_in new else if kind == PUT then x else Ok other) puts

pub any_order : AnyOrder
any_order id kind old new s = of_kind_same kind old new s
