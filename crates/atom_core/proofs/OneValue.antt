-- No bytes spell two values: a value is read back from its kind and its body.
use Rattle.std.proofs.Common.{◌≡◌, ℕ, pred, ◌-◌, ◌^◌, ◌<◌, ◌==◌, if◌then◌else◌, true, false, List, [], ◌∷◌, ◌++◌, length, take, drop, replicate, ℤ, FitsSigned, refl, sym, ap, ◌∙◌, subst, append_assoc, arith}
use Rattle.std.specs.Int.{w32, w64, from_le_bytes, cast_signed, cast_unsigned}
use Rattle.std.proofs.Math.Facts.{Fits-of_z}
use Rattle.std.proofs.lemmas.Int.{to_z-of_z}
use Rattle.std.proofs.lemmas.Nat.{from_le_bytes-to_le_bytes_4, from_le_bytes-to_le_bytes_8}
use Rattle.std.proofs.lemmas.List.{take_at, drop_at, length-append}
use Rattle.atom_core.specs.declared.form.Form.{Form}
use Rattle.atom_core.specs.declared.form.Form.TheVariants.{Any, Four, Eight, Text, Literal, Vector, Tuple, Object, Sequence}
use Rattle.atom_core.specs.Form.{form_of, is_container, lead_len}
use Rattle.atom_core.specs.Place.{padded}
use Rattle.atom_core.specs.Value.{Plain, int, long, boolean, urid, string, literal, vector, float, double, fixed, uri, path, other, Container, tuple, object, sequence, Lead, bare, keyed, timed, Value, plain, holding, Parts, none, part}
use Rattle.atom_core.specs.Spelling.{u32, i32, i64, ended, plain_kind, plain_body, container_kind, container_head, lead_bytes, framed, with_padding, kind_of, body_of, parts_of, atom_of, part_of}
use Rattle.atom_core.specs.Fits.{PlainFits, ContainerFits, LeadFits, Fits, PartsFit}
use Rattle.atom_core.proofs.Numbers.{u32-length, i64-length}

-- ---- lists

pub front_one : (a b x y : List ℕ) → length a ≡ length b → a ++ x ≡ b ++ y → a ≡ b
front_one a b x y len e = sym (take_at a x (length a) refl) ∙ ap (take (length a)) e ∙ take_at b y (length a) (sym len)

pub rest_one : (a b x y : List ℕ) → length a ≡ length b → a ++ x ≡ b ++ y → x ≡ y
rest_one a b x y len e = sym (drop_at a x (length a) refl) ∙ ap (drop (length a)) e ∙ drop_at b y (length a) (sym len)

-- ---- numbers

pub u32_back : (n : ℕ) → n < 2 ^ 32 → from_le_bytes w32 (u32 n) ≡ n
unfolding u32
u32_back n lt = from_le_bytes-to_le_bytes_4 n lt

i32_back : (z : ℤ) → FitsSigned w32 z → cast_signed w32 (from_le_bytes w32 (i32 z)) ≡ z
unfolding i32
i32_back z fits = ap (cast_signed w32) (from_le_bytes-to_le_bytes_4 (cast_unsigned w32 z) (omega (arith, Fits-of_z {w = w32} {z = z} fits))) ∙ to_z-of_z w32 z fits

pub i64_back : (z : ℤ) → FitsSigned w64 z → cast_signed w64 (from_le_bytes w64 (i64 z)) ≡ z
unfolding i64
i64_back z fits = ap (cast_signed w64) (from_le_bytes-to_le_bytes_8 (cast_unsigned w64 z) (omega (arith, Fits-of_z {w = w64} {z = z} fits))) ∙ to_z-of_z w64 z fits

u32_one : (m n : ℕ) → m < 2 ^ 32 → n < 2 ^ 32 → u32 m ≡ u32 n → m ≡ n
u32_one m n small few e = sym (u32_back m small) ∙ ap (from_le_bytes w32) e ∙ u32_back n few

i64_one : (y z : ℤ) → FitsSigned w64 y → FitsSigned w64 z → i64 y ≡ i64 z → y ≡ z
i64_one y z small few e = sym (i64_back y small) ∙ ap (λ l. cast_signed w64 (from_le_bytes w64 l)) e ∙ i64_back z few

-- ---- values without atoms

abbrev pub text_in : List ℕ → List ℕ
text_in body = take (length body - 1) body

text_back : (text : List ℕ) → text_in (ended text) ≡ text
text_back text = take_at text (0 ∷ []) (length (ended text) - 1) (omega (arith, length-append text (0 ∷ [])))

abbrev pub number_in : List ℕ → ℕ
number_in body = from_le_bytes w32 (take 4 body)

unfoldable pub plain_by : Form → ℕ → List ℕ → Plain
plain_by Any kind body = other kind body
plain_by Four kind body =
    if kind == 1 then int (cast_signed w32 (from_le_bytes w32 body)) else
    if kind == 3 then boolean (cast_signed w32 (from_le_bytes w32 body)) else
    if kind == 4 then urid (from_le_bytes w32 body) else float body
plain_by Eight kind body =
    if kind == 2 then long (cast_signed w64 (from_le_bytes w64 body)) else
    if kind == 13 then double body else fixed (cast_signed w64 (from_le_bytes w64 body))
plain_by Text kind body =
    if kind == 5 then string (text_in body) else if kind == 24 then uri (text_in body) else path (text_in body)
plain_by Literal kind body = literal (number_in body) (number_in (drop 4 body)) (text_in (drop 4 (drop 4 body)))
plain_by Vector kind body = vector (number_in body) (number_in (drop 4 body)) (drop 4 (drop 4 body))
plain_by Tuple kind body = other kind body
plain_by Object kind body = other kind body
plain_by Sequence kind body = other kind body

abbrev pub plain_from : ℕ → List ℕ → Plain
plain_from kind body = plain_by (form_of kind) kind body

number_front : (n : ℕ) (rest : List ℕ) → n < 2 ^ 32 → number_in (u32 n ++ rest) ≡ n
number_front n rest lt = ap (from_le_bytes w32) (take_at (u32 n) rest 4 (u32-length n)) ∙ u32_back n lt

number_behind : (n : ℕ) (rest : List ℕ) → drop 4 (u32 n ++ rest) ≡ rest
number_behind n rest = drop_at (u32 n) rest 4 (u32-length n)

pub plain_back : (p : Plain) → PlainFits p → plain_from (plain_kind p) (plain_body p) ≡ p
unfolding form_of plain_by
plain_back (int z) fits = ap int (i32_back z fits)
plain_back (long z) fits = ap long (i64_back z fits)
plain_back (boolean z) fits = ap boolean (i32_back z fits)
plain_back (urid n) fits = ap urid (u32_back n fits)
plain_back (string text) fits = ap string (text_back text)
plain_back (literal datatype lang text) fits =
    let rest = u32 lang ++ ended text in
    let a : number_in (u32 datatype ++ rest) ≡ datatype = number_front datatype rest fits.0 in
    let b : number_in (drop 4 (u32 datatype ++ rest)) ≡ lang = ap number_in (number_behind datatype rest) ∙ number_front lang (ended text) fits.1 in
    let c : text_in (drop 4 (drop 4 (u32 datatype ++ rest))) ≡ text =
    ap (λ l. text_in (drop 4 l)) (number_behind datatype rest) ∙ ap text_in (number_behind lang (ended text)) ∙ text_back text in
    ap (λ n. literal n (number_in (drop 4 (u32 datatype ++ rest))) (text_in (drop 4 (drop 4 (u32 datatype ++ rest))))) a
    ∙ ap (λ n. literal datatype n (text_in (drop 4 (drop 4 (u32 datatype ++ rest))))) b
    ∙ ap (λ t. literal datatype lang t) c
plain_back (vector size kind elements) fits =
    let rest = u32 kind ++ elements in
    let a : number_in (u32 size ++ rest) ≡ size = number_front size rest fits.0 in
    let b : number_in (drop 4 (u32 size ++ rest)) ≡ kind = ap number_in (number_behind size rest) ∙ number_front kind elements fits.1 in
    let c : drop 4 (drop 4 (u32 size ++ rest)) ≡ elements = ap (drop 4) (number_behind size rest) ∙ number_behind kind elements in
    ap (λ n. vector n (number_in (drop 4 (u32 size ++ rest))) (drop 4 (drop 4 (u32 size ++ rest)))) a
    ∙ ap (λ n. vector size n (drop 4 (drop 4 (u32 size ++ rest)))) b
    ∙ ap (λ t. vector size kind t) c
plain_back (float bytes) fits = refl
plain_back (double bytes) fits = refl
plain_back (fixed z) fits = ap fixed (i64_back z fits)
plain_back (uri text) fits = ap uri (text_back text)
plain_back (path text) fits = ap path (text_back text)
plain_back (other kind bytes) fits = ap (λ f. plain_by f kind bytes) fits.1

plain_one : (p q : Plain) → PlainFits p → PlainFits q → plain_kind p ≡ plain_kind q → plain_body p ≡ plain_body q → p ≡ q
plain_one p q fits fit kind body =
    sym (plain_back p fits) ∙ ap (λ k. plain_from k (plain_body p)) kind ∙ ap (plain_from (plain_kind q)) body ∙ plain_back q fit

-- ---- containers

pub plain_leaf : (p : Plain) → PlainFits p → is_container (form_of (plain_kind p)) ≡ false
unfolding form_of
plain_leaf (int z) fits = refl
plain_leaf (long z) fits = refl
plain_leaf (boolean z) fits = refl
plain_leaf (urid n) fits = refl
plain_leaf (string text) fits = refl
plain_leaf (literal datatype lang text) fits = refl
plain_leaf (vector size kind elements) fits = refl
plain_leaf (float bytes) fits = refl
plain_leaf (double bytes) fits = refl
plain_leaf (fixed z) fits = refl
plain_leaf (uri text) fits = refl
plain_leaf (path text) fits = refl
plain_leaf (other kind bytes) fits = ap is_container fits.1

pub container_holds : (c : Container) → is_container (form_of (container_kind c)) ≡ true
unfolding form_of
container_holds tuple = refl
container_holds (object id kind) = refl
container_holds sequence = refl

pub head_length : (c : Container) → length (container_head c) ≡ lead_len (form_of (container_kind c))
unfolding form_of
head_length tuple = refl
head_length (object id kind) = omega (arith, length-append (u32 id) (u32 kind), u32-length id, u32-length kind)
head_length sequence = refl

pair_one : (a b c d : ℕ) → a < 2 ^ 32 → b < 2 ^ 32 → c < 2 ^ 32 → d < 2 ^ 32 → u32 a ++ u32 b ≡ u32 c ++ u32 d → (a ≡ c) × (b ≡ d)
pair_one a b c d ha hb hc hd e =
    let len : length (u32 a) ≡ length (u32 c) = u32-length a ∙ sym (u32-length c) in
    (u32_one a c ha hc (front_one (u32 a) (u32 c) (u32 b) (u32 d) len e), u32_one b d hb hd (rest_one (u32 a) (u32 c) (u32 b) (u32 d) len e))

container_one : (c d : Container) → ContainerFits c → ContainerFits d → container_kind c ≡ container_kind d → container_head c ≡ container_head d → c ≡ d
container_one tuple tuple fits fit kind head = refl
container_one tuple (object id otype) fits fit kind head = absurd cc
container_one tuple sequence fits fit kind head = absurd cc
container_one (object i o) tuple fits fit kind head = absurd cc
container_one (object i o) (object id otype) fits fit kind head =
    let same = pair_one i o id otype fits.0 fits.1 fit.0 fit.1 head in
    ap (λ n. object n o) same.0 ∙ ap (object id) same.1
container_one (object i o) sequence fits fit kind head = absurd cc
container_one sequence tuple fits fit kind head = absurd cc
container_one sequence (object id otype) fits fit kind head = absurd cc
container_one sequence sequence fits fit kind head = refl

pub lead_length : (form : Form) (lead : Lead) → LeadFits form lead → length (lead_bytes lead) ≡ lead_len form
lead_length Tuple bare fits = refl
lead_length Object (keyed key context) fits = omega (arith, length-append (u32 key) (u32 context), u32-length key, u32-length context)
lead_length Sequence (timed time) fits = i64-length time
lead_length form lead fits = absurd fits

lead_by : Form → List ℕ → Lead
lead_by Object bytes = keyed (number_in bytes) (from_le_bytes w32 (drop 4 bytes))
lead_by Sequence bytes = timed (cast_signed w64 (from_le_bytes w64 bytes))
lead_by form bytes = bare

lead_back : (form : Form) (lead : Lead) → LeadFits form lead → lead_by form (lead_bytes lead) ≡ lead
unfolding lead_by
lead_back Tuple bare fits = refl
lead_back Object (keyed key context) fits =
    let a : number_in (u32 key ++ u32 context) ≡ key = number_front key (u32 context) fits.0 in
    let b : from_le_bytes w32 (drop 4 (u32 key ++ u32 context)) ≡ context = ap (from_le_bytes w32) (number_behind key (u32 context)) ∙ u32_back context fits.1 in
    ap (λ n. keyed n (from_le_bytes w32 (drop 4 (u32 key ++ u32 context)))) a ∙ ap (keyed key) b
lead_back Sequence (timed time) fits = ap timed (i64_back time fits)
lead_back form lead fits = absurd fits

lead_one : (form : Form) (l k : Lead) → LeadFits form l → LeadFits form k → lead_bytes l ≡ lead_bytes k → l ≡ k
lead_one form l k fits fit e = sym (lead_back form l fits) ∙ ap (lead_by form) e ∙ lead_back form k fit

-- ---- values

pub small_body : (n : ℕ) (v : Value) → Fits n v → length (body_of v) < 2 ^ 32
small_body n (plain p) fits = fits.1
small_body n (holding c ps) fits = fits.1

kind_small_plain : (p : Plain) → PlainFits p → plain_kind p < 2 ^ 32
kind_small_plain (int z) fits = omega arith
kind_small_plain (long z) fits = omega arith
kind_small_plain (boolean z) fits = omega arith
kind_small_plain (urid n) fits = omega arith
kind_small_plain (string text) fits = omega arith
kind_small_plain (literal datatype lang text) fits = omega arith
kind_small_plain (vector size kind elements) fits = omega arith
kind_small_plain (float bytes) fits = omega arith
kind_small_plain (double bytes) fits = omega arith
kind_small_plain (fixed z) fits = omega arith
kind_small_plain (uri text) fits = omega arith
kind_small_plain (path text) fits = omega arith
kind_small_plain (other kind bytes) fits = fits.0

kind_small_container : (c : Container) → container_kind c < 2 ^ 32
kind_small_container tuple = omega arith
kind_small_container (object id kind) = omega arith
kind_small_container sequence = omega arith

pub small_kind : (n : ℕ) (v : Value) → Fits n v → kind_of v < 2 ^ 32
small_kind n (plain p) fits = kind_small_plain p fits.0
small_kind n (holding c ps) fits = kind_small_container c

-- what two framed bodies say, whatever stands after them
record SameFrame (k l : ℕ) (a b x y : List ℕ) : Type 0 where
  kinds : k ≡ l
  bodies : a ≡ b
  rests : x ≡ y

frame_one : (k l : ℕ) (a b x y : List ℕ) → k < 2 ^ 32 → l < 2 ^ 32 → length a < 2 ^ 32 → length b < 2 ^ 32 → framed k a ++ x ≡ framed l b ++ y → SameFrame k l a b x y
frame_one k l a b x y hk hl ha hb e =
    let flat : u32 (length a) ++ (u32 k ++ (a ++ x)) ≡ u32 (length b) ++ (u32 l ++ (b ++ y)) =
    sym (regroup k a x) ∙ e ∙ regroup l b y in
    let len : length (u32 (length a)) ≡ length (u32 (length b)) = u32-length (length a) ∙ sym (u32-length (length b)) in
    let size : length a ≡ length b = u32_one (length a) (length b) ha hb (front_one (u32 (length a)) (u32 (length b)) (u32 k ++ (a ++ x)) (u32 l ++ (b ++ y)) len flat) in
    let after = rest_one (u32 (length a)) (u32 (length b)) (u32 k ++ (a ++ x)) (u32 l ++ (b ++ y)) len flat in
    let four : length (u32 k) ≡ length (u32 l) = u32-length k ∙ sym (u32-length l) in
    let last = rest_one (u32 k) (u32 l) (a ++ x) (b ++ y) four after in
    record {
      kinds = u32_one k l hk hl (front_one (u32 k) (u32 l) (a ++ x) (b ++ y) four after);
      bodies = front_one a b x y size last;
      rests = rest_one a b x y size last;
    }
  where
    regroup : (k : ℕ) (a x : List ℕ) → framed k a ++ x ≡ u32 (length a) ++ (u32 k ++ (a ++ x))
    regroup k a x = append_assoc (u32 (length a)) (u32 k ++ a) x ∙ ap (λ l. u32 (length a) ++ l) (append_assoc (u32 k) a x)

pub part_long : (lead : Lead) (v : Value) (rest : List ℕ) → 0 < length (part_of lead v ++ rest)
part_long lead v rest =
    let text = atom_of v in
    omega (
      arith,
      length-append (part_of lead v) rest,
      length-append (lead_bytes lead) (with_padding text),
      length-append text (replicate (padded (length text) - length text) 0),
      length-append (u32 (length (body_of v))) (u32 (kind_of v) ++ body_of v),
      u32-length (length (body_of v)),
    )

-- the padding of an atom
abbrev pad : Value → List ℕ
pad v = replicate (padded (length (atom_of v)) - length (atom_of v)) 0

apart : false ≡ true → ⊥
apart e = absurd cc

mutual
  value_same : (n m : ℕ) (v w : Value) → Fits n v → Fits m w → kind_of v ≡ kind_of w → body_of v ≡ body_of w → v ≡ w
  value_same n m (plain p) (plain q) fits fit kind body = ap plain (plain_one p q fits.0 fit.0 kind body)
  value_same n m (plain p) (holding d qs) fits fit kind body =
      absurd (apart (sym (plain_leaf p fits.0) ∙ ap (λ k. is_container (form_of k)) kind ∙ container_holds d))
  value_same n m (holding c ps) (plain q) fits fit kind body =
      absurd (apart (sym (plain_leaf q fit.0) ∙ ap (λ k. is_container (form_of k)) (sym kind) ∙ container_holds c))
  value_same n m (holding c ps) (holding d qs) fits fit kind body =
      let form : form_of (container_kind c) ≡ form_of (container_kind d) = ap form_of kind in
      let len : length (container_head c) ≡ length (container_head d) = head_length c ∙ ap lead_len form ∙ sym (head_length d) in
      let same = container_one c d fits.0 fit.0 kind (front_one (container_head c) (container_head d) (parts_of ps) (parts_of qs) len body) in
      let others = parts_same n m (form_of (container_kind d)) ps qs (subst (λ f. PartsFit n f ps) form fits.2) fit.2
      (rest_one (container_head c) (container_head d) (parts_of ps) (parts_of qs) len body) in
      ap (λ x. holding x ps) same ∙ ap (holding d) others

  parts_same : (n m : ℕ) (form : Form) (ps qs : Parts) → PartsFit n form ps → PartsFit m form qs → parts_of ps ≡ parts_of qs → ps ≡ qs
  parts_same n m form none none fits fit e = refl
  parts_same n m form none (part k w qs) fits fit e =
      let long = part_long k w (parts_of qs) in
      let same : 0 ≡ length (part_of k w ++ parts_of qs) = ap length e in
      absurd (omega (arith, long, same))
  parts_same n m form (part l v ps) none fits fit e =
      let long = part_long l v (parts_of ps) in
      let same : length (part_of l v ++ parts_of ps) ≡ 0 = ap length e in
      absurd (omega (arith, long, same))
  parts_same n m form (part l v ps) (part k w qs) fits fit e =
      let flat : lead_bytes l ++ (with_padding (atom_of v) ++ parts_of ps) ≡ lead_bytes k ++ (with_padding (atom_of w) ++ parts_of qs) =
      sym (append_assoc (lead_bytes l) (with_padding (atom_of v)) (parts_of ps)) ∙ e ∙ append_assoc (lead_bytes k) (with_padding (atom_of w)) (parts_of qs) in
      let len : length (lead_bytes l) ≡ length (lead_bytes k) = lead_length form l fits.1 ∙ sym (lead_length form k fit.1) in
      let leads = lead_one form l k fits.1 fit.1 (front_one (lead_bytes l) (lead_bytes k) (with_padding (atom_of v) ++ parts_of ps) (with_padding (atom_of w) ++ parts_of qs) len flat) in
      let atoms : with_padding (atom_of v) ++ parts_of ps ≡ with_padding (atom_of w) ++ parts_of qs =
      rest_one (lead_bytes l) (lead_bytes k) (with_padding (atom_of v) ++ parts_of ps) (with_padding (atom_of w) ++ parts_of qs) len flat in
      let spread : atom_of v ++ (pad v ++ parts_of ps) ≡ atom_of w ++ (pad w ++ parts_of qs) =
      sym (append_assoc (atom_of v) (pad v) (parts_of ps)) ∙ atoms ∙ append_assoc (atom_of w) (pad w) (parts_of qs) in
      let frame = frame_one (kind_of v) (kind_of w) (body_of v) (body_of w) (pad v ++ parts_of ps) (pad w ++ parts_of qs)
      (small_kind (pred n) v fits.2) (small_kind (pred m) w fit.2) (small_body (pred n) v fits.2) (small_body (pred m) w fit.2) spread in
      let values = value_same (pred n) (pred m) v w fits.2 fit.2 frame.kinds frame.bodies in
      let widths : length (with_padding (atom_of v)) ≡ length (with_padding (atom_of w)) = ap (λ x. length (with_padding (atom_of x))) values in
      let others = parts_same n m form ps qs fits.3 fit.3 (rest_one (with_padding (atom_of v)) (with_padding (atom_of w)) (parts_of ps) (parts_of qs) widths atoms) in
      ap (λ x. part x v ps) leads ∙ ap (λ x. part k x ps) values ∙ ap (part k w) others

-- whatever stands after them, two atoms with the same bytes are one value
pub one_atom : (n m : ℕ) (v w : Value) (x y : List ℕ) → Fits n v → Fits m w → atom_of v ++ x ≡ atom_of w ++ y → (v ≡ w) × (x ≡ y)
one_atom n m v w x y fits fit e =
    let frame = frame_one (kind_of v) (kind_of w) (body_of v) (body_of w) x y (small_kind n v fits) (small_kind m w fit) (small_body n v fits) (small_body m w fit) e in
    (value_same n m v w fits fit frame.kinds frame.bodies, frame.rests)
