-- What bytes that spell an atom say at their places.
use Rattle.std.proofs.Common.{◌≡◌, ℕ, pred, ◌+◌, ◌-◌, ◌^◌, ◌<◌, ◌≤◌, ◌==◌, Bool, true, false, List, [], ◌∷◌, ◌++◌, length, get_or, drop, slice_range, replicate, refl, sym, ap, ◌∙◌, subst, arith, length-take, length-drop}
use Rattle.std.specs.Prelude.{nat_le, ◌&&◌}
use Rattle.std.specs.Int.{w32, from_le_bytes}
use Rattle.std.proofs.lemmas.Bool.{le-leb}
use Rattle.std.proofs.lemmas.List.{length-append, length-replicate, get_or-replicate}
use Rattle.std.proofs.lemmas.List.Edits.{get_or-between}
use Rattle.atom_core.specs.declared.form.Form.{Form}
use Rattle.atom_core.specs.declared.form.Form.TheVariants.{Any, Text}
use Rattle.atom_core.specs.Form.{form_of, allows_size, is_multiple, is_container, lead_len}
use Rattle.atom_core.specs.Place.{number_at, size_at, kind_at, padded, Stands, AreZero}
use Rattle.atom_core.specs.Value.{Plain, int, long, boolean, urid, string, literal, vector, float, double, fixed, uri, path, other, Container, tuple, object, sequence, Value, plain, holding}
use Rattle.atom_core.specs.Spelling.{u32, ended, plain_kind, plain_body, container_kind, container_head, lead_bytes, with_padding, kind_of, body_of, parts_of, atom_of}
use Rattle.atom_core.specs.Fits.{IsText, PlainFits, Fits, PartsFit}
use Rattle.atom_core.specs.Content.{IsContent, IsOwn, form_at, end_at}
use Rattle.atom_core.specs.Parts.{StandsAtom}
use Rattle.atom_core.specs.Steps.{ArePartsThere, IsPartThere}
use Rattle.atom_core.proofs.Ranges.{range_join}
use Rattle.atom_core.proofs.Numbers.{cells_are, u32-length, i32-length, i64-length}
use Rattle.atom_core.proofs.Padding.{with_padding-length}
use Rattle.atom_core.proofs.OneValue.{front_one, rest_one, u32_back, lead_length, plain_leaf, head_length, small_body, small_kind}

-- ---- two texts, one after the other, taken apart

inside : (bytes : List ℕ) (a b : ℕ) (text : List ℕ) → Stands bytes a b text → b - a ≤ length bytes - a
inside bytes a b text stands =
    let long : length (slice_range bytes a b) ≡ length text = ap length stands.text_is in
    omega (arith, long, stands.ends, length-take (b - a) (drop a bytes), length-drop a bytes)

pub first_stands : (bytes : List ℕ) (a b c : ℕ) (s t : List ℕ) → a + length s ≡ b → Stands bytes a c (s ++ t) → Stands bytes a b s
first_stands bytes a b c s t e stands =
    let both : slice_range bytes a b ++ slice_range bytes b c ≡ s ++ t =
    sym (range_join bytes a b c (omega (arith, e)) (omega (arith, e, stands.ends, length-append s t))) ∙ stands.text_is in
    let long : length (slice_range bytes a b) ≡ length s =
    omega (arith, e, stands.ends, length-append s t, inside bytes a c (s ++ t) stands, length-take (b - a) (drop a bytes), length-drop a bytes) in
    record { ends = e; text_is = front_one (slice_range bytes a b) s (slice_range bytes b c) t long both }

pub second_stands : (bytes : List ℕ) (a b c : ℕ) (s t : List ℕ) → a + length s ≡ b → Stands bytes a c (s ++ t) → Stands bytes b c t
second_stands bytes a b c s t e stands =
    let both : slice_range bytes a b ++ slice_range bytes b c ≡ s ++ t =
    sym (range_join bytes a b c (omega (arith, e)) (omega (arith, e, stands.ends, length-append s t))) ∙ stands.text_is in
    let long : length (slice_range bytes a b) ≡ length s =
    omega (arith, e, stands.ends, length-append s t, inside bytes a c (s ++ t) stands, length-take (b - a) (drop a bytes), length-drop a bytes) in
    record {
      ends = omega (arith, e, stands.ends, length-append s t);
      text_is = rest_one (slice_range bytes a b) s (slice_range bytes b c) t long both;
    }

-- ---- numbers and zeros

pub number_read : (bytes : List ℕ) (a : ℕ) (n : ℕ) → n < 2 ^ 32 → Stands bytes a (a + 4) (u32 n) → number_at bytes a ≡ n
unfolding number_at
number_read bytes a n lt stands =
    let room : a + 4 ≤ length bytes = omega (arith, inside bytes a (a + 4) (u32 n) stands) in
    ap (from_le_bytes w32) (cells_are bytes a room ∙ stands.text_is) ∙ u32_back n lt

pub zeros_read : (bytes : List ℕ) (a b count : ℕ) → Stands bytes a b (replicate count 0) → AreZero bytes a b
zeros_read bytes a b count stands k low high =
    let place : a + (k - a) ≡ k = omega arith in
    let small : k - a < count = omega (arith, stands.ends, length-replicate {A = ℕ} count 0) in
    ap (λ j. get_or bytes j 0) (sym place)
    ∙ sym (get_or-between bytes a b (k - a) 0 (omega arith))
    ∙ ap (λ l. get_or l (k - a) 0) stands.text_is
    ∙ get_or-replicate count (k - a) 0 0 small

-- ---- an atom

pub record AtomSays (n : ℕ) (bytes : List ℕ) (at end : ℕ) (v : Value) : Type 0 where
  pub size : size_at bytes at ≡ length (body_of v)
  pub kind : kind_at bytes at ≡ kind_of v
  pub last : end ≡ end_at bytes at
  pub body : Stands bytes (at + 8) end (body_of v)

pub atom_says : (n : ℕ) (bytes : List ℕ) (at end : ℕ) (v : Value) → Fits n v → Stands bytes at end (atom_of v) → AtomSays n bytes at end v
atom_says n bytes at end v fits stands =
    let body = body_of v in
    let e : at + length (u32 (length body)) ≡ at + 4 = ap (λ k. at + k) (u32-length (length body)) in
    let f : at + 4 + length (u32 (kind_of v)) ≡ at + 8 = omega (arith, u32-length (kind_of v)) in
    let four : at + 4 + 4 ≡ at + 8 = omega arith in
    let one : Stands bytes at (at + 4) (u32 (length body)) = first_stands bytes at (at + 4) end (u32 (length body)) (u32 (kind_of v) ++ body) e stands in
    let rest : Stands bytes (at + 4) end (u32 (kind_of v) ++ body) = second_stands bytes at (at + 4) end (u32 (length body)) (u32 (kind_of v) ++ body) e stands in
    let two : Stands bytes (at + 4) (at + 8) (u32 (kind_of v)) = first_stands bytes (at + 4) (at + 8) end (u32 (kind_of v)) body f rest in
    let three : Stands bytes (at + 8) end body = second_stands bytes (at + 4) (at + 8) end (u32 (kind_of v)) body f rest in
    let size = number_read bytes at (length body) (small_body n v fits) one in
    record {
      size = size;
      kind = number_read bytes (at + 4) (kind_of v) (small_kind n v fits) (subst (λ k. Stands bytes (at + 4) k (u32 (kind_of v))) (sym four) two);
      last = omega (arith, three.ends, size);
      body = three;
    }

-- ---- its own bytes are well

record Well (bytes : List ℕ) (at end : ℕ) (form : Form) (size : ℕ) : Type 0 where
  allowed : allows_size form size (number_at bytes (at + 8)) ≡ true
  content : IsContent form bytes at end

text_well : (bytes : List ℕ) (at end : ℕ) (text : List ℕ) → IsText text → Stands bytes (at + 8) end (ended text) → Well bytes at end Text (length (ended text))
text_well bytes at end text fits stands = record {
  allowed = le-leb 1 (length (ended text)) (omega (arith, length-append text (0 ∷ [])));
  content = (text, fits, stands.text_is);
}

both_true : (a b : Bool) → a ≡ true → b ≡ true → (a && b) ≡ true
both_true true b e f = f
both_true false b e f = absurd cc

-- two numbers of four bytes, and what stands after them
behind_numbers : (bytes : List ℕ) (at end a b : ℕ) (rest : List ℕ) → Stands bytes (at + 8) end (u32 a ++ (u32 b ++ rest)) → Stands bytes (at + 16) end rest
behind_numbers bytes at end a b rest stands =
    let e : at + 8 + length (u32 a) ≡ at + 12 = omega (arith, u32-length a) in
    let f : at + 12 + length (u32 b) ≡ at + 16 = omega (arith, u32-length b) in
    second_stands bytes (at + 12) (at + 16) end (u32 b) rest f (second_stands bytes (at + 8) (at + 12) end (u32 a) (u32 b ++ rest) e stands)

first_number : (bytes : List ℕ) (at end a : ℕ) (rest : List ℕ) → a < 2 ^ 32 → Stands bytes (at + 8) end (u32 a ++ rest) → number_at bytes (at + 8) ≡ a
first_number bytes at end a rest lt stands =
    number_read bytes (at + 8) a lt (first_stands bytes (at + 8) (at + 8 + 4) end (u32 a) rest (ap (λ k. at + 8 + k) (u32-length a)) stands)

two_long : (a b : ℕ) (rest : List ℕ) → length (u32 a ++ (u32 b ++ rest)) ≡ 8 + length rest
two_long a b rest = omega (arith, length-append (u32 a) (u32 b ++ rest), length-append (u32 b) rest, u32-length a, u32-length b)

plain_well : (bytes : List ℕ) (at end : ℕ) (p : Plain) → PlainFits p → Stands bytes (at + 8) end (plain_body p)
    → Well bytes at end (form_of (plain_kind p)) (length (plain_body p))
unfolding form_of
plain_well bytes at end (int z) fits stands = record { allowed = ap (λ n. n == 4) (i32-length z); content = tt }
plain_well bytes at end (long z) fits stands = record { allowed = ap (λ n. n == 8) (i64-length z); content = tt }
plain_well bytes at end (boolean z) fits stands = record { allowed = ap (λ n. n == 4) (i32-length z); content = tt }
plain_well bytes at end (urid n) fits stands = record { allowed = ap (λ n. n == 4) (u32-length n); content = tt }
plain_well bytes at end (string text) fits stands = text_well bytes at end text fits stands
plain_well bytes at end (literal datatype lang text) fits stands =
    let behind = behind_numbers bytes at end datatype lang (ended text) stands in
    record {
      allowed = le-leb 9 (length (plain_body (literal datatype lang text))) (omega (arith, two_long datatype lang (ended text), length-append text (0 ∷ [])));
      content = (text, fits.2, behind.text_is);
    }
plain_well bytes at end (vector size kind elements) fits stands =
    let long = two_long size kind elements in
    let less : length (plain_body (vector size kind elements)) - 8 ≡ length elements = omega (arith, long) in
    let element = first_number bytes at end size (u32 kind ++ elements) fits.0 stands in
    record {
      allowed = both_true (nat_le 8 (length (plain_body (vector size kind elements))))
          (is_multiple (length (plain_body (vector size kind elements)) - 8) (number_at bytes (at + 8)))
          (le-leb 8 (length (plain_body (vector size kind elements))) (omega (arith, long)))
          (ap (λ n. is_multiple n (number_at bytes (at + 8))) less ∙ ap (is_multiple (length elements)) element ∙ fits.2);
      content = tt;
    }
plain_well bytes at end (float b) fits stands = record { allowed = ap (λ n. n == 4) fits; content = tt }
plain_well bytes at end (double b) fits stands = record { allowed = ap (λ n. n == 8) fits; content = tt }
plain_well bytes at end (fixed z) fits stands = record { allowed = ap (λ n. n == 8) (i64-length z); content = tt }
plain_well bytes at end (uri text) fits stands = text_well bytes at end text fits stands
plain_well bytes at end (path text) fits stands = text_well bytes at end text fits stands
plain_well bytes at end (other kind b) fits stands =
    let any : Well bytes at end Any (length b) = record { allowed = refl; content = tt } in
    subst (λ f. Well bytes at end f (length b)) (sym fits.1) any

holding_well : (bytes : List ℕ) (at end : ℕ) (c : Container) (rest : List ℕ) → Stands bytes (at + 8) end (container_head c ++ rest)
    → Well bytes at end (form_of (container_kind c)) (length (container_head c ++ rest))
unfolding form_of
holding_well bytes at end tuple rest stands = record { allowed = refl; content = tt }
holding_well bytes at end (object id kind) rest stands = record {
  allowed = le-leb 8 (length (container_head (object id kind) ++ rest))
      (omega (arith, length-append (u32 id ++ u32 kind) rest, length-append (u32 id) (u32 kind), u32-length id, u32-length kind));
  content = tt;
}
holding_well bytes at end sequence rest stands =
    let e : at + 8 + 8 ≡ at + 16 = omega arith in
    record {
      allowed = le-leb 8 (length (container_head sequence ++ rest)) (omega (arith, length-append (container_head sequence) rest));
      content = zeros_read bytes (at + 8) (at + 16) 8 (first_stands bytes (at + 8) (at + 16) end (replicate 8 0) rest e stands);
    }

value_well : (n : ℕ) (bytes : List ℕ) (at end : ℕ) (v : Value) → Fits n v → Stands bytes (at + 8) end (body_of v)
    → Well bytes at end (form_of (kind_of v)) (length (body_of v))
value_well n bytes at end (plain p) fits stands = plain_well bytes at end p fits.0 stands
value_well n bytes at end (holding c ps) fits stands = holding_well bytes at end c (parts_of ps) stands

-- the own bytes of an atom that stands there are well
pub own_well : (n : ℕ) (bytes : List ℕ) (at end : ℕ) (v : Value) → Fits n v → Stands bytes at end (atom_of v) → IsOwn bytes at (form_at bytes at)
own_well n bytes at end v fits stands =
    let says = atom_says n bytes at end v fits stands in
    let well = value_well n bytes at end v fits says.body in
    let form : form_of (kind_of v) ≡ form_at bytes at = ap form_of (sym says.kind) in
    let sized : Well bytes at end (form_of (kind_of v)) (size_at bytes at) = subst (λ k. Well bytes at end (form_of (kind_of v)) k) (sym says.size) well in
    let formed : Well bytes at end (form_at bytes at) (size_at bytes at) = subst (λ f. Well bytes at end f (size_at bytes at)) form sized in
    let ended_there : Well bytes at (end_at bytes at) (form_at bytes at) (size_at bytes at) =
    subst (λ k. Well bytes at k (form_at bytes at) (size_at bytes at)) says.last formed in
    record { form_is = refl; allowed = ended_there.allowed; content = ended_there.content }

-- an atom that holds atoms: their parts stand there
pub parts_there : (n : ℕ) (bytes : List ℕ) (at end : ℕ) (v : Value) → Fits n v → Stands bytes at end (atom_of v) → is_container (form_at bytes at) ≡ true
    → ArePartsThere n bytes (form_at bytes at) (at + 8 + lead_len (form_at bytes at)) (end_at bytes at)
parts_there n bytes at end (plain p) fits stands e =
    let says = atom_says n bytes at end (plain p) fits stands in
    let leaf : is_container (form_at bytes at) ≡ false = ap (λ k. is_container (form_of k)) says.kind ∙ plain_leaf p fits.0 in
    let wrong : true ≡ false = sym e ∙ leaf in
    absurd cc
parts_there n bytes at end (holding c ps) fits stands e =
    let says = atom_says n bytes at end (holding c ps) fits stands in
    let form : form_of (container_kind c) ≡ form_at bytes at = ap form_of (sym says.kind) in
    let first : at + 8 + length (container_head c) ≡ at + 8 + lead_len (form_at bytes at) = ap (λ k. at + 8 + k) (head_length c ∙ ap lead_len form) in
    let there : Stands bytes (at + 8 + lead_len (form_at bytes at)) end (parts_of ps) =
    second_stands bytes (at + 8) (at + 8 + lead_len (form_at bytes at)) end (container_head c) (parts_of ps) first says.body in (
      ps,
      subst (λ f. PartsFit n f ps) form fits.2,
      subst (λ k. Stands bytes (at + 8 + lead_len (form_at bytes at)) k (parts_of ps)) says.last there,
    )

-- ---- a part

pub record PartSays (n : ℕ) (bytes : List ℕ) (form : Form) (at to : ℕ) : Type 0 where
  pub atom : StandsAtom (pred n) bytes (at + lead_len form) (end_at bytes (at + lead_len form))
  pub next : to ≡ at + lead_len form + padded (8 + size_at bytes (at + lead_len form))
  pub zeros : AreZero bytes (end_at bytes (at + lead_len form)) to

pub part_says : (n : ℕ) (bytes : List ℕ) (form : Form) (at to : ℕ) → IsPartThere n bytes form at to → PartSays n bytes form at to
part_says n bytes form at to there =
    let lead = there.0 in
    let v = there.1 in
    let text = atom_of v in
    let header = at + lead_len form in
    let tail : List ℕ = replicate (padded (length text) - length text) 0 in
    let e : at + length (lead_bytes lead) ≡ header = ap (λ k. at + k) (lead_length form lead there.2) in
    let rest : Stands bytes header to (with_padding text) = second_stands bytes at header to (lead_bytes lead) (with_padding text) e there.4 in
    let atom : Stands bytes header (header + length text) text = first_stands bytes header (header + length text) to text tail refl rest in
    let pad : Stands bytes (header + length text) to tail = second_stands bytes header (header + length text) to text tail refl rest in
    let says = atom_says (pred n) bytes header (header + length text) v there.3 atom in
    let long : length text ≡ 8 + size_at bytes header = omega (arith, says.last) in
    record {
      atom = (v, there.3, subst (λ k. Stands bytes header k text) says.last atom);
      next = omega (arith, rest.ends, with_padding-length text, ap padded long);
      zeros = subst (λ k. AreZero bytes k to) says.last (zeros_read bytes (header + length text) to (padded (length text) - length text) pad);
    }
