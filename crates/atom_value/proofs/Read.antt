-- Values are read off their bytes.
use Rattle.std.proofs.Common.{◌≡◌, ℕ, zero, suc, pred, ◌+◌, ◌-◌, ◌<◌, ◌≤◌, List, [], ◌∷◌, ◌++◌, length, take, drop, replicate, refl, sym, ap, ◌∙◌, append_assoc, arith}
use Rattle.std.proofs.lemmas.List.{drop_at, length-append, append-nil}
use Rattle.atom_core.specs.declared.form.Form.{Form}
use Rattle.atom_core.specs.declared.form.Form.TheVariants.{Tuple, Object, Sequence}
use Rattle.atom_core.specs.Form.{form_of, lead_len}
use Rattle.atom_core.specs.Place.{padded}
use Rattle.atom_core.specs.Value.{tuple, object, sequence, Lead, Value, plain, holding, Parts, none, part}
use Rattle.atom_core.specs.Spelling.{u32, lead_bytes, kind_of, body_of, with_padding, atom_of, parts_of, part_of}
use Rattle.atom_core.specs.Fits.{Fits, LeadFits, PartsFit}
use Rattle.atom_core.specs.Answer.{Spells, most_containers}
use Rattle.atom_core.specs.Atoms.{SpellEvents}
use Rattle.atom_core.proofs.Numbers.{u32-length}
use Rattle.atom_core.proofs.Padding.{with_padding-length, padded_above}
use Rattle.atom_core.proofs.OneValue.{small_body, small_kind, part_long, lead_length}
use Rattle.atom_value.specs.Reading.{number_in, lead_in, Reader, value_by, atom_by, end_in, parts_within, value_in, events_in}
use Rattle.atom_value.proofs.Heads.{header, number_front, number_after, lead_front, lead_after, plain_read}

-- an atom is its header and what is read of its body
atom_is : (parts : Reader) (n : ℕ) (v : Value) (rest : List ℕ) → Fits n v
    → atom_by parts (atom_of v ++ rest) ≡ value_by parts (form_of (kind_of v)) (kind_of v) (body_of v)
atom_is parts n v rest fits =
    let h = header (kind_of v) (body_of v) rest (small_kind n v fits) (small_body n v fits) in
    ap (λ k. value_by parts (form_of k) k (take (number_in (atom_of v ++ rest)) (drop 8 (atom_of v ++ rest)))) h.kind_is
    ∙ ap (value_by parts (form_of (kind_of v)) (kind_of v)) h.body_is

-- the first of some parts
parts_more : (more : ℕ) (form : Form) (bytes : List ℕ) → 0 < length bytes
    → parts_within (suc more) form bytes
    ≡ part (lead_in form bytes) (atom_by (parts_within more) (drop (lead_len form) bytes)) (parts_within more form (drop (end_in form bytes) bytes))
parts_more more form [] some = absurd (omega (arith, some))
parts_more more form (byte ∷ bytes) some = refl

atom-length : (v : Value) → length (atom_of v) ≡ 8 + length (body_of v)
atom-length v =
    omega (
      arith,
      length-append (u32 (length (body_of v))) (u32 (kind_of v) ++ body_of v),
      length-append (u32 (kind_of v)) (body_of v),
      u32-length (length (body_of v)),
      u32-length (kind_of v),
    )

object_head : (id kind : ℕ) (rest : List ℕ) → drop 8 ((u32 id ++ u32 kind) ++ rest) ≡ rest
object_head id kind rest = drop_at (u32 id ++ u32 kind) rest 8 (omega (arith, length-append (u32 id) (u32 kind), u32-length id, u32-length kind))

-- where the first part ends, and what stands after it
record Parted (form : Form) (lead : Lead) (v : Value) (others bytes : List ℕ) : Type 0 where
  lead_is : lead_in form bytes ≡ lead
  atom_at : drop (lead_len form) bytes ≡ atom_of v ++ (replicate (padded (length (atom_of v)) - length (atom_of v)) 0 ++ others)
  after : drop (end_in form bytes) bytes ≡ others

parted : (n : ℕ) (form : Form) (lead : Lead) (v : Value) (others : List ℕ) → Fits n v → LeadFits form lead → Parted form lead v others (part_of lead v ++ others)
parted n form lead v others fits lead_fits =
    let text = with_padding (atom_of v) in
    let pad : List ℕ = replicate (padded (length (atom_of v)) - length (atom_of v)) 0 in
    let flat : part_of lead v ++ others ≡ lead_bytes lead ++ (text ++ others) = append_assoc (lead_bytes lead) text others in
    let at : drop (lead_len form) (part_of lead v ++ others) ≡ atom_of v ++ (pad ++ others) =
    ap (drop (lead_len form)) flat ∙ lead_after form lead (text ++ others) lead_fits ∙ append_assoc (atom_of v) pad others in
    let h = header (kind_of v) (body_of v) (pad ++ others) (small_kind n v fits) (small_body n v fits) in
    let size : number_in (drop (lead_len form) (part_of lead v ++ others)) ≡ length (body_of v) = ap number_in at ∙ h.size_is in
    let whole : length (part_of lead v) ≡ end_in form (part_of lead v ++ others) =
    length-append (lead_bytes lead) text
    ∙ ap (λ n. n + length text) (lead_length form lead lead_fits)
    ∙ ap (λ n. lead_len form + n) (with_padding-length (atom_of v) ∙ ap padded (atom-length v ∙ ap (λ n. 8 + n) (sym size))) in
    record {
      lead_is = ap (lead_in form) flat ∙ lead_front form lead (text ++ others) lead_fits;
      atom_at = at;
      after = drop_at (part_of lead v) others (end_in form (part_of lead v ++ others)) whole;
    }

mutual
  unfolding form_of

  -- a value, whatever stands after it
  value_read : (n m : ℕ) (v : Value) (rest : List ℕ) → Fits m v → length (atom_of v) ≤ suc n → atom_by (parts_within n) (atom_of v ++ rest) ≡ v
  value_read n m (plain p) rest fits long = atom_is (parts_within n) m (plain p) rest fits ∙ plain_read (parts_within n) p fits.0
  value_read n m (holding tuple ps) rest fits long =
      atom_is (parts_within n) m (holding tuple ps) rest fits
      ∙ ap (holding tuple) (parts_read n m Tuple ps fits.2 (omega (arith, long, atom-length (holding tuple ps))))
  value_read n m (holding (object id kind) ps) rest fits long =
      let flat : (u32 id ++ u32 kind) ++ parts_of ps ≡ u32 id ++ (u32 kind ++ parts_of ps) = append_assoc (u32 id) (u32 kind) (parts_of ps) in
      let body : List ℕ = (u32 id ++ u32 kind) ++ parts_of ps in
      let first : number_in body ≡ id = ap number_in flat ∙ number_front id (u32 kind ++ parts_of ps) fits.0.0 in
      let second : number_in (drop 4 body) ≡ kind =
      ap (λ (l : List ℕ). number_in (drop 4 l)) flat ∙ ap number_in (number_after id (u32 kind ++ parts_of ps)) ∙ number_front kind (parts_of ps) fits.0.1 in
      let parts : parts_within n Object (drop 8 body) ≡ ps =
      ap (parts_within n Object) (object_head id kind (parts_of ps))
      ∙ parts_read n m Object ps fits.2
      (omega (arith, long, atom-length (holding (object id kind) ps), length-append (u32 id ++ u32 kind) (parts_of ps))) in
      atom_is (parts_within n) m (holding (object id kind) ps) rest fits
      ∙ ap (λ i. holding (object i (number_in (drop 4 body))) (parts_within n Object (drop 8 body))) first
      ∙ ap (λ k. holding (object id k) (parts_within n Object (drop 8 body))) second
      ∙ ap (holding (object id kind)) parts
  value_read n m (holding sequence ps) rest fits long =
      atom_is (parts_within n) m (holding sequence ps) rest fits
      ∙ ap (holding sequence)
      (parts_read n m Sequence ps fits.2 (omega (arith, long, atom-length (holding sequence ps), length-append (replicate 8 0) (parts_of ps))))

  parts_read : (n m : ℕ) (form : Form) (ps : Parts) → PartsFit m form ps → length (parts_of ps) ≤ n → parts_within n form (parts_of ps) ≡ ps
  parts_read zero m form none fits long = refl
  parts_read (suc n) m form none fits long = refl
  parts_read zero m form (part l v ps) fits long = absurd (omega (arith, long, part_long l v (parts_of ps)))
  parts_read (suc n) m form (part l v ps) fits long =
      let bytes : List ℕ = part_of l v ++ parts_of ps in
      let p = parted (pred m) form l v (parts_of ps) fits.2 fits.1 in
      let size : length bytes ≡ length (part_of l v) + length (parts_of ps) = length-append (part_of l v) (parts_of ps) in
      let wide : length (part_of l v) ≡ length (lead_bytes l) + padded (length (atom_of v)) =
      length-append (lead_bytes l) (with_padding (atom_of v)) ∙ ap (λ k. length (lead_bytes l) + k) (with_padding-length (atom_of v)) in
      let above = padded_above (length (atom_of v)) in
      let eight = atom-length v in
      let pad : List ℕ = replicate (padded (length (atom_of v)) - length (atom_of v)) 0 in
      let inner : atom_by (parts_within n) (drop (lead_len form) bytes) ≡ v =
      ap (atom_by (parts_within n)) p.atom_at ∙ value_read n (pred m) v (pad ++ parts_of ps) fits.2 (omega (arith, long, size, wide, above)) in
      let others : parts_within n form (drop (end_in form bytes) bytes) ≡ ps =
      ap (parts_within n form) p.after ∙ parts_read n m form ps fits.3 (omega (arith, long, size, wide, above, eight)) in
      parts_more n form bytes (part_long l v (parts_of ps))
      ∙ ap (λ x. part x (atom_by (parts_within n) (drop (lead_len form) bytes)) (parts_within n form (drop (end_in form bytes) bytes))) p.lead_is
      ∙ ap (λ x. part l x (parts_within n form (drop (end_in form bytes) bytes))) inner
      ∙ ap (part l v) others

pub value_spelled : (bytes : List ℕ) (value : Value) → Spells bytes value → value_in bytes ≡ value
unfolding value_in
value_spelled bytes value spells =
    ap value_in (spells.bytes_are ∙ sym (append-nil (atom_of value)))
    ∙ value_read (length (atom_of value ++ [])) most_containers value [] spells.fits (omega (arith, length-append (atom_of value) []))

pub events_spelled : (bytes : List ℕ) (parts : Parts) → SpellEvents bytes parts → events_in bytes ≡ parts
unfolding events_in
events_spelled bytes parts spells =
    ap events_in spells.1 ∙ parts_read (length (parts_of parts)) most_containers Sequence parts spells.0 (omega arith)
