-- What is resolved against a base with a scheme has a scheme.
use Rattle.std.proofs.Common.{◌≡◌, ℕ, suc, ◌<◌, ◌≤◌, ◌+◌, ◌-◌, Bool, true, false, cond, ◌&&◌, not, nat_lt, List, [], ◌∷◌, ◌++◌, length, take, get_or, Option, None, Some, is_some, refl, ap, sym, subst, ◌∙◌, true≢false, arith, append_assoc}
use Rattle.std.specs.Prelude.{◌==◌}
use Rattle.std.specs.List.{position_or_len}
use Rattle.std.specs.Option.{option_map}
use Rattle.std.proofs.lemmas.Bool.{ltb-true, lt-ltb, eq-eqb}
use Rattle.std.proofs.lemmas.List.{get_or_append_left, get_or-take, length-take-le, length-append}
use Rattle.std.proofs.Math.Seq.{get_or-append_seam}
use Rattle.std.proofs.lemmas.List.Sums.{position_or_len_is, prefix_len-le-length, prefix_len_passes}
use Rattle.iri_resolve.specs.Components.{Components, components, ends_scheme, scheme_of, part_at}
use Rattle.iri_resolve.specs.Target.{resolved, recomposed, transformed, marked, scheme_text}

-- a text of at least one character, none of which ends a scheme
pub record IsScheme (s : List ℕ) : Type 0 where
  pub some : 0 < length s
  pub free : (k : ℕ) → k < length s → ends_scheme (get_or s k 0) ≡ false

not_true : (b : Bool) → not b ≡ true → b ≡ false
not_true true h = absurd (true≢false (sym h))
not_true false h = refl

both : (a b : Bool) → (a && b) ≡ true → (a ≡ true) × (b ≡ true)
both true b h = (refl, h)
both false b h = absurd (true≢false (sym h))

-- with `:` after it, it is the scheme
is_scheme : (s rest : List ℕ) → IsScheme s → is_some (scheme_of (s ++ 58 ∷ rest)) ≡ true
is_scheme s rest h =
    let text : List ℕ = s ++ 58 ∷ rest in
    let long : length text ≡ length s + suc (length rest) = length-append s (58 ∷ rest) in
    let end : position_or_len ends_scheme (s ++ 58 ∷ rest) ≡ length s =
    position_or_len_is ends_scheme (s ++ 58 ∷ rest) (length s) 0 (omega arith)
    (λ k below. ap ends_scheme (get_or_append_left s (58 ∷ rest) 0 k below) ∙ h.free k below)
    (λ less. ap ends_scheme (get_or-append_seam s 58 rest 0)) in
    let colon : (get_or (s ++ 58 ∷ rest) (length s) 0 == 58) ≡ true = eq-eqb _ _ (get_or-append_seam s 58 rest 0) in
    let there : nat_lt 0 (length s) ≡ true = lt-ltb 0 (length s) h.some in
    ap (λ n. is_some {T = ℕ × ℕ} (cond (nat_lt 0 n && (get_or (s ++ 58 ∷ rest) n 0 == 58)) (Some (0, n)) None)) end
    ∙ ap (λ b. is_some {T = ℕ × ℕ} (cond (b && (get_or (s ++ 58 ∷ rest) (length s) 0 == 58)) (Some (0, length s)) None)) there
    ∙ ap (λ b. is_some {T = ℕ × ℕ} (cond b (Some (0, length s)) None)) colon

-- the text up to its first mark, where it isn't empty
front : (text : List ℕ) → 0 < position_or_len ends_scheme text → IsScheme (take (position_or_len ends_scheme text) text)
front text more =
    let end : ℕ = position_or_len ends_scheme text in
    let within : position_or_len ends_scheme text ≤ length text = prefix_len-le-length _ text in
    let long : length (take (position_or_len ends_scheme text) text) ≡ position_or_len ends_scheme text = length-take-le (position_or_len ends_scheme text) text within in
    record {
      some = omega arith;
      free = λ k below.
          let less : k < position_or_len ends_scheme text = omega arith in
          ap ends_scheme (get_or-take (position_or_len ends_scheme text) text k 0 less) ∙ not_true _ (prefix_len_passes (λ c. not (ends_scheme c)) text k 0 less);
    }

-- the scheme of a text is one
of_text : (text s : List ℕ) → part_at text (scheme_of text) ≡ Some s → IsScheme s
of_text text s e = by (nat_lt 0 (position_or_len ends_scheme text)) (get_or text (position_or_len ends_scheme text) 0 == 58) refl refl
  where
    found : Bool → Option (List ℕ)
    found b = part_at text (cond b (Some (0, position_or_len ends_scheme text)) None)

    by : (a b : Bool) → nat_lt 0 (position_or_len ends_scheme text) ≡ a → (get_or text (position_or_len ends_scheme text) 0 == 58) ≡ b → IsScheme s
    by true true p q =
        let is : Some (take (position_or_len ends_scheme text - 0) text) ≡ Some s = sym (ap (λ v. found (v && (get_or text (position_or_len ends_scheme text) 0 == 58))) p ∙ ap (λ v. found (true && v)) q) ∙ e in
        let same : take (position_or_len ends_scheme text - 0) text ≡ s = cc in
        let whole : take (position_or_len ends_scheme text) text ≡ s = ap (λ n. take n text) (let z : position_or_len ends_scheme text ≡ position_or_len ends_scheme text - 0 = omega arith in z) ∙ same in
        subst IsScheme whole (front text (ltb-true 0 _ p))
    by true false p q =
        let is : None ≡ Some s = sym (ap (λ v. found (v && (get_or text (position_or_len ends_scheme text) 0 == 58))) p ∙ ap (λ v. found (true && v)) q) ∙ e in cc
    by false b p q =
        let is : None ≡ Some s = sym (ap (λ v. found (v && (get_or text (position_or_len ends_scheme text) 0 == 58))) p) ∙ e in cc

-- where a component is recomposed, its scheme comes first
recomposed_has : (c : Components) (s : List ℕ) → c.scheme ≡ Some s → IsScheme s → is_some (scheme_of (recomposed c)) ≡ true
recomposed_has c s e h = by c.scheme e
  where
    rest : List ℕ
    rest = marked (47 ∷ 47 ∷ []) c.authority ++ (c.path ++ (marked (63 ∷ []) c.query ++ marked (35 ∷ []) c.fragment))

    laid : (front a b d f : List ℕ) → ((((front ++ 58 ∷ []) ++ a) ++ b) ++ d) ++ f ≡ front ++ (58 ∷ (a ++ (b ++ (d ++ f))))
    laid front a b d f = simp append_assoc

    by : (o : Option (List ℕ)) → o ≡ Some s → is_some (scheme_of ((((scheme_text o ++ marked (47 ∷ 47 ∷ []) c.authority) ++ c.path) ++ marked (63 ∷ []) c.query) ++ marked (35 ∷ []) c.fragment)) ≡ true
    by None p = cc
    by (Some t) p =
        let same : t ≡ s = cc in
        ap (λ text. is_some (scheme_of text)) (laid t (marked (47 ∷ 47 ∷ []) c.authority) c.path (marked (63 ∷ []) c.query) (marked (35 ∷ []) c.fragment))
        ∙ is_scheme t _ (subst IsScheme (sym same) h)

some_of : {X : Type 0} (o : Option X) → is_some o ≡ true → (x : X) × (o ≡ Some x)
some_of None h = absurd (true≢false (sym h))
some_of (Some x) h = (x, refl)

mapped : {X Y : Type 0} (f : X → Y) (o : Option X) → is_some o ≡ true → is_some (option_map f o) ≡ true
mapped f None h = h
mapped f (Some x) h = refl

-- the scheme of what is transformed is the reference's, or else the base's
scheme_own : (b r : Components) (s : List ℕ) → r.scheme ≡ Some s → (transformed b r).scheme ≡ Some s
scheme_own b r s e = let p : is_some r.scheme ≡ true = ap is_some e in rw p e

pick : (b : Option (List ℕ)) (v w : Bool) (x y z : Components) → x.scheme ≡ b → y.scheme ≡ b → z.scheme ≡ b → (cond v x (cond w y z)).scheme ≡ b
pick b true w x y z p q r = p
pick b false true x y z p q r = q
pick b false false x y z p q r = r

scheme_base : (b r : Components) (s : List ℕ) → r.scheme ≡ None → b.scheme ≡ Some s → (transformed b r).scheme ≡ Some s
scheme_base b r s e f = let p : is_some r.scheme ≡ false = ap is_some e in rw p (pick b.scheme (is_some r.authority) (length r.path == 0) _ _ _ refl refl refl ∙ f)

pub has_scheme : (base reference : List ℕ) → is_some (scheme_of base) ≡ true → is_some (scheme_of (resolved base reference)) ≡ true
has_scheme base reference h = by (components reference).scheme refl
  where
    own : (s : List ℕ) × ((components base).scheme ≡ Some s)
    own = some_of _ (mapped _ (scheme_of base) h)

    by : (o : Option (List ℕ)) → (components reference).scheme ≡ o → is_some (scheme_of (resolved base reference)) ≡ true
    by (Some s) e = recomposed_has _ s (scheme_own (components base) (components reference) s e) (of_text reference s e)
    by None e = recomposed_has _ own.0 (scheme_base (components base) (components reference) own.0 e own.1) (of_text base own.0 own.1)
