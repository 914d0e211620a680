-- Which of two versions is greater, and the bundle that counts among one more.
use Rattle.std.proofs.Common.{◌≡◌, ℕ, zero, suc, add-one, ◌+◌, ◌<◌, ◌⊎◌, Bool, true, false, List, length, get_or, Option, Some, None, option_and_then, refl, sym, ◌∙◌, ap, subst, arith, ⊎_elim, if◌then◌else◌}
use Rattle.std.proofs.lemmas.Bool.Decides.{nat_tests}
use Rattle.std.proofs.lemmas.Option.{slice_get_read}
use Rattle.triple_store.specs.declared.term.Triple.{Triple}
use Rattle.plugin_decl.specs.declared.declaration.Version.{Version}
use Rattle.plugin_decl.specs.Declaration.{version_of}
use Rattle.session_setup.specs.declared.newest.Declared.{Declared}
use Rattle.session_setup.specs.Newest.{is_above, version_at, IsNowhere, IsNewest, Finds, newer}

-- ---- the order of versions

-- what is above one that isn't below another is above that one
above-other : (a b c : Version) → is_above a b ≡ true → is_above c b ≡ false → is_above a c ≡ true
above-other a b c above below = grind (arith, nat_tests)

-- what isn't above a lesser one isn't above a greater one
not-above : (a b c : Version) → is_above a b ≡ true → is_above c b ≡ false → is_above c a ≡ false
not-above a b c above below = grind (arith, nat_tests)

-- none is above itself
not-itself : (a : Version) → is_above a a ≡ false
not-itself a = grind (arith, nat_tests)

-- ---- one more bundle

lt_or_eq : (place n : ℕ) → place < n + 1 → (place < n) ⊎ (place ≡ n)
lt_or_eq place n within = grind arith

at_next : (P : ℕ → Type 0) (n place : ℕ) → ((k : ℕ) → k < n → P k) → P n → place < n + 1 → P place
at_next P n place below here within = ⊎_elim
    (λ (lt : place < n). below place lt)
    (λ (eq : place ≡ n). subst P (sym eq) here)
    (lt_or_eq place n within)

same-some : (a b : Version) (x : Option Version) → x ≡ Some a → x ≡ Some b → a ≡ b
same-some a b x here there = cc

none-some : (b : Version) (x : Option Version) → x ≡ None → x ≡ Some b → ⊥
none-some b x none some = cc

-- the declared version of a record
abbrev declared : ℕ → Version → Declared
declared place version = record { place = place; version = version }

-- it declares nothing: all stays
kept : (bundles : List (List Triple)) (uri : List ℕ) (n : ℕ) (found : Option Declared) → version_at bundles uri n ≡ None → Finds bundles uri n found
    → Finds bundles uri (n + 1) found
kept bundles uri n None here finds = λ place within. at_next (λ k. version_at bundles uri k ≡ None) n place finds here within
kept bundles uri n (Some found) here finds = record {
  there = omega (arith, finds.there);
  declared = finds.declared;
  greatest = λ place version within is. at_next (λ k. version_at bundles uri k ≡ Some version → is_above version found.version ≡ false) n place
      (λ k lt at. finds.greatest k version lt at) (λ at. absurd (none-some version _ here at)) within is;
  first = finds.first;
}

-- it is the first that declares the plug-in
begun : (bundles : List (List Triple)) (uri : List ℕ) (n : ℕ) (version : Version) → version_at bundles uri n ≡ Some version → IsNowhere bundles uri n
    → IsNewest bundles uri (n + 1) (record { place = n; version = version })
begun bundles uri n version here none = record {
  there = omega arith;
  declared = here;
  greatest = λ place other within is. at_next (λ k. version_at bundles uri k ≡ Some other → is_above other version ≡ false) n place
      (λ k lt at. absurd (none-some other _ (none k lt) at))
      (λ at. subst (λ one. is_above one version ≡ false) (same-some version other _ here at) (not-itself version)) within is;
  first = λ place other before is. absurd (none-some other _ (none place before) is);
}

-- it declares a greater version
passed : (bundles : List (List Triple)) (uri : List ℕ) (n : ℕ) (found : Declared) (version : Version) → version_at bundles uri n ≡ Some version
    → is_above version found.version ≡ true → IsNewest bundles uri n found → IsNewest bundles uri (n + 1) (record { place = n; version = version })
passed bundles uri n found version here above newest = record {
  there = omega arith;
  declared = here;
  greatest = λ place other within is. at_next (λ k. version_at bundles uri k ≡ Some other → is_above other version ≡ false) n place
      (λ k lt at. not-above version found.version other above (newest.greatest k other lt at))
      (λ at. subst (λ one. is_above one version ≡ false) (same-some version other _ here at) (not-itself version)) within is;
  first = λ place other before is. above-other version found.version other above (newest.greatest place other before is);
}

-- it declares no greater version
stayed : (bundles : List (List Triple)) (uri : List ℕ) (n : ℕ) (found : Declared) (version : Version) → version_at bundles uri n ≡ Some version
    → is_above version found.version ≡ false → IsNewest bundles uri n found → IsNewest bundles uri (n + 1) found
stayed bundles uri n found version here below newest = record {
  there = omega (arith, newest.there);
  declared = newest.declared;
  greatest = λ place other within is. at_next (λ k. version_at bundles uri k ≡ Some other → is_above other found.version ≡ false) n place
      (λ k lt at. newest.greatest k other lt at)
      (λ at. subst (λ one. is_above one found.version ≡ false) (same-some version other _ here at) below) within is;
  first = newest.first;
}

by-test : (bundles : List (List Triple)) (uri : List ℕ) (n : ℕ) (found : Declared) (version : Version) (b : Bool) → is_above version found.version ≡ b
    → version_at bundles uri n ≡ Some version → IsNewest bundles uri n found
    → Finds bundles uri (n + 1) (if b then Some (record { place = n; version = version }) else Some found)
by-test bundles uri n found version true e here newest = passed bundles uri n found version here e newest
by-test bundles uri n found version false e here newest = stayed bundles uri n found version here e newest

more : (bundles : List (List Triple)) (uri : List ℕ) (n : ℕ) (found : Option Declared) (version : Option Version) → version_at bundles uri n ≡ version
    → Finds bundles uri n found → Finds bundles uri (n + 1) (newer found n version)
more bundles uri n found None here finds = kept bundles uri n found here finds
more bundles uri n None (Some version) here finds = begun bundles uri n version here finds
more bundles uri n (Some found) (Some version) here finds =
    by-test bundles uri n found version (is_above version found.version) refl here finds

pub newer-finds : (bundles : List (List Triple)) (uri : List ℕ) (n : ℕ) (found : Option Declared) (rows : List Triple) → n < length bundles
    → rows ≡ get_or bundles n rows → Finds bundles uri n found → Finds bundles uri (n + 1) (newer found n (version_of rows uri))
newer-finds bundles uri n found rows within here finds =
    more bundles uri n found (version_of rows uri) (ap (λ one. option_and_then (λ rows. version_of rows uri) one) (slice_get_read bundles (length bundles) n rows refl within here)) finds

-- ---- the laws

lt_cases : (p q : ℕ) → (p < q) ⊎ ((q < p) ⊎ (p ≡ q))
lt_cases p q = grind arith

not_both : (b : Bool) → b ≡ true → b ≡ false → ⊥
not_both b holds fails = cc

ordered : (bundles : List (List Triple)) (uri : List ℕ) (n : ℕ) (a b : Declared) → IsNewest bundles uri n a → IsNewest bundles uri n b → a.place < b.place → ⊥
ordered bundles uri n a b x y before =
    not_both (is_above b.version a.version) (y.first a.place a.version before x.declared) (x.greatest b.place b.version y.there y.declared)

same-version : (bundles : List (List Triple)) (uri : List ℕ) (p q : ℕ) (v w : Version) → version_at bundles uri p ≡ Some v → version_at bundles uri q ≡ Some w → p ≡ q → v ≡ w
same-version bundles uri p q v w x y e = same-some v w (version_at bundles uri q) (subst (λ k. version_at bundles uri k ≡ Some v) e x) y

same : (bundles : List (List Triple)) (uri : List ℕ) (a b : Declared) → version_at bundles uri a.place ≡ Some a.version → version_at bundles uri b.place ≡ Some b.version
    → a.place ≡ b.place → a ≡ b
same bundles uri a b x y e =
    ap (λ p. declared p a.version) e ∙ ap (λ v. declared b.place v) (same-version bundles uri a.place b.place a.version b.version x y e)

pub one_newest : (bundles : List (List Triple)) (uri : List ℕ) (n : ℕ) (a b : Option Declared) → Finds bundles uri n a → Finds bundles uri n b → a ≡ b
one_newest bundles uri n None None x y = refl
one_newest bundles uri n None (Some b) x y = absurd (none-some b.version _ (x b.place y.there) y.declared)
one_newest bundles uri n (Some a) None x y = absurd (none-some a.version _ (y a.place x.there) x.declared)
one_newest bundles uri n (Some a) (Some b) x y = ap Some (⊎_elim
    (λ (lt : a.place < b.place). absurd (ordered bundles uri n a b x y lt))
    (λ (rest : (b.place < a.place) ⊎ (a.place ≡ b.place)). ⊎_elim
    (λ (gt : b.place < a.place). absurd (ordered bundles uri n b a y x gt))
    (λ (eq : a.place ≡ b.place). same bundles uri a b x.declared y.declared eq) rest)
    (lt_cases a.place b.place))

pub some_newest : (bundles : List (List Triple)) (uri : List ℕ) (n : ℕ) → (found : Option Declared) × Finds bundles uri n found
some_newest bundles uri zero = (None, λ place within. absurd (omega (arith, within)))
some_newest bundles uri (suc n) =
    let before = some_newest bundles uri n in (
      newer before.0 n (version_at bundles uri n),
      subst (λ k. Finds bundles uri k (newer before.0 n (version_at bundles uri n))) (add-one n) (more bundles uri n before.0 (version_at bundles uri n) refl before.1),
    )
