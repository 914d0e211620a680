-- One more of a chain's first rows was compared.
use Rattle.std.proofs.Common.{◌≡◌, ℕ, ◌+◌, ◌≤◌, List, [], ◌∷◌, ◌++◌, length, take, Contains, ap, sym, subst, ◌∙◌, arith, zero, suc, length-append}
use Rattle.std.proofs.Math.Logic.{⊎_elim}
use Rattle.std.proofs.Math.Seq.{take-append-add}
use Rattle.std.proofs.lemmas.List.{append_assoc, length-take-le}
use Rattle.std.proofs.lemmas.List.Elements.{Contains-append_cases}
use Rattle.triple_store.specs.declared.term.Triple.{Triple}

the_one : (row t : Triple) → Contains (row ∷ []) t → row ≡ t
the_one row t (zero, h, e) = e
the_one row t (suc k, h, e) = absurd (omega (arith, h))

pub further : (chain left rest : List Triple) (row t : Triple) (k : ℕ) → chain ≡ take k chain ++ left → k ≤ length chain → (¬ Contains (take k chain) t) → left ≡ row ∷ rest → (¬ (row ≡ t))
    → (chain ≡ take (k + 1) chain ++ rest) × (k + 1 ≤ length chain) × (¬ Contains (take (k + 1) chain) t)
further chain left rest row t k split within before is other =
    let whole : chain ≡ take k chain ++ (row ∷ rest) = split ∙ ap (λ l. take k chain ++ l) is in
    let long : length (take k chain) ≡ k = length-take-le k chain within in
    let cut : take (k + 1) chain ≡ take k chain ++ row ∷ [] =
    ap (take (k + 1)) whole ∙ ap (λ n. take (n + 1) (take k chain ++ (row ∷ rest))) (sym long) ∙ take-append-add (take k chain) (row ∷ rest) 1 in
    let count : length chain ≡ length (take k chain) + length (row ∷ rest) = ap length whole ∙ length-append (take k chain) (row ∷ rest) in (
      whole ∙ sym (ap (λ l. l ++ rest) cut ∙ append_assoc (take k chain) (row ∷ []) rest),
      omega (arith, count, long),
      λ there. ⊎_elim before (λ (h : Contains (row ∷ []) t). other (the_one row t h)) (Contains-append_cases (take k chain) (row ∷ []) t (subst (λ l. Contains l t) cut there)),
    )
