-- A function that is changed at one number.
use Rattle.std.proofs.Common.{◌≡◌, ◌≢◌, ℕ, refl, sym, ap, subst, ◌∙◌}
use native.Mathlib.Decide.{ℕ_discrete}

module _ {A : Type 0} where
  abbrev pick : {P : Type 0} → Dec P → A → A → A
  pick (yes _) here there = here
  pick (no _) here there = there

  pub put : (ℕ → A) → ℕ → A → ℕ → A
  put f i x j = pick (ℕ_discrete j i) x (f j)

  pub put_here : (f : ℕ → A) (i : ℕ) (x : A) → put f i x i ≡ x
  unfolding put
  put_here f i x = go (ℕ_discrete i i)
    where
      go : (d : Dec (i ≡ i)) → pick d x (f i) ≡ x
      go (yes _) = refl
      go (no other) = absurd (other refl)

  pub put_else : (f : ℕ → A) (i : ℕ) (x : A) (j : ℕ) → j ≢ i → put f i x j ≡ f j
  unfolding put
  put_else f i x j other = go (ℕ_discrete j i)
    where
      go : (d : Dec (j ≡ i)) → pick d x (f j) ≡ f j
      go (yes e) = absurd (other e)
      go (no _) = refl

  -- what is put is what was there
  pub put_same : (f : ℕ → A) (i : ℕ) (x : A) → x ≡ f i → (j : ℕ) → put f i x j ≡ f j
  unfolding put
  put_same f i x same j = go (ℕ_discrete j i)
    where
      go : (d : Dec (j ≡ i)) → pick d x (f j) ≡ f j
      go (yes e) = same ∙ ap f (sym e)
      go (no _) = refl

module _ {A B : Type 0} (g : A → B) where
  -- a function of it is changed at the same number
  pub put_map : (f : ℕ → A) (i : ℕ) (x : A) (j : ℕ) → g (put f i x j) ≡ put (λ k. g (f k)) i (g x) j
  unfolding put
  put_map f i x j = go (ℕ_discrete j i)
    where
      go : (d : Dec (j ≡ i)) → g (pick d x (f j)) ≡ pick d (g x) (g (f j))
      go (yes _) = refl
      go (no _) = refl

-- In what holds between two of its values, the one and then the other is changed, where it is theirs.
pub sides : {T : Type 0} (F E G : T → T → Type 0) (f : ℕ → T) (i : ℕ) (x : T) (one two : ℕ)
    → (one ≡ i → (t : T) → F (f i) t → E x t) → (one ≢ i → (s t : T) → F s t → E s t)
    → (two ≡ i → (s : T) → E s (f i) → G s x) → (two ≢ i → (s t : T) → E s t → G s t)
    → F (f one) (f two) → G (put f i x one) (put f i x two)
unfolding put
sides {T} F E G f i x one two first not_first second not_second h = go (ℕ_discrete one i) (ℕ_discrete two i)
  where
    begun : (d : Dec (one ≡ i)) → E (pick d x (f one)) (f two)
    begun (yes e) = first e (f two) (subst (λ (k : ℕ). F (f k) (f two)) e h)
    begun (no other) = not_first other (f one) (f two) h

    go : (d : Dec (one ≡ i)) (d' : Dec (two ≡ i)) → G (pick d x (f one)) (pick d' x (f two))
    go d (yes e) = second e (pick d x (f one)) (subst (λ (k : ℕ). E (pick d x (f one)) (f k)) e (begun d))
    go d (no other) = not_second other (pick d x (f one)) (f two) (begun d)
