-- Which types have a form: the table read backwards.
use Rattle.std.proofs.Common.{◌≡◌, ℕ, zero, suc, ◌⊎◌, inl, inr, refl}
use Rattle.atom_core.specs.declared.form.Form.{Form}
use Rattle.atom_core.specs.declared.form.Form.TheVariants.{Any, Four, Eight, Text, Literal, Vector, Tuple, Object, Sequence}
use Rattle.atom_core.specs.Form.{form_of}

-- the types of a form
abbrev pub HasForm : ℕ → Form → Type 0
HasForm kind Any = Unit {0}
HasForm kind Four = (kind ≡ 1) ⊎ ((kind ≡ 3) ⊎ ((kind ≡ 4) ⊎ (kind ≡ 12)))
HasForm kind Eight = (kind ≡ 2) ⊎ ((kind ≡ 13) ⊎ (kind ≡ 14))
HasForm kind Text = (kind ≡ 5) ⊎ ((kind ≡ 24) ⊎ (kind ≡ 25))
HasForm kind Literal = (kind ≡ 6)
HasForm kind Vector = (kind ≡ 7)
HasForm kind Tuple = (kind ≡ 8)
HasForm kind Object = (kind ≡ 9)
HasForm kind Sequence = (kind ≡ 10)

pub known : (kind : ℕ) → HasForm kind (form_of kind)
unfolding form_of
known zero = tt
known (suc zero) = inl refl
known (suc (suc zero)) = inl refl
known (suc (suc (suc zero))) = inr (inl refl)
known (suc (suc (suc (suc zero)))) = inr (inr (inl refl))
known (suc (suc (suc (suc (suc zero))))) = inl refl
known (suc (suc (suc (suc (suc (suc zero)))))) = refl
known (suc (suc (suc (suc (suc (suc (suc zero))))))) = refl
known (suc (suc (suc (suc (suc (suc (suc (suc zero)))))))) = refl
known (suc (suc (suc (suc (suc (suc (suc (suc (suc zero))))))))) = refl
known (suc (suc (suc (suc (suc (suc (suc (suc (suc (suc zero)))))))))) = refl
known (suc (suc (suc (suc (suc (suc (suc (suc (suc (suc (suc zero))))))))))) = tt
known (suc (suc (suc (suc (suc (suc (suc (suc (suc (suc (suc (suc zero)))))))))))) = inr (inr (inr refl))
known (suc (suc (suc (suc (suc (suc (suc (suc (suc (suc (suc (suc (suc zero))))))))))))) = inr (inl refl)
known (suc (suc (suc (suc (suc (suc (suc (suc (suc (suc (suc (suc (suc (suc zero)))))))))))))) = inr (inr refl)
known (suc (suc (suc (suc (suc (suc (suc (suc (suc (suc (suc (suc (suc (suc (suc zero))))))))))))))) = tt
known (suc (suc (suc (suc (suc (suc (suc (suc (suc (suc (suc (suc (suc (suc (suc (suc zero)))))))))))))))) = tt
known (suc (suc (suc (suc (suc (suc (suc (suc (suc (suc (suc (suc (suc (suc (suc (suc (suc zero))))))))))))))))) = tt
known (suc (suc (suc (suc (suc (suc (suc (suc (suc (suc (suc (suc (suc (suc (suc (suc (suc (suc zero)))))))))))))))))) = tt
known (suc (suc (suc (suc (suc (suc (suc (suc (suc (suc (suc (suc (suc (suc (suc (suc (suc (suc (suc zero))))))))))))))))))) = tt
known (suc (suc (suc (suc (suc (suc (suc (suc (suc (suc (suc (suc (suc (suc (suc (suc (suc (suc (suc (suc zero)))))))))))))))))))) = tt
known (suc (suc (suc (suc (suc (suc (suc (suc (suc (suc (suc (suc (suc (suc (suc (suc (suc (suc (suc (suc (suc zero))))))))))))))))))))) = tt
known (suc (suc (suc (suc (suc (suc (suc (suc (suc (suc (suc (suc (suc (suc (suc (suc (suc (suc (suc (suc (suc (suc zero)))))))))))))))))))))) = tt
known (suc (suc (suc (suc (suc (suc (suc (suc (suc (suc (suc (suc (suc (suc (suc (suc (suc (suc (suc (suc (suc (suc (suc zero))))))))))))))))))))))) = tt
known (suc (suc (suc (suc (suc (suc (suc (suc (suc (suc (suc (suc (suc (suc (suc (suc (suc (suc (suc (suc (suc (suc (suc (suc zero)))))))))))))))))))))))) = inr (inl refl)
known (suc (suc (suc (suc (suc (suc (suc (suc (suc (suc (suc (suc (suc (suc (suc (suc (suc (suc (suc (suc (suc (suc (suc (suc (suc zero))))))))))))))))))))))))) = inr (inr refl)
known (suc (suc (suc (suc (suc (suc (suc (suc (suc (suc (suc (suc (suc (suc (suc (suc (suc (suc (suc (suc (suc (suc (suc (suc (suc (suc kind)))))))))))))))))))))))))) = tt
