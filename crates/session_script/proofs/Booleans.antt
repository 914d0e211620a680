-- What tests and their parts say.
use Rattle.std.proofs.Common.{◌≡◌, Bool, true, false, not, Some, None, refl, sym}
use Rattle.std.specs.Prelude.{◌&&◌}
use Rattle.std.proofs.lemmas.Bool.{false≢true}

pub both : (a b : Bool) → (a && b) ≡ true → (a ≡ true) × (b ≡ true)
both true b h = (refl, h)
both false b h = absurd (false≢true h)

pub not-true : (b : Bool) → not b ≡ true → b ≡ false
not-true true h = sym h
not-true false h = refl

pub not-false : (b : Bool) → not b ≡ false → b ≡ true
not-false true h = refl
not-false false h = sym h

pub some-none : {X : Type 0} (x : X) → Some x ≡ None → ⊥
some-none x e = cc
