-- The table of groups is held against the classes at each byte, by computing.
use Rattle.std.proofs.Common.{◌≡◌, ℕ, true, sym, subst}
use Rattle.std.proofs.lemmas.Bool.{agree_below, agree_below_at}
use Rattle.turtle_lex.specs.declared.class.Class.{Class}
use Rattle.turtle_lex.specs.Classes.{class_byte, is_among, AreGroupsOf}

pub groups_of : (class shown : Class) (groups : ℕ) → class ≡ shown → agree_below (is_among groups) (class_byte shown) 256 ≡ true → AreGroupsOf class groups
groups_of class shown groups e h =
    let P : Class → Type 0 = λ k. AreGroupsOf k groups in
    subst P (sym e) (λ b lt. agree_below_at (is_among groups) (class_byte shown) 256 b h lt)
