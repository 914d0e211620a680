-- An amplifier is declared well.
use Rattle.std.proofs.Common.{◌≡◌, ℕ, zero, suc, ◌≤◌, List, [], ◌∷◌, All, length, slice_get, arith}
use Rattle.std.specs.Prelude.{IfSome}
use Rattle.std.proofs.lemmas.List.Elements.{All-nil, All-cons}
use Rattle.plugin_decl.specs.declared.declaration.Decl.{Decl}
use Rattle.plugin_decl.specs.declared.declaration.Port.{Port}
use Rattle.plugin_decl.specs.Valid.{HasRoom, IsValid}
use Rattle.signal_tests.specs.Amplifier.{AreThree}

few : (ports : List Port) → AreThree ports → length ports ≤ 256
few (a ∷ (b ∷ (c ∷ []))) are = omega arith
few [] are = absurd are
few (a ∷ []) are = absurd are
few (a ∷ (b ∷ [])) are = absurd are
few (a ∷ (b ∷ (c ∷ (d ∷ ports)))) are = absurd are

numbered : (ports : List Port) → AreThree ports → (i : ℕ) → IfSome (slice_get ports i) (λ (port : Port). port.index ≡ i)
numbered (a ∷ (b ∷ (c ∷ []))) are zero = are.0
numbered (a ∷ (b ∷ (c ∷ []))) are (suc zero) = are.1
numbered (a ∷ (b ∷ (c ∷ []))) are (suc (suc zero)) = are.2
numbered (a ∷ (b ∷ (c ∷ []))) are (suc (suc (suc i))) = tt
numbered [] are i = absurd are
numbered (a ∷ []) are i = absurd are
numbered (a ∷ (b ∷ [])) are i = absurd are
numbered (a ∷ (b ∷ (c ∷ (d ∷ ports)))) are i = absurd are

rooms : (ports : List Port) → AreThree ports → All HasRoom ports
rooms (a ∷ (b ∷ (c ∷ []))) are =
    All-cons HasRoom a (b ∷ (c ∷ [])) are.3 (All-cons HasRoom b (c ∷ []) are.4 (All-cons HasRoom c [] are.5 (All-nil HasRoom)))
rooms [] are = absurd are
rooms (a ∷ []) are = absurd are
rooms (a ∷ (b ∷ [])) are = absurd are
rooms (a ∷ (b ∷ (c ∷ (d ∷ ports)))) are = absurd are

pub three_valid : (one : Decl) → AreThree one.ports → IsValid one
three_valid one are = record { few = few one.ports are; numbered = numbered one.ports are; rooms = rooms one.ports are }
