-- An echo is declared well, and what its outputs are before a run.
use Rattle.std.proofs.Common.{◌≡◌, ℕ, zero, suc, ◌≤◌, ◌<◌, true, false, ◌&&◌, List, [], ◌∷◌, All, length, get_or, Option, Some, slice_get, refl, sym, subst, arith}
use Rattle.std.specs.Prelude.{IfSome, slice_index}
use Rattle.std.specs.Option.{option_map_or}
use Rattle.std.proofs.lemmas.List.Elements.{All-nil, All-cons, All-get_or}
use Rattle.std.proofs.lemmas.Option.{slice_get-get_or}
use Rattle.plugin_decl.specs.declared.declaration.Decl.{Decl}
use Rattle.plugin_decl.specs.declared.declaration.Port.{Port}
use Rattle.plugin_decl.specs.declared.declaration.PortKind.{PortKind}
use Rattle.plugin_decl.specs.declared.declaration.PortKind.TheVariants.{Atom}
use Rattle.plugin_decl.specs.Valid.{FitsKind, HasRoom, IsValid}
use Rattle.graph_order.specs.declared.setup.Setup.{Setup}
use Rattle.plug_api.specs.Buffers.{begun_forge}
use Rattle.plug_api.specs.Ports.{room_of}
use Rattle.plug_api.specs.Roles.{is_atom, has_atom}
use Rattle.session_play.specs.Setup.{ports_of}
use Rattle.block_signals.specs.Places.{quiet_outs, places_of}
use Rattle.signal_tests.specs.Echo.{AreTwo, IsEcho, AreEchoes}

few : (ports : List Port) → AreTwo ports → length ports ≤ 256
few (a ∷ (b ∷ [])) are = omega arith
few [] are = absurd are
few (a ∷ []) are = absurd are
few (a ∷ (b ∷ (c ∷ ports))) are = absurd are

numbered : (ports : List Port) → AreTwo ports → (i : ℕ) → IfSome (slice_get ports i) (λ (port : Port). port.index ≡ i)
numbered (a ∷ (b ∷ [])) are zero = are.0
numbered (a ∷ (b ∷ [])) are (suc zero) = are.1
numbered (a ∷ (b ∷ [])) are (suc (suc i)) = tt
numbered [] are i = absurd are
numbered (a ∷ []) are i = absurd are
numbered (a ∷ (b ∷ (c ∷ ports))) are i = absurd are

room : (port : Port) → port.kind ≡ Atom → port.room ≡ 4096 → HasRoom port
room port kind many =
    let fits : FitsKind Atom 4096 = record { least = omega arith; most = omega arith; aligned = refl } in
    let P : PortKind → ℕ → Type 0 = λ k n. FitsKind k n in
    subst (λ (n : ℕ). P port.kind n) (sym many) (subst (λ (k : PortKind). P k 4096) (sym kind) fits)

rooms : (ports : List Port) → AreTwo ports → All HasRoom ports
rooms (a ∷ (b ∷ [])) are = All-cons HasRoom a (b ∷ []) (room a are.4 are.6) (All-cons HasRoom b [] (room b are.5 are.7) (All-nil HasRoom))
rooms [] are = absurd are
rooms (a ∷ []) are = absurd are
rooms (a ∷ (b ∷ (c ∷ ports))) are = absurd are

pub two_valid : (one : Decl) → AreTwo one.ports → IsValid one
two_valid one are = record { few = few one.ports are; numbered = numbered one.ports are; rooms = rooms one.ports are }

-- ---- its ports

pub record HasPorts (frames : ℕ) (ports : List Port) : Type 0 where
  pub quiet : (quiet_outs frames ports).forges ≡ begun_forge 4096 ∷ []
  pub place : slice_index (places_of ports) 1 ≡ 0
  pub there : has_atom false ports 1 ≡ true
  pub space : room_of ports 1 ≡ 4096
  pub input : Port
  pub at : slice_get ports 0 ≡ Some input
  pub takes : (input.input && is_atom input.kind) ≡ true

pub two_ports : (frames : ℕ) (ports : List Port) → AreTwo ports → HasPorts frames ports
two_ports frames (a ∷ (b ∷ [])) are = record {
  quiet = rw (are.2, are.3, are.5, are.7) refl;
  place = rw (are.1, are.2) refl;
  there = rw (are.3, are.5) refl;
  space = are.7;
  input = a;
  at = refl;
  takes = rw (are.2, are.4) refl;
}
two_ports frames [] are = absurd are
two_ports frames (a ∷ []) are = absurd are
two_ports frames (a ∷ (b ∷ (c ∷ ports))) are = absurd are

pub ports_two : (setup : Setup) (k : ℕ) → AreEchoes setup → k < 2 → (one : Decl) × (slice_get setup.decls k ≡ Some one) × AreTwo (ports_of setup k)
ports_two setup k are h = by setup.decls are.two are.each
  where
    by : (decls : List Decl) → length decls ≡ 2 → All IsEcho decls
        → (one : Decl) × (slice_get decls k ≡ Some one) × AreTwo (option_map_or (λ (it : Decl). it.ports) (slice_get decls k) [])
    by [] two each = absurd (omega (arith, two))
    by (d ∷ decls) two each =
        let there : k < length (d ∷ decls) = omega (arith, two, h) in
        let at : slice_get (d ∷ decls) k ≡ Some (get_or (d ∷ decls) k d) = slice_get-get_or (d ∷ decls) k d there in (
          get_or (d ∷ decls) k d,
          at,
          subst (λ (found : Option Decl). AreTwo (option_map_or (λ (it : Decl). it.ports) found [])) (sym at) (All-get_or IsEcho (d ∷ decls) k d there each),
        )
