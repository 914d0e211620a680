-- What the outputs of all instances show, from block to block.
use Rattle.std.proofs.Common.{◌≡◌, ℕ, ◌≤◌, List, [], ◌++◌, take, drop, All, length, map, Option, Some, None, slice_get, option_map, refl, sym, ap, subst, ◌∙◌}
use Rattle.std.specs.Option.{option_map_or}
use Rattle.std.proofs.lemmas.List.{length-map, take_all, drop_all, take_at, append-nil}
use Rattle.std.proofs.lemmas.List.Elements.{All-nil, All-get_or}
use Rattle.std.proofs.lemmas.Option.{none-some, same_Some, slice_get-map, slice_get_within, get_or_from_slice_get}
use Rattle.plugin_decl.specs.declared.declaration.Decl.{Decl}
use Rattle.plugin_decl.specs.declared.declaration.Port.{Port}
use Rattle.plugin_decl.specs.Valid as decl
use Rattle.graph_order.specs.declared.setup.Setup.{Setup}
use Rattle.graph_order.specs.Setup.{IsReady}
use Rattle.plug_api.specs.Buffers.{Left, silenced}
use Rattle.session_play.specs.Setup.{ports_of}
use Rattle.block_signals.specs.declared.outlet.Outlet.{Outlet}
use Rattle.block_signals.specs.declared.outlets.Outlets.{Outlets}
use Rattle.block_signals.specs.Board.{Board, blank, block_begun}
use Rattle.block_signals.specs.Outlets.{ShowsInstance, ShowsOutputs}
use Rattle.block_signals.specs.Places.{quiet_outs}
use Rattle.block_signals.proofs.Outs.{begun_outlet, formed_after}

-- the declaration of an instance is valid
pub decl_valid : (setup : Setup) (inst : ℕ) (found : Decl) → IsReady setup → slice_get setup.decls inst ≡ Some found → decl.IsValid found
decl_valid setup inst found ready here =
    subst decl.IsValid (get_or_from_slice_get setup.decls inst found found here)
    (All-get_or decl.IsValid setup.decls inst found (slice_get_within setup.decls inst found here) ready.decls)

-- its ports have their rooms
pub rooms_of : (setup : Setup) (inst : ℕ) → IsReady setup → All decl.HasRoom (ports_of setup inst)
rooms_of setup inst ready = by (slice_get setup.decls inst) refl
  where
    by : (found : Option Decl) → slice_get setup.decls inst ≡ found → All decl.HasRoom (option_map_or (λ (one : Decl). one.ports) found [])
    by None e = All-nil decl.HasRoom
    by (Some one) e = (decl_valid setup inst one ready e).rooms

-- ---- a block begins

begun_shows_instance : (setup : Setup) (board : Board) (inst : ℕ) (outlet : Outlet) → IsReady setup → ShowsInstance setup board inst outlet
    → ShowsInstance setup (block_begun board) inst (begun_outlet outlet)
begun_shows_instance setup board inst outlet ready shown = record {
  now = record {
    fit = tt;
    are = ap (λ (outs : Left). silenced outs) shown.before.are
        ∙ formed_after setup.session.block (ports_of setup inst) (board.before inst) (rooms_of setup inst ready) shown.before.fit;
  };
  before = shown.now;
}

pub begun_shows : (setup : Setup) (board : Board) (old new : Outlets) → IsReady setup → ShowsOutputs setup board old
    → new.each.items ≡ map begun_outlet old.each.items → ShowsOutputs setup (block_begun board) new
begun_shows setup board old new ready shown is = record {
  all = ap length is ∙ length-map old.each.items begun_outlet ∙ shown.all;
  shown = λ inst outlet here. by inst outlet (sym (slice_get-map begun_outlet old.each.items inst) ∙ ap (λ items. slice_get items inst) (sym is) ∙ here) (slice_get old.each.items inst) refl;
}
  where
    by : (inst : ℕ) (outlet : Outlet) → option_map begun_outlet (slice_get old.each.items inst) ≡ Some outlet
        → (found : Option Outlet) → slice_get old.each.items inst ≡ found → ShowsInstance setup (block_begun board) inst outlet
    by inst outlet e None f = absurd (none-some outlet (sym (ap (option_map begun_outlet) f) ∙ e))
    by inst outlet e (Some older) f =
        subst (λ (it : Outlet). ShowsInstance setup (block_begun board) inst it)
        (same_Some (begun_outlet older) outlet (sym (ap (option_map begun_outlet) f) ∙ e))
        (begun_shows_instance setup board inst older ready (shown.shown inst older f))

-- ---- at first

-- outputs that gave nothing, in this block and in the one before
abbrev pub quiet_outlet : ℕ → Decl → Outlet
quiet_outlet frames one = record { now = quiet_outs frames one.ports; before = quiet_outs frames one.ports }

pub quiet_shows : (setup : Setup) (outlets : Outlets) → outlets.each.items ≡ map (quiet_outlet setup.session.block) setup.decls
    → ShowsOutputs setup blank outlets
quiet_shows setup outlets is = record {
  all = ap length is ∙ length-map setup.decls (quiet_outlet setup.session.block);
  shown = λ inst outlet here. by inst outlet
      (sym (slice_get-map (quiet_outlet setup.session.block) setup.decls inst) ∙ ap (λ items. slice_get items inst) (sym is) ∙ here) (slice_get setup.decls inst) refl;
}
  where
    by : (inst : ℕ) (outlet : Outlet) → option_map (quiet_outlet setup.session.block) (slice_get setup.decls inst) ≡ Some outlet
        → (found : Option Decl) → slice_get setup.decls inst ≡ found → ShowsInstance setup blank inst outlet
    by inst outlet e None f = absurd (none-some outlet (sym (ap (option_map (quiet_outlet setup.session.block)) f) ∙ e))
    by inst outlet e (Some one) f =
        let ports : one.ports ≡ ports_of setup inst = ap (λ (found : Option Decl). option_map_or (λ (it : Decl). it.ports) found []) (sym f) in
        let same : outlet ≡ record { now = quiet_outs setup.session.block (ports_of setup inst); before = quiet_outs setup.session.block (ports_of setup inst) } =
        sym (same_Some _ outlet (sym (ap (option_map (quiet_outlet setup.session.block)) f) ∙ e))
        ∙ ap (λ (all : List Port). record { now = quiet_outs setup.session.block all; before = quiet_outs setup.session.block all }) ports in
        record {
          now = record { fit = tt; are = ap (λ (it : Outlet). it.now) same };
          before = record { fit = tt; are = ap (λ (it : Outlet). it.before) same };
        }

-- ---- a list that a loop went over

pub went_over : {X : Type 0} → (f : X → X) (items after : List X) (n i : ℕ) → n ≡ length items → length items ≤ i
    → after ≡ map f (take i items) ++ drop i items → take n (after ++ drop (length after) items) ≡ map f items
went_over f items after n i all end is =
    let e : after ≡ map f items = is ∙ (λ t. map f (take_all i items end t) ++ drop_all i items end t) ∙ append-nil (map f items) in
    rw e (take_at (map f items) (drop (length (map f items)) items) n (length-map items f ∙ sym all))
