-- What a run finds among the outputs, and what it leaves there.
use Rattle.std.proofs.Common.{◌≡◌, ℕ, ◌<◌, Bool, true, false, eqb, if◌then◌else◌, length, Option, Some, slice_get, set, refl, sym, ap, subst, ◌∙◌, eq-eqb}
use Rattle.std.proofs.lemmas.Bool.{eqb-true, eqb-false}
use Rattle.std.proofs.lemmas.List.{length-set}
use Rattle.std.proofs.lemmas.Option.{same_Some, slice_get-get_or}
use Rattle.graph_order.specs.declared.setup.Setup.{Setup}
use Rattle.plug_api.specs.Buffers.{Left}
use Rattle.plug_api.specs.Inputs.{Outputs}
use Rattle.plug_api.specs.Running.{with_outputs}
use Rattle.session_play.specs.Setup.{ports_of}
use Rattle.block_signals.specs.declared.outlet.Outlet.{Outlet}
use Rattle.block_signals.specs.declared.outlets.Outlets.{Outlets}
use Rattle.block_signals.specs.Board.{Board, with_run}
use Rattle.block_signals.specs.Lending.{outlet_at, now_at}
use Rattle.block_signals.specs.Outlets.{Show, ShowsInstance, ShowsOutputs}
use Rattle.block_signals.specs.Places.{places_of, outs_after}
use Rattle.block_signals.specs.Running.{NotRunIsQuiet, RunIsShown}
use Rattle.block_signals.proofs.Lists.{set_here, set_apart}

shown_at : (setup : Setup) (board : Board) (outlets : Outlets) (inst : ℕ) → ShowsOutputs setup board outlets → inst < length outlets.each.items
    → ShowsInstance setup board inst (outlet_at outlets inst)
shown_at setup board outlets inst shows inside = shows.shown inst (outlet_at outlets inst) (slice_get-get_or outlets.each.items inst _ inside)

pub not_run_is_quiet : NotRunIsQuiet
not_run_is_quiet setup board outlets inst shows inside none =
    (shown_at setup board outlets inst shows inside).now.are ∙ ap (outs_after setup.session.block (ports_of setup inst)) none

pub run_is_shown : RunIsShown
run_is_shown setup board outlets inst outputs shows inside none fit = record {
  all = length-set outlets.each.items inst later ∙ shows.all;
  shown = λ k outlet e. by k outlet e (eqb inst k) refl;
}
  where
    outs : Left
    outs = with_outputs (places_of (ports_of setup inst)) (now_at outlets inst) outputs

    later : Outlet
    later = record (outlet_at outlets inst) { now = outs }

    quiet : outs ≡ outs_after setup.session.block (ports_of setup inst) (Some outputs)
    quiet = ap (λ (left : Left). with_outputs (places_of (ports_of setup inst)) left outputs) (not_run_is_quiet setup board outlets inst shows inside none)

    one : ShowsInstance setup (with_run board inst outputs) inst later
    one = record {
      now = let same : (if eqb inst inst then Some outputs else board.now inst) ≡ Some outputs =
          ap (λ (b : Bool). if b then Some outputs else board.now inst) (eq-eqb inst inst refl) in
          subst (λ (given : Option Outputs). Show setup.session.block (ports_of setup inst) given outs) (sym same) (record { fit = fit; are = quiet });
      before = (shown_at setup board outlets inst shows inside).before;
    }

    by : (k : ℕ) (outlet : Outlet) → slice_get (set outlets.each.items inst later) k ≡ Some outlet → (b : Bool) → eqb inst k ≡ b
        → ShowsInstance setup (with_run board inst outputs) k outlet
    by k outlet e true h =
        let same : inst ≡ k = eqb-true inst k h in
        let it : later ≡ outlet =
        same_Some later outlet (sym (set_here outlets.each.items inst later inside) ∙ ap (slice_get (set outlets.each.items inst later)) same ∙ e) in
        let P : ℕ → Outlet → Type 0 = λ n other. ShowsInstance setup (with_run board inst outputs) n other in
        subst (λ (n : ℕ). P n outlet) same (subst (P inst) it one)
    by k outlet e false h =
        let shown = shows.shown k outlet (sym (set_apart outlets.each.items inst later k (eqb-false inst k h)) ∙ e) in
        let same : (if eqb inst k then Some outputs else board.now k) ≡ board.now k = ap (λ (b : Bool). if b then Some outputs else board.now k) h in
        record {
          now = subst (λ (given : Option Outputs). Show setup.session.block (ports_of setup k) given outlet.now) (sym same) shown.now;
          before = shown.before;
        }
