-- What is held for all instances, after it changed for one.
use Rattle.std.proofs.Common.{◌≡◌, ◌≢◌, ℕ, ◌<◌, length, set, Some, slice_get, sym, ap, subst, ◌∙◌, ◌⊎◌, inl, inr}
use Rattle.std.specs.Prelude.{slice_set}
use Rattle.std.proofs.lemmas.Bool.{cases_eq}
use Rattle.std.proofs.lemmas.List.{length-set}
use Rattle.std.proofs.lemmas.Option.{same_Some}
use Rattle.graph_order.specs.declared.setup.Setup.{Setup}
use Rattle.block_signals.specs.declared.inlet.Inlet.{Inlet}
use Rattle.block_signals.specs.declared.inlets.Inlets.{Inlets}
use Rattle.block_signals.specs.Board.{Board}
use Rattle.block_signals.specs.Inlets.{Holds, HoldsInputs}
use Rattle.block_signals.proofs.Lists.{set_here, set_apart}

-- what is known may change too, where it says the same of the other instances
pub replaced : (setup : Setup) (board after : Board) (old new : Inlets) (inst : ℕ) (inlet : Inlet) → HoldsInputs setup board old → inst < length old.each.items
    → Holds setup after inst inlet → ((k : ℕ) (other : Inlet) → (inst ≡ k → ⊥) → Holds setup board k other → Holds setup after k other)
    → new.each.items ≡ slice_set old.each.items inst inlet → length new.sums.items ≡ length old.sums.items → HoldsInputs setup after new
replaced setup board after old new inst inlet holds inside here apart is sums = record {
  all = ap length is ∙ length-set old.each.items inst inlet ∙ holds.all;
  sums = sums ∙ holds.sums;
  kept = λ k other at. by k other (ap (λ items. slice_get items k) (sym is) ∙ at) (cases_eq inst k);
}
  where
    by : (k : ℕ) (other : Inlet) → slice_get (set old.each.items inst inlet) k ≡ Some other → (inst ≡ k) ⊎ (inst ≢ k) → Holds setup after k other
    by k other at (inl same) =
        let it : inlet ≡ other = same_Some inlet other (sym (set_here old.each.items inst inlet inside) ∙ ap (slice_get (set old.each.items inst inlet)) same ∙ at) in
        subst (λ (n : ℕ). Holds setup after n other) same (subst (Holds setup after inst) it here)
    by k other at (inr ne) = apart k other ne (holds.kept k other (sym (set_apart old.each.items inst inlet k ne) ∙ at))
