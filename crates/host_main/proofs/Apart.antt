-- The files of a run: their paths differ, since their endings do, and they stand as they were written.
use Rattle.std.proofs.Common.{◌≡◌, ℕ, List, ◌++◌, Option, ◌∙◌, ap, subst, get_or, arith}
use Rattle.std.proofs.lemmas.List.{append_cancel_left}
use Rattle.step_law.specs.declared.entry.Entry.{Entry}
use Rattle.host_main.specs.Files.{rendering, AreApart, HoldsAll}
use Rattle.host_main.specs.declared.files.Rendering.{Rendering}

-- endings with other second letters make other paths
apart_by : (name a b : List ℕ) → (get_or a 1 0 ≡ get_or b 1 0 → ⊥) → name ++ a ≡ name ++ b → ⊥
apart_by name a b differ same = differ (ap (λ (text : List ℕ). get_or text 1 0) (append_cancel_left name a b same))

-- `p` isn't `r`, and so on
pub apart : (name : List ℕ) (steps : List Entry) (sound summary : List ℕ) → AreApart (rendering name steps sound summary)
apart name steps sound summary = record {
  steps_sound = apart_by name _ _ (λ e. let f : ◌≡◌ {A = ℕ} 114 112 = e in omega arith);
  steps_state = apart_by name _ _ (λ e. let f : ◌≡◌ {A = ℕ} 114 116 = e in omega arith);
  sound_state = apart_by name _ _ (λ e. let f : ◌≡◌ {A = ℕ} 112 116 = e in omega arith);
}

-- the files were as before when they were written
pub stands : (w made : Rendering) (old mid new : List ℕ → Option (List ℕ)) → made ≡ w → ((q : List ℕ) → mid q ≡ old q)
    → HoldsAll made mid new → HoldsAll w old new
stands w made old mid new is left holds =
    let here : HoldsAll made old new = record {
      steps = holds.steps;
      sound = holds.sound;
      state = holds.state;
      others = λ q a b c. holds.others q a b c ∙ left q;
    } in
    subst (λ (w : Rendering). HoldsAll w old new) is here
