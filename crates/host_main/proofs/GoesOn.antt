-- A vault and a sink go on from call to call.
use Rattle.std.proofs.Common.{ℕ, ◌≤◌, List, [], ◌++◌, IsTrue, sym, ◌∙◌, ap, append_assoc, arith}
use Rattle.std.proofs.lemmas.List.{append-nil}
use Rattle.lv_outside.specs.Taken.{TakesFront}
use Rattle.lv_outside.specs.World.{VaultState, SinkState}
use Rattle.host_main.specs.GoesOn.{VaultGoesOn, SinkGoesOn}

-- a vault that isn't called
pub vault_stays : (v : VaultState) → VaultGoesOn v v
vault_stays v = record {
  told = λ known. known;
  faults = omega arith;
  absences = omega arith;
  longs = omega arith;
}

-- one call of a vault after the other
pub vault_then : (v v' v'' : VaultState) → VaultGoesOn v v' → VaultGoesOn v' v'' → VaultGoesOn v v''
vault_then v v' v'' first second = record {
  told = λ known. second.told (first.told known);
  faults = omega (arith, first.faults, second.faults);
  absences = omega (arith, first.absences, second.absences);
  longs = omega (arith, first.longs, second.longs);
}

-- a sink that isn't called
pub sink_stays : (k : SinkState) → SinkGoesOn k k
sink_stays k = record {
  told = λ known. known;
  taken = λ known. ([], sym (append-nil k.taken));
  faults = omega arith;
}

-- a sink that is called once
pub sink_put : (k k' : SinkState) (bytes : List ℕ) → (IsTrue k.tells → IsTrue k'.tells)
    → (IsTrue k.tells → TakesFront k.taken k'.taken bytes) → k.faults ≤ k'.faults → SinkGoesOn k k'
sink_put k k' bytes told front later = record {
  told = told;
  taken = λ known. let part = front known in (part.front, part.taken);
  faults = later;
}

-- one call of a sink after the other
pub sink_then : (k k' k'' : SinkState) → SinkGoesOn k k' → SinkGoesOn k' k'' → SinkGoesOn k k''
sink_then k k' k'' first second = record {
  told = λ known. second.told (first.told known);
  taken = λ known.
      let a = first.taken known in
      let b = second.taken (first.told known) in
      (a.0 ++ b.0, b.1 ∙ (ap (λ (taken : List ℕ). taken ++ b.0) a.1 ∙ append_assoc k.taken a.0 b.0));
  faults = omega (arith, first.faults, second.faults);
}
