use Rattle.std.proofs.Common.{◌≡◌, ℕ, nat_lt, if◌then◌else◌, length}
use Rattle.record_counts.specs.declared.owners.PartOwners.{PartOwners}
use Rattle.record_terms.specs.Message.{meaning_of}
use Rattle.record_counts.specs.Owners.{next_owners}
use Rattle.record_counts.specs.Step.{step_of}
use Rattle.record_counts.specs.Table.{IsTable}
use Rattle.record_counts.proofs.owners.Owners.put_all.Given as goal

abbrev pub invariant-loop-inst : goal.invariant-loop-inst
invariant-loop-inst l = record {
  each : (f : ℕ → PartOwners) → IsTable f l.initial.self → IsTable (λ i. if nat_lt i l.inst then next_owners l.shape (step_of l.entry (meaning_of l.about)) i (f i) else f i) l.self;
  all : length l.self ≡ length l.initial.self;
}
