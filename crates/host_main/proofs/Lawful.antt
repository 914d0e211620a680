-- Every record that is written is lawful.
use Rattle.std.proofs.Common.{ℕ}
use Rattle.replay_core.specs.PlainRecord.{plain_record}
use Rattle.replay_core.proofs.ThreadingLemmas.{IsOneAtATime-plain_record, calls_on-plain_record}
use Rattle.host_main.specs.Render.{IsLawful}

pub lawful : (insts blocks : ℕ) → IsLawful insts blocks (plain_record insts blocks)
lawful insts blocks = record {
  one_at_a_time = IsOneAtATime-plain_record insts blocks;
  in_order = λ i there. calls_on-plain_record i insts blocks there;
}
