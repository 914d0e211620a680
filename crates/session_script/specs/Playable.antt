-- What every session keeps whose every line can be played so far.
use Rattle.std.specs.Prelude.{ℕ, ◌<◌, ◌≤◌, All, length}
use Rattle.session_script.specs.declared.session.Session.{Session}
use Rattle.session_script.specs.declared.session.Inst.{Inst}
use Rattle.session_script.specs.declared.session.SetLine.{SetLine}
use Rattle.session_script.specs.declared.session.CableLine.{CableLine}
use Rattle.session_script.specs.declared.session.OutLine.{OutLine}
use Rattle.session_script.specs.Stock.{IsStockUri}

-- a cable leads from an instance to one with a greater number
abbrev pub LeadsOn : ℕ → CableLine → Type 0
LeadsOn count cable = (cable.source < cable.target) × (cable.target < count)

-- the counts and numbers are within their limits, and every line names an instance that is there
pub record IsPlayable (s : Session) : Type 0 where
  pub some_frames : 1 ≤ s.block
  pub block : s.block ≤ 4096
  pub blocks : s.blocks ≤ 1024
  pub few_insts : length s.insts ≤ 32
  pub few_cables : length s.cables ≤ 256
  pub few_outs : length s.outs ≤ 8
  pub stock : All (λ (inst : Inst). IsStockUri inst.uri) s.insts
  pub sets : All (λ (set : SetLine). set.inst < length s.insts) s.sets
  pub cables : All (LeadsOn (length s.insts)) s.cables
  pub outs : All (λ (out : OutLine). out.inst < length s.insts) s.outs
