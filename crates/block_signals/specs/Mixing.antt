-- What is heard at a source, and the mix of it.
use Rattle.std.specs.Prelude.{ℕ, ◌<◌, if◌then◌else◌, List, length}
use Rattle.lv_base.specs.declared.number.Sample.{Sample}
use Rattle.plug_api.specs.Buffers.{Left, block_at}
use Rattle.plug_api.specs.Ports.{HoldsBlock}
use Rattle.block_signals.specs.declared.outlets.Outlets.{Outlets}
use Rattle.block_signals.specs.declared.source.Source.{Source}
use Rattle.block_signals.specs.Lending.{outlet_at}

-- the outputs that a source is among: those of this block, or with a delay those of the one before
abbrev pub outs_at : Outlets → Source → Left
outs_at outlets source = if source.delayed then (outlet_at outlets source.inst).before else (outlet_at outlets source.inst).now

abbrev pub heard : Outlets → Source → List Sample
heard outlets source = block_at (outs_at outlets source).blocks source.place

-- the source is there, with so many frames
pub record IsHeard (frames : ℕ) (outlets : Outlets) (source : Source) : Type 0 where
  pub inst : source.inst < length outlets.each.items
  pub block : HoldsBlock frames (outs_at outlets source).blocks source.place
