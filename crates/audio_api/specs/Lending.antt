-- What is lent for writing, and what the lender is afterwards.
use Rattle.std.specs.Prelude.{ℕ, List, []}
use Rattle.std.specs.Borrow.{Lends, MutBor, Fml, Array}
use mir.Syntax.{named}
use denote.MutBor.{at_last}
use Rattle.lv_base.specs.declared.number.Sample.{Sample}
use Rattle.lv_base.specs.contracts.number.Sample.{the_row as sample_row}
use Rattle.audio_api.specs.contracts.block.Block.{the_row as block_row}
use Rattle.audio_api.specs.contracts.ins.Ins.{the_row as ins_row}
use Rattle.audio_api.specs.contracts.outs.Outs.{the_row as outs_row}
use Rattle.audio_api.specs.contracts.ports.Ports.{the_row as ports_row}
use Rattle.audio_api.specs.declared.ports.Ports.{Ports}
use Rattle.audio_api.specs.Sound.{refilled}
use Rattle.audio_api.specs.Inputs.{Inputs, with_samples}
use Rattle.audio_api.specs.Outputs.{Outputs, with_block}
use Rattle.audio_api.specs.Ports.{block_of, with_output}

-- the block s ends as the samples after r
abbrev pub LendsSamples : MutBor (List Sample) → MutBor (List Sample) → Fml
LendsSamples s r = Lends block_row (Array sample_row 0) s r (refilled s.now)

-- the inputs s end with the block after r at port i
abbrev pub LendsInput : MutBor Inputs → ℕ → MutBor (List Sample) → Fml
LendsInput s i r = Lends ins_row block_row s r (with_samples s.now i)

-- the outputs s end with the block after r at this place
abbrev pub LendsPlace : MutBor Outputs → ℕ → MutBor (List Sample) → Fml
LendsPlace s place r = Lends outs_row block_row s r (with_block s.now place)

-- the ports s end with the samples after r at output port i
abbrev pub LendsOutput : MutBor Ports → ℕ → MutBor (List Sample) → Fml
LendsOutput s i r =
    Lends (ports_row (record { mir = named 0; lft = [] })) (Array sample_row 0) s r
    (λ w. record s.now { outs = at_last s.now.outs (with_output s.now i (refilled (block_of s.now i) w)) })
