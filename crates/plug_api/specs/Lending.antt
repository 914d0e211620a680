-- What is lent for writing, and what the lender is afterwards.
use Rattle.std.specs.Prelude.{ℕ, List, []}
use Rattle.std.specs.Borrow.{Lends, MutBor, Fml, Array}
use mir.Syntax.{named}
use denote.MutBor.{at_last}
use Rattle.lv_base.specs.declared.number.Sample.{Sample}
use Rattle.lv_base.specs.contracts.number.Sample.{the_row as sample_row}
use Rattle.atom_forge.specs.Forged.{Forged}
use Rattle.atom_forge.specs.contracts.forge.Forge.{the_row as forge_row}
use Rattle.plug_api.specs.contracts.block.Block.{the_row as block_row}
use Rattle.plug_api.specs.contracts.ins.Ins.{the_row as ins_row}
use Rattle.plug_api.specs.contracts.outs.Outs.{the_row as outs_row}
use Rattle.plug_api.specs.contracts.ports.Ports.{the_row as ports_row}
use Rattle.plug_api.specs.declared.ports.Ports.{Ports}
use Rattle.plug_api.specs.Sound.{refilled}
use Rattle.plug_api.specs.Buffers.{Given, Left, block_at, given_block, given_events, with_block, with_forge}
use Rattle.plug_api.specs.Ports.{outs_of, place_of}

-- the block s ends as the samples after r
abbrev pub LendsSamples : MutBor (List Sample) → MutBor (List Sample) → Fml
LendsSamples s r = Lends block_row (Array sample_row 0) s r (refilled s.now)

-- the inputs s end with the block after r at port i
abbrev pub LendsInput : MutBor Given → ℕ → MutBor (List Sample) → Fml
LendsInput s i r = Lends ins_row block_row s r (given_block s.now i)

-- the inputs s end with what the forge after r holds at port i
abbrev pub LendsEvents : MutBor Given → ℕ → MutBor Forged → Fml
LendsEvents s i r = Lends ins_row forge_row s r (given_events s.now i)

-- the outputs s end with the block after r at this place
abbrev pub LendsBlock : MutBor Left → ℕ → MutBor (List Sample) → Fml
LendsBlock s place r = Lends outs_row block_row s r (with_block s.now place)

-- the outputs s end with what the forge after r holds at this place
abbrev pub LendsForge : MutBor Left → ℕ → MutBor Forged → Fml
LendsForge s place r = Lends outs_row forge_row s r (with_forge s.now place)

-- the ports with other outputs after them
abbrev pub with_outs : Ports → Left → Ports
with_outs lent outs = record lent { outs = at_last lent.outs outs }

-- the ports s end with the samples after r at output port i
abbrev pub LendsOutput : MutBor Ports → ℕ → MutBor (List Sample) → Fml
LendsOutput s i r =
    Lends (ports_row (record { mir = named 0; lft = [] })) (Array sample_row 0) s r
    (λ w. with_outs s.now (with_block (outs_of s.now) (place_of s.now i) (refilled (block_at (outs_of s.now).blocks (place_of s.now i)) w)))

-- the ports s end with what the forge after r holds at output port i
abbrev pub LendsOutputForge : MutBor Ports → ℕ → MutBor Forged → Fml
LendsOutputForge s i r =
    Lends (ports_row (record { mir = named 0; lft = [] })) forge_row s r (λ w. with_outs s.now (with_forge (outs_of s.now) (place_of s.now i) w))
