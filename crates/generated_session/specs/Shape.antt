-- What the session of each number is like.
use Rattle.std.specs.Prelude.{◌≡◌, ℕ, ◌*◌, ◌%◌, ◌<◌, ◌++◌, List, length, map, All, Contains, None, false, codes}
use Rattle.std.specs.List.{range_with_len}
use Rattle.session_script.specs.declared.session.Session.{Session}
use Rattle.session_script.specs.declared.session.Inst.{Inst}
use Rattle.session_script.specs.declared.session.SetLine.{SetLine}
use Rattle.session_script.specs.declared.session.CableLine.{CableLine}
use Rattle.session_script.specs.declared.session.OutLine.{OutLine}
use Rattle.session_script.specs.declared.session.Action.{Action}
use Rattle.session_script.specs.declared.session.Deed.{Deed}
use Rattle.session_script.specs.declared.session.Deed.TheVariants.{Set, PatchFixed, PatchGet, Save}
use Rattle.session_script.specs.Valid.{block_of}
use Rattle.session_generate.specs.Lines.{code_of, inputs_of}

-- the plug-in of instance i: a stock code of kind i modulo 8
abbrev pub plugin : ℕ → List ℕ
plugin inst = codes "urn:lv2fx:" ++ code_of (inst % 8)

abbrev pub uri_of : Inst → List ℕ
uri_of inst = inst.uri

-- the first value of a constant
pub record SetsConstant (set : SetLine) : Type 0 where
  pub there : set.inst < 16
  pub constant : set.inst % 8 ≡ 0
  pub symbol : set.symbol ≡ codes "value"

-- a cable to an audio input of an instance, from one before it, without a delay
pub record LeadsOn (cable : CableLine) : Type 0 where
  pub later : cable.source < cable.target
  pub there : cable.target < 16
  pub output : cable.output ≡ codes "out"
  pub input : Contains (inputs_of (cable.target % 8)) cable.input
  pub at_once : cable.delayed ≡ false

-- what is heard
pub record IsHeard (out : OutLine) : Type 0 where
  pub there : out.inst < 16
  pub symbol : out.symbol ≡ codes "out"

-- what is done to an instance: a value of a constant, a message to a tank, a question to it, or a save
abbrev pub IsDoneTo : ℕ → Deed → Type 0
IsDoneTo inst (Set symbol value) = (inst ≡ 0) × (symbol ≡ codes "value")
IsDoneTo inst (PatchFixed property value) = (inst ≡ 7) × (property ≡ codes "urn:lv2fx:level")
IsDoneTo inst (PatchGet property) = (inst ≡ 7) × (property ≡ None)
IsDoneTo inst Save = inst ≡ 15
IsDoneTo inst deed = ⊥

abbrev pub IsDrawn : Action → Type 0
IsDrawn action = IsDoneTo action.inst action.deed

-- 512 blocks of 64 frames; two instances of each stock code; eight cables, which make no cycle; two outs; 64 actions, one every eight blocks
pub record IsOfShape (s : Session) : Type 0 where
  pub block : s.block ≡ 64
  pub blocks : s.blocks ≡ 512
  pub insts : map uri_of s.insts ≡ map plugin (range_with_len 0 16)
  pub sets : All SetsConstant s.sets
  pub count_cables : length s.cables ≡ 8
  pub cables : All LeadsOn s.cables
  pub count_outs : length s.outs ≡ 2
  pub outs : All IsHeard s.outs
  pub in_blocks : map block_of s.actions ≡ map (λ number. 8 * number) (range_with_len 0 64)
  pub actions : All IsDrawn s.actions
