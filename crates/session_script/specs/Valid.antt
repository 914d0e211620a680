-- What every session that was read keeps.
use Rattle.std.specs.Prelude.{◌≡◌, ℕ, ◌+◌, ◌<◌, ◌≤◌, ◌*◌, ◌^◌, true, All, List, length, filter, slice_index_or, IfSome, map}
use Rattle.session_script.specs.declared.session.Session.{Session}
use Rattle.session_script.specs.declared.session.Inst.{Inst}
use Rattle.session_script.specs.declared.session.SetLine.{SetLine}
use Rattle.session_script.specs.declared.session.CableLine.{CableLine}
use Rattle.session_script.specs.declared.session.OutLine.{OutLine}
use Rattle.session_script.specs.declared.session.Action.{Action}
use Rattle.session_script.specs.declared.session.Deed.{Deed}
use Rattle.session_script.specs.declared.session.Deed.TheVariants.{PatchFixed, PatchInt, PatchGet}
use Rattle.session_script.specs.Words.{is_name}
use Rattle.session_script.specs.Sorts.{is_iri}
use Rattle.session_script.specs.Limits.{is_save}

abbrev pub IsBetween : ℕ → ℕ → ℕ → Type 0
IsBetween low high n = (low ≤ n) × (n ≤ high)

-- a name, an IRI, and a worker that is there
pub record IsInstValid (workers : ℕ) (inst : Inst) : Type 0 where
  pub name : is_name inst.name ≡ true
  pub uri : is_iri inst.uri ≡ true
  pub worker : IfSome inst.worker (IsBetween 1 workers)

-- the properties that an action names are IRIs
abbrev pub IsDeedValid : Deed → Type 0
IsDeedValid (PatchFixed property value) = is_iri property ≡ true
IsDeedValid (PatchInt property value) = is_iri property ≡ true
IsDeedValid (PatchGet property) = IfSome property (λ iri. is_iri iri ≡ true)
IsDeedValid deed = Unit {0}

-- an action of an instance that is there, at a block of the run
pub record IsActionValid (insts blocks : ℕ) (action : Action) : Type 0 where
  pub inst : action.inst < insts
  pub block : action.block ≤ blocks
  pub deed : IsDeedValid action.deed

-- numbers that don't fall
abbrev pub Rise : List ℕ → Type 0
Rise ns = (k : ℕ) → k + 1 < length ns → slice_index_or ns k 0 ≤ slice_index_or ns (k + 1) 0

abbrev pub block_of : Action → ℕ
block_of action = action.block

-- the numbers and counts keep their limits, and every line names what is there
pub record IsValid (s : Session) : Type 0 where
  pub rate : IsBetween 1 1000000 s.rate
  pub block : IsBetween 1 4096 s.block
  pub blocks : s.blocks ≤ 65536
  pub workers : IsBetween 1 8 s.workers
  pub cells : IsBetween 1 64 s.cells
  pub reserve : IfSome s.reserve (IsBetween 1 4194304)
  pub few_bundles : length s.bundles ≤ 64
  pub few_insts : length s.insts ≤ 32
  pub few_cables : length s.cables ≤ 256
  pub few_outs : length s.outs ≤ 8
  pub few_actions : length s.actions ≤ 1024
  pub few_saves : length (filter is_save s.actions) ≤ 128
  pub few_samples : s.block * s.blocks * length s.outs ≤ 2 ^ 25
  pub insts : All (IsInstValid s.workers) s.insts
  pub sets : All (λ (set : SetLine). set.inst < length s.insts) s.sets
  pub cables : All (λ (cable : CableLine). (cable.source < length s.insts) × (cable.target < length s.insts)) s.cables
  pub outs : All (λ (out : OutLine). out.inst < length s.insts) s.outs
  pub actions : All (IsActionValid (length s.insts) s.blocks) s.actions
  pub in_order : Rise (map block_of s.actions)
