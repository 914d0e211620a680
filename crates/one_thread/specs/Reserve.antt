-- How many entries audio may make: a block begins only where its worst case still has room.
use Rattle.std.specs.Prelude.{◌≡◌, ℕ, ◌+◌, ◌*◌, ◌<◌, ◌≤◌, Bool, true, false, List, [], ◌∷◌, ◌++◌, length}
use Rattle.step_law.specs.declared.actor.Actor.TheVariants.{Audio}
use Rattle.step_law.specs.declared.entry.Entry.{Entry}
use Rattle.step_law.specs.declared.entry.Kind.{Kind}
use Rattle.step_law.specs.declared.entry.Kind.TheVariants.{Block, Done, Send}
use Rattle.step_law.specs.declared.ring.Ring.{Ring}
use Rattle.step_law.specs.declared.ring.Ring.TheVariants.{AudioToControl, Jobs}
use Rattle.step_law.specs.Entry.{block_of}
use Rattle.step_law.specs.Ring.{ring_at}
use Rattle.record_law.specs.declared.shape.Shape.{Shape}
use Rattle.record_law.specs.declared.shape.ShapeInst.{ShapeInst}
use Rattle.record_law.specs.Entries.{is_kind}
use Rattle.record_law.specs.Message.{History}
use Rattle.record_law.specs.History.{one_more, own}
use Rattle.session_play.specs.Judging.{KeepsRules}
use Rattle.session_play.specs.Looking.{steps_of}
use Rattle.session_play.specs.Playing.{play_of}
use Rattle.session_play.specs.Rules.{judging}
use Rattle.session_play.specs.Run.{Run}
use Rattle.session_play.specs.SessionShape.{shape_of}

-- ---- the worst case of a block

abbrev pub if_so : Bool → ℕ → ℕ
if_so true n = n
if_so false n = 0

-- of an instance: its run; its notices; its jobs, whose responses may come in a later block, and all that its ring holds
abbrev pub share_of : (cells : ℕ) → ShapeInst → ℕ
share_of cells it = 2 + if_so it.replies 32 + if_so it.works (323 + 3 * cells)

abbrev pub shares : (cells : ℕ) → List ShapeInst → ℕ
shares cells [] = 0
shares cells (it ∷ later) = share_of cells it + shares cells later

abbrev pub worst : Shape → ℕ
worst s = 3 + s.cells + 2 * length s.insts + shares s.cells s.insts

-- ---- what was used: audio's entries, and what its sends will still cost

abbrev pub cost_on : Ring → ℕ
cost_on (Jobs inst) = 20
cost_on AudioToControl = 2
cost_on ring = 1

abbrev pub cost_of : Kind → ℕ → ℕ
cost_of Send ring = cost_on (ring_at ring)
cost_of kind a = 1

abbrev pub used_by : History → ℕ
used_by [] = 0
used_by (x ∷ h) = cost_of x.entry.kind x.entry.a + used_by h

abbrev pub used : History → ℕ
used h = used_by (own Audio h)

-- ---- records that keep to a reserve

-- each block begins only where there is room for its worst case
abbrev pub Affords : {F B : Type 0} → Run F B → (reserve : ℕ) → List Entry → Type 0
Affords run reserve steps = (before later : List Entry) (block : ℕ) → steps ≡ before ++ block_of block ∷ later
    → used (steps_of (play_of run before)) + worst (shape_of run.setup) ≤ reserve

-- how many entries of a kind there are
abbrev pub number_of : Kind → History → ℕ
number_of kind [] = 0
number_of kind (x ∷ h) = one_more (is_kind kind x.entry) (number_of kind h)

-- the record is full before a block: so many were played whole and no more begun, another is to be played, and there is no room for it
pub record IsFullBefore {F B : Type 0} (run : Run F B) (reserve : ℕ) (steps : List Entry) (block : ℕ) : Type 0 where
  pub keeps_rules : KeepsRules (judging run) steps
  pub begun : number_of Block (steps_of (play_of run steps)) ≡ block
  pub whole : number_of Done (steps_of (play_of run steps)) ≡ block
  pub left : block < run.setup.session.blocks
  pub full : reserve < used (steps_of (play_of run steps)) + worst (shape_of run.setup)
