-- What `check BUNDLE` does, and why it may not do it.
use Rattle.std.specs.Prelude.{◌≡◌, ◌≢◌, ℕ, ◌-◌, ◌⊎◌, nat_eq, IsTrue, List, [], ◌∷◌, ◌++◌, length, take, codes, if◌then◌else◌}
use Rattle.std.specs.List.{ends_with}
use Rattle.lv_outside.specs.Count.{Rose}
use Rattle.lv_outside.specs.World.{VaultState, SinkState, LeavesFiles, IsSaid}
use Rattle.triple_store.specs.declared.term.Triple.{Triple}
use Rattle.turtle_read.specs.declared.fault.TurtleFault.{TurtleFault}
use Rattle.plugin_decl.specs.declared.declaration.DeclFault.{DeclFault}
use Rattle.session_load.specs.Bundle.{IsBundle, IsUnloaded}
use Rattle.session_load.specs.declared.fault.LoadFault.TheVariants.{Missing, TooLong, Turtle}
use Rattle.host_main.specs.Render.{IsOneOf}
use Rattle.host_main.specs.Listing.{check_listing, AreDeclared, IsUndeclared, IsRefusedBy}
use Rattle.host_main.specs.CheckStatus.{check_status, check_line}
use Rattle.host_main.specs.declared.checking.refusal.CheckRefusal.{CheckRefusal}
use Rattle.host_main.specs.declared.checking.refusal.CheckRefusal.TheVariants.{Load, Undeclared, WriteFailed}

-- the folder that a word names: one `/` at its end is left out
abbrev pub folder_of : List ℕ → List ℕ
folder_of word = if ends_with nat_eq word (codes "/") then take (length word - 1) word else word

-- the work was done: the sink has taken the listing of the bundle's rows
abbrev pub IsListed : List ℕ → VaultState → SinkState → SinkState → Type 0
IsListed folder v k k' =
    (rows : List Triple) × IsBundle v folder 0 rows × AreDeclared rows × (IsTrue k.tells → k'.taken ≡ k.taken ++ check_listing rows)

-- Why there is no listing: the bundle can't be loaded, or a plug-in breaks a rule.
abbrev pub IsUnlisted : List ℕ → VaultState → VaultState → CheckRefusal → Type 0
IsUnlisted folder v v' (Load fault) = IsUnloaded v v' folder 0 fault
IsUnlisted folder v v' (Undeclared uri rule) = (rows : List Triple) × IsBundle v folder 0 rows × IsRefusedBy rows uri rule
IsUnlisted folder v v' WriteFailed = ⊥

-- Why the work wasn't done: there is no listing, or the sink failed.
abbrev pub IsCaused : List ℕ → VaultState → VaultState → SinkState → SinkState → CheckRefusal → Type 0
IsCaused folder v v' k k' WriteFailed = Rose k.faults k'.faults × ((rows : List Triple) × IsBundle v folder 0 rows × AreDeclared rows)
IsCaused folder v v' k k' refusal = IsUnlisted folder v v' refusal

-- What a refusal leaves of the sink before its line is put: only a failed listing has reached it.
abbrev pub LeavesSink : CheckRefusal → SinkState → SinkState → Type 0
LeavesSink WriteFailed k k' = Rose k.faults k'.faults
LeavesSink refusal k k' = k' ≡ k

-- Every answer is 0 with the work done, or the status of a refusal that has its cause and whose line was put.
abbrev pub Explains : List ℕ → VaultState → VaultState → SinkState → SinkState → ℕ → Type 0
Explains folder v v' k k' answer =
    ((answer ≡ 0) × IsListed folder v k k')
    ⊎ ((refusal : CheckRefusal) × (answer ≡ check_status refusal) × IsCaused folder v v' k k' refusal × IsSaid k k' (check_line refusal))

-- The answer of `check BUNDLE` for this folder, both ways: each answer has its cause, and what known files hold leaves no answer but its
-- own, a failed read and want of memory. Where the bundle can be listed, a failed write may come too. `later` is any vault: why a bundle
-- can't be loaded is said of what its files hold before.
pub record AnswersCheck (folder : List ℕ) (v v' : VaultState) (k k' : SinkState) (answer : ℕ) : Type 0 where
  pub explained : Explains folder v v' k k' answer
  pub files : LeavesFiles v v'
  pub absent : IsTrue v.tells → (later : VaultState) (path : List ℕ) → IsUnloaded v later folder 0 (Missing path)
      → IsOneOf answer (2 ∷ 3 ∷ 14 ∷ [])
  pub long : IsTrue v.tells → (later : VaultState) (path : List ℕ) → IsUnloaded v later folder 0 (TooLong path)
      → IsOneOf answer (9 ∷ 3 ∷ 14 ∷ [])
  pub broken : IsTrue v.tells → (later : VaultState) (path : List ℕ) (fault : TurtleFault) → IsUnloaded v later folder 0 (Turtle path fault)
      → IsOneOf answer (5 ∷ 3 ∷ 14 ∷ [])
  pub undeclared : IsTrue v.tells → (rows : List Triple) (uri : List ℕ) (fault : DeclFault) → IsBundle v folder 0 rows → IsUndeclared rows uri fault
      → IsOneOf answer (6 ∷ 3 ∷ 14 ∷ [])
  pub declared : IsTrue v.tells → (rows : List Triple) → IsBundle v folder 0 rows → AreDeclared rows → IsOneOf answer (0 ∷ 3 ∷ 4 ∷ 14 ∷ [])
  pub formed : answer ≢ 1
