-- What comes of the listing of a bundle's rows.
use Rattle.std.proofs.Common.{◌≡◌, ℕ, List, Result, Ok, Err}
use Rattle.std.specs.Prelude.{IfOk, IfErr}
use Rattle.lv_outside.specs.World.{VaultState}
use Rattle.triple_store.specs.declared.term.Triple.{Triple}
use Rattle.session_load.specs.Bundle.{IsBundle}
use Rattle.session_load.specs.declared.fault.LoadFault.TheVariants.{Missing, ReadFailed, TooLong, Turtle, NoMemory}
use Rattle.host_main.specs.Check.{IsUnlisted}
use Rattle.host_main.specs.Listing.{check_listing, AreDeclared}
use Rattle.host_main.specs.PluginRefusals.{IsPluginRefusal}
use Rattle.host_main.specs.declared.checking.refusal.CheckRefusal.{CheckRefusal}
use Rattle.host_main.specs.declared.checking.refusal.CheckRefusal.TheVariants.{Load, Undeclared, WriteFailed}

-- the rows are those of the bundle
pub listed : {E : Type 0} (v : VaultState) (folder : List ℕ) (rows : List Triple) (r : Result (List ℕ) E) → IsBundle v folder 0 rows
    → IfOk r (λ listing. AreDeclared rows) → IfOk r (λ listing. listing ≡ check_listing rows)
    → IfOk r (λ listing. (rows : List Triple) × IsBundle v folder 0 rows × AreDeclared rows × (listing ≡ check_listing rows))
listed v folder rows (Ok listing) here declared lines = (rows, here, declared, lines)
listed v folder rows (Err refusal) here declared lines = tt

unlisted_by : (v v' : VaultState) (folder : List ℕ) (rows : List Triple) (refusal : CheckRefusal) → IsBundle v folder 0 rows
    → IsPluginRefusal rows refusal → IsUnlisted folder v v' refusal
unlisted_by v v' folder rows (Load NoMemory) here why = tt
unlisted_by v v' folder rows (Load (Missing path)) here why = absurd why
unlisted_by v v' folder rows (Load (ReadFailed path)) here why = absurd why
unlisted_by v v' folder rows (Load (TooLong path)) here why = absurd why
unlisted_by v v' folder rows (Load (Turtle path fault)) here why = absurd why
unlisted_by v v' folder rows (Undeclared uri rule) here why = (rows, here, why)
unlisted_by v v' folder rows WriteFailed here why = absurd why

-- a plug-in of the bundle can't be listed
pub unlisted : {A : Type 0} (v v' : VaultState) (folder : List ℕ) (rows : List Triple) (r : Result A CheckRefusal) → IsBundle v folder 0 rows
    → IfErr r (IsPluginRefusal rows) → IfErr r (IsUnlisted folder v v')
unlisted v v' folder rows (Ok listing) here why = tt
unlisted v v' folder rows (Err refusal) here why = unlisted_by v v' folder rows refusal here why
