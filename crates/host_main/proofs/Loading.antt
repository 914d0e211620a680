-- What it means that a known vault's files can't be loaded, as the status of a refusal.
use Rattle.std.proofs.Common.{◌≡◌, ◌≢◌, ℕ, List, refl, inl, inr}
use Rattle.lv_outside.specs.World.{VaultState}
use Rattle.turtle_read.specs.declared.fault.TurtleFault.{TurtleFault}
use Rattle.turtle_read.specs.declared.fault.TurtleFault.TheVariants as turtle
use Rattle.session_load.specs.Bundle.{IsUnloaded}
use Rattle.session_load.specs.declared.fault.LoadFault.TheVariants.{Turtle}
use Rattle.host_main.specs.CheckStatus.{check_status}
use Rattle.host_main.specs.declared.checking.refusal.CheckRefusal.TheVariants.{Load}

-- a fault of the reader of documents but want of memory
turtle_status : (path : List ℕ) (why : TurtleFault) → why ≢ turtle.NoMemory → check_status (Load (Turtle path why)) ≡ 5
turtle_status path (turtle.Lex why) some = refl
turtle_status path (turtle.Syntax at) some = refl
turtle_status path (turtle.NoPrefix at) some = refl
turtle_status path (turtle.BadIri at) some = refl
turtle_status path (turtle.Depth at) some = refl
turtle_status path (turtle.StoreFull at) some = refl
turtle_status path turtle.NoMemory some = absurd (some refl)

-- a file that is no document
pub no_document : (v v' : VaultState) (folder path : List ℕ) (why : TurtleFault) → IsUnloaded v v' folder 0 (Turtle path why)
    → check_status (Load (Turtle path why)) ≡ 5
no_document v v' folder path why (inl x) = turtle_status path why x.2.1
no_document v v' folder path why (inr x) = turtle_status path why x.stops.refused.2.1
