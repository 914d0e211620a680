-- Why work ends in a fault: of its first step, of the next, of one of many; and what the vault counts of that.
use Rattle.std.proofs.Common.{◌≡◌, ℕ, ◌<◌, ◌≤◌, List, length, take, get_or, Result, Ok, Err, refl, sym, subst, arith, inl, inr}
use Rattle.lv_outside.specs.Count.{Rose}
use Rattle.lv_outside.specs.World.{VaultState}
use Rattle.session_script.specs.declared.fault.ScriptFault.{ScriptFault}
use Rattle.session_script.specs.declared.fault.ScriptFault.TheVariants as script
use Rattle.session_script.specs.Answer.{Refuses}
use Rattle.session_load.specs.Bundle.{IsLater}
use Rattle.session_load.specs.declared.fault.LoadFault.{LoadFault}
use Rattle.session_load.specs.declared.fault.LoadFault.TheVariants.{Missing, ReadFailed, TooLong, Turtle, NoMemory}
use Rattle.session_setup.specs.declared.fault.SetupFault.{SetupFault}
use Rattle.session_setup.specs.declared.fault.SetupFault.TheVariants.{Load, Script, Undeclared, Graph}
use Rattle.session_setup.specs.Steps.{Then, Each}
use Rattle.session_setup.specs.Faults.{script_cause, IsCause, IsCountedFault, IsCounted}
use Rattle.session_setup.specs.Loading.{Says}
use Rattle.session_setup.proofs.Steps.{each-stop}

pub cause-as : {A B : Type 0} (Work : Result A SetupFault → Type 0) (Whole : Result B SetupFault → Type 0) (fault : SetupFault)
    → (Work (Err fault) → Whole (Err fault)) → IsCause Work fault → IsCause Whole fault
cause-as Work Whole fault on (inl e) = inl e
cause-as Work Whole fault on (inr h) = inr (on h)

pub cause-first : {A B : Type 0} (First : Result A SetupFault → Type 0) (Second : A → Result B SetupFault → Type 0) (fault : SetupFault)
    → IsCause First fault → IsCause (Then First Second) fault
cause-first First Second fault (inl e) = inl e
cause-first First Second fault (inr h) = inr (inl h)

pub cause-second : {A B : Type 0} (First : Result A SetupFault → Type 0) (Second : A → Result B SetupFault → Type 0) (a : A) (fault : SetupFault)
    → First (Ok a) → IsCause (Second a) fault → IsCause (Then First Second) fault
cause-second First Second a fault given (inl e) = inl e
cause-second First Second a fault given (inr h) = inr (inr (a, given, h))

pub cause-each : {X A : Type 0} (Step : ℕ → X → Result A SetupFault → Type 0) (xs : List X) (k : ℕ) (x : X) (values : List A) (fault : SetupFault)
    → k < length xs → x ≡ get_or xs k x → Each Step 0 (take k xs) (Ok values) → IsCause (Step k x) fault → IsCause (λ end. Each Step 0 xs end) fault
cause-each Step xs k x values fault within is each (inl e) = inl e
cause-each Step xs k x values fault within is each (inr h) = inr (each-stop Step xs k x values fault within is each h)

pub no-memory : {A : Type 0} (Work : Result A SetupFault → Type 0) (fault : SetupFault) → fault ≡ Load NoMemory → IsCause Work fault
no-memory Work fault e = inl e

-- ---- scripts

pub unsaid : (bytes : List ℕ) (fault : ScriptFault) → Refuses bytes fault → IsCause (Says bytes) (script_cause fault)
unsaid bytes (script.Bad line rule) h = inr h
unsaid bytes (script.Limit which number) h = inr h
unsaid bytes script.NoMemory h = inl refl

-- ---- what the vault counts

rose-earlier : (a b c : ℕ) → a ≤ b → Rose b c → Rose a c
rose-earlier a b c h r = omega (arith, h, r)

fault-earlier : (v m v' : VaultState) (fault : LoadFault) → IsLater v m → IsCountedFault m v' fault → IsCountedFault v v' fault
fault-earlier v m v' (Missing path) h r = rose-earlier v.absences m.absences v'.absences h.absences r
fault-earlier v m v' (ReadFailed path) h r = rose-earlier v.faults m.faults v'.faults h.faults r
fault-earlier v m v' (TooLong path) h r = rose-earlier v.longs m.longs v'.longs h.longs r
fault-earlier v m v' (Turtle path fault) h r = tt
fault-earlier v m v' NoMemory h r = tt

pub counted-earlier : (v m v' : VaultState) (fault : SetupFault) → IsLater v m → IsCounted m v' fault → IsCounted v v' fault
counted-earlier v m v' (Load fault) h r = fault-earlier v m v' fault h r
counted-earlier v m v' (Script fault) h r = tt
counted-earlier v m v' (Undeclared uri fault) h r = tt
counted-earlier v m v' (Graph fault names) h r = tt

-- a fault that isn't of files is none that the vault counts
pub counted-load : (v v' : VaultState) (fault : SetupFault) → fault ≡ Load NoMemory → IsCounted v v' fault
counted-load v v' fault e = subst (λ one. IsCounted v v' one) (sym e) tt
