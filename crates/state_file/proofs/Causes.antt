-- Why states weren't read.
use Rattle.std.proofs.Common.{◌≡◌, inl, inr, ℕ, List, Option, None, refl, sym, subst}
use Rattle.std.specs.Prelude.{Result, Ok, Err, IfErr, IfSome}
use Rattle.std.specs.Result.{IsErrAnd}
use Rattle.triple_store.specs.declared.term.Triple.{Triple}
use Rattle.urid_map.specs.declared.fault.UridFault.{UridFault}
use Rattle.urid_map.specs.declared.fault.UridFault.TheVariants.{Full, NoMemory as NoNumber}
use Rattle.state_file.specs.Ready.{IsStopped}
use Rattle.state_file.specs.Rules.{first_broken, uris_in, fault_of, IsVerdict, IsCause}
use Rattle.state_file.specs.declared.fault.StateFault.{StateFault}
use Rattle.state_file.specs.declared.fault.StateFault.TheVariants.{NoMemory}

-- a broken rule
pub verdict_passed : {A : Type 0} (rows : List Triple) (urids : List (List ℕ)) (r : Result A StateFault) (fault : StateFault) → IsErrAnd r (λ e. e ≡ fault) → IsVerdict rows fault → IfErr r (IsCause rows urids)
verdict_passed rows urids (Ok a) fault is why = absurd is
verdict_passed rows urids (Err e) fault is why = subst (IsCause rows urids) (sym is) (inl why)

-- no room for a URI
stop-cause : (rows : List Triple) (urids new : List (List ℕ)) (fault : UridFault) → first_broken rows ≡ None → IsStopped urids (uris_in rows) fault new → IsCause rows urids (fault_of fault)
stop-cause rows urids new Full kept stop = inr (refl, kept, stop.full refl)
stop-cause rows urids new NoNumber kept stop = inl (inl refl)

pub stop_passed : {A : Type 0} (rows : List Triple) (urids new : List (List ℕ)) (r : Result A StateFault) (fault : UridFault) → IsErrAnd r (λ e. e ≡ fault_of fault) → first_broken rows ≡ None
    → IsStopped urids (uris_in rows) fault new → IfErr r (IsCause rows urids)
stop_passed rows urids new (Ok a) fault is kept stop = absurd is
stop_passed rows urids new (Err e) fault is kept stop = subst (IsCause rows urids) (sym is) (stop-cause rows urids new fault kept stop)

-- want of memory
pub memory_passed : {A : Type 0} (rows : List Triple) (urids : List (List ℕ)) (r : Result A StateFault) → IsErrAnd r (λ e. e ≡ NoMemory) → IfErr r (IsCause rows urids)
memory_passed rows urids (Ok a) is = absurd is
memory_passed rows urids (Err e) is = inl (inl is)

-- where no rule is broken, nothing is said of one
pub same_where_kept : (P : StateFault → Type 0) (broken : Option StateFault) → broken ≡ None → IfSome broken P
same_where_kept P broken kept = subst (λ b. IfSome b P) (sym kept) tt
