-- The whole work: what comes of each part is what comes of the whole.
use Rattle.std.proofs.Common.{◌≡◌, ℕ, List, Option, Result, Ok, Err, IfOk, IfErr, refl, subst, inl, inr}
use Rattle.lv_outside.specs.World.{VaultState}
use Rattle.triple_store.specs.declared.term.Triple.{Triple}
use Rattle.plugin_decl.specs.declared.declaration.Decl.{Decl}
use Rattle.session_script.specs.declared.session.Session.{Session}
use Rattle.graph_order.specs.declared.plan.Plan.{Plan}
use Rattle.session_load.specs.Bundle.{IsLater, IsFile}
use Rattle.session_setup.specs.declared.fault.SetupFault.{SetupFault}
use Rattle.session_setup.specs.declared.fault.SetupFault.TheVariants.{Load, Script, Undeclared, Graph}
use Rattle.session_setup.specs.declared.loaded.Loaded.{Loaded}
use Rattle.session_setup.specs.Steps.{Then}
use Rattle.session_setup.specs.Faults.{IsCause, IsCounted}
use Rattle.session_setup.specs.Declaring.{DeclaresAll}
use Rattle.session_setup.specs.Planning.{Plans}
use Rattle.session_setup.specs.Loading.{Says, loaded, Arranges, LoadsBytes, LoadsFile}
use Rattle.session_setup.proofs.Causes.{cause-as, cause-first, cause-second, counted-load}
use Rattle.session_setup.proofs.Earlier.{bytes-earlier}
use Rattle.session_setup.proofs.Judged.{declared-counted}
use Rattle.session_setup.proofs.Planned.{planned-counted}

pub arranged : (text : List ℕ → Option (List ℕ)) (bundles : List (List Triple)) (session : Session) (decls : List Decl) (plan : Plan)
    → DeclaresAll text bundles session.block session.insts (Ok decls) → Plans session decls (Ok plan)
    → Arranges text bundles session (Ok (loaded session decls plan))
arranged text bundles session decls plan declares plans = (decls, declares, (plan, plans, refl))

pub undeclared : (text : List ℕ → Option (List ℕ)) (bundles : List (List Triple)) (session : Session) (fault : SetupFault)
    → IsCause (DeclaresAll text bundles session.block session.insts) fault → IsCause (Arranges text bundles session) fault
undeclared text bundles session fault cause =
    cause-first (DeclaresAll text bundles session.block session.insts)
    (λ decls. Then (Plans session decls) (λ plan all. all ≡ Ok (loaded session decls plan))) fault cause

pub unplanned : (text : List ℕ → Option (List ℕ)) (bundles : List (List Triple)) (session : Session) (decls : List Decl) (fault : SetupFault)
    → DeclaresAll text bundles session.block session.insts (Ok decls) → IsCause (Plans session decls) fault → IsCause (Arranges text bundles session) fault
unplanned text bundles session decls fault declares cause =
    cause-second (DeclaresAll text bundles session.block session.insts)
    (λ decls. Then (Plans session decls) (λ plan all. all ≡ Ok (loaded session decls plan))) decls fault declares
    (cause-first (Plans session decls) (λ plan all. all ≡ Ok (loaded session decls plan)) fault cause)

arranged-counted : (v v' : VaultState) (text : List ℕ → Option (List ℕ)) (bundles : List (List Triple)) (session : Session) (fault : SetupFault)
    → Arranges text bundles session (Err fault) → IsCounted v v' fault
arranged-counted v v' text bundles session fault (inl declares) = declared-counted v v' text bundles session.block session.insts fault declares
arranged-counted v v' text bundles session fault (inr (decls, given, inl plans)) = planned-counted v v' session decls fault plans
arranged-counted v v' text bundles session fault (inr (decls, given, inr (plan, planned, e))) = absurd (bad-good fault (loaded session decls plan) e)
  where
    bad-good : (fault : SetupFault) (made : Loaded) → Err fault ≡ Ok made → ⊥
    bad-good fault made e = cc

-- the vault counts nothing of what comes after the bundles
pub arrange-counted : (v v' : VaultState) (text : List ℕ → Option (List ℕ)) (bundles : List (List Triple)) (session : Session) (fault : SetupFault)
    → IsCause (Arranges text bundles session) fault → IsCounted v v' fault
arrange-counted v v' text bundles session fault (inl e) = counted-load v v' fault e
arrange-counted v v' text bundles session fault (inr h) = arranged-counted v v' text bundles session fault h

said-counted : (v v' : VaultState) (bytes : List ℕ) (fault : SetupFault) → Says bytes (Err fault) → IsCounted v v' fault
said-counted v v' bytes (Script why) h = tt
said-counted v v' bytes (Load why) h = absurd h
said-counted v v' bytes (Undeclared uri why) h = absurd h
said-counted v v' bytes (Graph why names) h = absurd h

-- nor of the script
pub unsaid-counted : (v v' : VaultState) (bytes : List ℕ) (fault : SetupFault) → IsCause (Says bytes) fault → IsCounted v v' fault
unsaid-counted v v' bytes fault (inl e) = counted-load v v' fault e
unsaid-counted v v' bytes fault (inr h) = said-counted v v' bytes fault h

-- ---- the bytes of a file, which was read before the bundles

of-bytes : (v m : VaultState) (text : List ℕ → Option (List ℕ)) (path bytes : List ℕ) (end : Result Loaded SetupFault) → IsLater v m → IsFile v path bytes
    → LoadsBytes m text bytes end → LoadsFile v text path end
of-bytes v m text path bytes (Ok made) h file x = (bytes, file, bytes-earlier v m text bytes (Ok made) h x)
of-bytes v m text path bytes (Err fault) h file x = inr (bytes, file, bytes-earlier v m text bytes (Err fault) h x)

pub made-of-file : (v m : VaultState) (text : List ℕ → Option (List ℕ)) (path bytes seen : List ℕ) (end : Result Loaded SetupFault) → IsLater v m → seen ≡ bytes
    → IsFile v path bytes → IfOk end (λ made. LoadsBytes m text seen (Ok made)) → IfOk end (λ made. LoadsFile v text path (Ok made))
made-of-file v m text path bytes seen (Ok made) h e file x =
    of-bytes v m text path bytes (Ok made) h file (subst (λ one. LoadsBytes m text one (Ok made)) e x)
made-of-file v m text path bytes seen (Err fault) h e file x = tt

pub cause-of-file : (v m : VaultState) (text : List ℕ → Option (List ℕ)) (path bytes seen : List ℕ) (end : Result Loaded SetupFault) → IsLater v m → seen ≡ bytes
    → IsFile v path bytes → IfErr end (IsCause (LoadsBytes m text seen)) → IfErr end (IsCause (LoadsFile v text path))
cause-of-file v m text path bytes seen (Ok made) h e file x = tt
cause-of-file v m text path bytes seen (Err fault) h e file x =
    cause-as (LoadsBytes m text seen) (LoadsFile v text path) fault
    (λ y. of-bytes v m text path bytes (Err fault) h file (subst (λ one. LoadsBytes m text one (Err fault)) e y)) x
