-- A loaded session and its states: what comes of the states is what comes of the whole.
use Rattle.std.proofs.Common.{ℕ, List, Result, Ok, Err, IfOk, IfErr, inl, inr}
use Rattle.lv_outside.specs.World.{VaultState}
use Rattle.graph_order.specs.declared.setup.Setup.{Setup}
use Rattle.session_load.specs.Bundle.{IsLater}
use Rattle.session_setup.specs.Steps.{Then}
use Rattle.session_setup.specs.declared.fault.SetupFault.{SetupFault}
use Rattle.session_setup.specs.declared.loaded.Loaded.{Loaded}
use Rattle.session_states.proofs.Earlier.{states-earlier, no-states-earlier}
use Rattle.whole_setup.specs.Whole.{End, Told, Completes, IsCause}
use Rattle.whole_setup.specs.declared.fault.WholeFault.{WholeFault}
use Rattle.whole_setup.specs.declared.fault.WholeFault.TheVariants as whole

completes-earlier : (v m : VaultState) (urids : List (List ℕ)) (made : Loaded) (end : End) → IsLater v m → Completes m urids made end → Completes v urids made end
completes-earlier v m urids made (Ok (setup, after)) h x = (x.0, states-earlier v m made.session urids x.0 after h x.1, x.2)
completes-earlier v m urids made (Err (whole.States fault)) h x = (x.0, (x.1.0, no-states-earlier v m x.1.0 made.session urids fault h x.1.1))
completes-earlier v m urids made (Err (whole.Setup fault)) h x = absurd x

-- the setup is that of the whole
pub whole-ok : (v m : VaultState) (urids after : List (List ℕ)) (Work : Result Loaded SetupFault → Type 0) (made : Loaded) (r : Result Setup WholeFault)
    → Work (Ok made) → IsLater v m → IfOk r (λ setup. Completes m urids made (Ok (setup, after)))
    → IfOk r (λ setup. Then (Told Work) (Completes v urids) (Ok (setup, after)))
whole-ok v m urids after Work made (Ok setup) given h x = (made, given, completes-earlier v m urids made (Ok (setup, after)) h x)
whole-ok v m urids after Work made (Err fault) given h x = tt

second : (v m : VaultState) (urids : List (List ℕ)) (Work : Result Loaded SetupFault → Type 0) (made : Loaded) (fault : WholeFault)
    → Work (Ok made) → IsLater v m → IsCause (Completes m urids made) fault → IsCause (Then (Told Work) (Completes v urids)) fault
second v m urids Work made fault given h (inl e) = inl e
second v m urids Work made fault given h (inr x) = inr (inr (made, given, completes-earlier v m urids made (Err fault) h x))

-- a fault of the states is one of the whole
pub whole-err : (v m : VaultState) (urids : List (List ℕ)) (Work : Result Loaded SetupFault → Type 0) (made : Loaded) (r : Result Setup WholeFault)
    → Work (Ok made) → IsLater v m → IfErr r (IsCause (Completes m urids made)) → IfErr r (IsCause (Then (Told Work) (Completes v urids)))
whole-err v m urids Work made (Ok setup) given h x = tt
whole-err v m urids Work made (Err fault) given h x = second v m urids Work made fault given h x
