-- Why a script is refused, from what its readers answer.
use Rattle.std.proofs.Common.{◌≡◌, ℕ, ◌≤◌, List, length, Some, IsTrue, Result, Ok, Err, sym, subst}
use Rattle.std.specs.Prelude.{IfErr, IsErrAnd}
use Rattle.session_script.specs.declared.session.Session.{Session}
use Rattle.session_script.specs.declared.fault.ScriptFault.{ScriptFault}
use Rattle.session_script.specs.declared.fault.ScriptFault.TheVariants.{Bad, Limit, NoMemory as Want}
use Rattle.session_script.specs.Answer.{Refuses}
use Rattle.lv_outside.specs.World.{VaultState}
use Rattle.host_main.specs.Status.{refusal_of, most_session_bytes}
use Rattle.host_main.specs.Render.{IsNoSession, IsUnread}
use Rattle.host_main.specs.declared.refusal.Refusal.{Refusal}
use Rattle.host_main.specs.declared.refusal.Refusal.TheVariants.{Usage, Missing, ReadFailed, WriteFailed, Script, Past, Later, TooLong, NoMemory}

pub refused : (bytes : List ℕ) (fault : ScriptFault) → Refuses bytes fault → IsNoSession bytes (refusal_of fault)
refused bytes (Bad line rule) h = h
refused bytes (Limit which number) h = h
refused bytes Want h = tt

-- a fault that is passed on as a refusal
pub passed_on : (bytes : List ℕ) (r : Result Session Refusal) (refusal : Refusal) → IsErrAnd r (λ e. e ≡ refusal) → IsNoSession bytes refusal → IfErr r (IsNoSession bytes)
passed_on bytes (Ok session) refusal h why = absurd h
passed_on bytes (Err e) refusal h why = subst (IsNoSession bytes) (sym h) why

-- a file whose script is refused
pub unread : (path : List ℕ) (v v' : VaultState) (bytes : List ℕ) (refusal : Refusal) → length bytes ≤ most_session_bytes → (IsTrue v.tells → v.file path ≡ Some bytes)
    → IsNoSession bytes refusal → IsUnread path v v' refusal
unread path v v' bytes (Script line rule) short found why = (bytes, why, short, found)
unread path v v' bytes (Past which number) short found why = (bytes, why, short, found)
unread path v v' bytes (Later line) short found why = (bytes, why, short, found)
unread path v v' bytes NoMemory short found why = tt
unread path v v' bytes Usage short found why = absurd why
unread path v v' bytes Missing short found why = absurd why
unread path v v' bytes ReadFailed short found why = absurd why
unread path v v' bytes (WriteFailed target) short found why = absurd why
unread path v v' bytes TooLong short found why = absurd why
