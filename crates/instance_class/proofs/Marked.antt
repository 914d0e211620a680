-- A call between its two marks.
use Rattle.std.proofs.Common.{◌≡◌, ℕ, List, [], refl, subst}
use Rattle.interaction.specs.Attempts.{Attempt}
use Rattle.step_law.specs.declared.call.Call.{Call}
use Rattle.step_law.specs.declared.entry.Entry.{Entry}
use Rattle.step_law.specs.Actor.{actor_at}
use Rattle.step_law.specs.Entry.{begin_of, end_of}
use Rattle.plug_api.specs.Calls.{CanCall, Called, Stays, CanMarkCall, MarksCall}

module _ {S : Type 0} (actor_of : S → ℕ) (can_mark : S → Type 0) (marked : S → Entry → ℕ → S → Type 0) where
  pub called_by : (went : S → List Attempt → S → Type 0) (call : Call) (inst : ℕ) (old called tried new : S) (attempts : List Attempt)
      → CanCall actor_of can_mark marked went old
      → ((ticket : ℕ) × marked old (begin_of (actor_at (actor_of old)) call inst) ticket called) → went called attempts tried
      → ((ticket : ℕ) × marked tried (end_of (actor_at (actor_of tried)) call inst) ticket new)
      → Called actor_of marked went call inst old attempts new
  called_by went call inst old called tried new attempts can begun goes ended =
      let same : actor_of tried ≡ actor_of old = can.actor _ begun.0 called tried attempts begun.1 goes in
      record {
        first = begun.0;
        last = ended.0;
        called = called;
        tried = tried;
        begins = begun.1;
        goes = goes;
        ends = subst (λ actor. marked tried (end_of (actor_at actor) call inst) ended.0 new) same ended.1;
      }

  pub marks_call : (call : Call) (inst : ℕ) (old called new : S) → CanMarkCall actor_of can_mark marked old
      → ((ticket : ℕ) × marked old (begin_of (actor_at (actor_of old)) call inst) ticket called)
      → ((ticket : ℕ) × marked called (end_of (actor_at (actor_of called)) call inst) ticket new)
      → MarksCall actor_of marked call inst old new
  marks_call call inst old called new can begun ended =
      called_by Stays call inst old called called new [] can begun (refl, refl) ended
