-- What a refusal of `check` means, step by step to the clauses of its answer.
use Rattle.std.proofs.Common.{◌≡◌, ◌≢◌, ℕ, ◌≤◌, ◌⊎◌, List, [], ◌∷◌, Result, Ok, Err, IsTrue, refl, sym, ◌∙◌, ap, subst, arith, inl, inr}
use Rattle.lv_outside.specs.World.{VaultState, SinkState, LeavesFiles, IsSaid}
use Rattle.triple_store.specs.declared.term.Triple.{Triple}
use Rattle.turtle_read.specs.declared.fault.TurtleFault.TheVariants as turtle
use Rattle.plugin_decl.specs.declared.declaration.DeclFault.{DeclFault}
use Rattle.session_load.specs.Bundle.{IsBundle, IsUnloaded}
use Rattle.session_load.specs.OneAnswer.{IsLoadedAs}
use Rattle.session_load.proofs.OneLoading.{one_answer}
use Rattle.session_load.specs.declared.fault.LoadFault.{LoadFault}
use Rattle.session_load.specs.declared.fault.LoadFault.TheVariants.{Missing, ReadFailed, TooLong, Turtle, NoMemory}
use Rattle.host_main.specs.Render.{IsOneOf}
use Rattle.host_main.specs.Listing.{AreDeclared, IsUndeclared}
use Rattle.host_main.specs.CheckStatus.{check_status, check_line}
use Rattle.host_main.specs.Check.{IsCaused, LeavesSink, Explains, AnswersCheck}
use Rattle.host_main.specs.declared.checking.refusal.CheckRefusal.{CheckRefusal}
use Rattle.host_main.specs.declared.checking.refusal.CheckRefusal.TheVariants.{Load, Undeclared, WriteFailed}
use Rattle.host_main.proofs.Answers.{rose_later}
use Rattle.host_main.proofs.Loading.{no_document}
use Rattle.host_main.proofs.Plugins.{declared_or_not}

-- the cause stands after the line was put
caused_later : (folder : List ℕ) (v v' : VaultState) (k k' k'' : SinkState) (refusal : CheckRefusal)
    → IsCaused folder v v' k k' refusal → k'.faults ≤ k''.faults → IsCaused folder v v' k k'' refusal
caused_later folder v v' k k' k'' WriteFailed why later = (rose_later _ _ _ why.0 later, why.1)
caused_later folder v v' k k' k'' (Load fault) why later = why
caused_later folder v v' k k' k'' (Undeclared uri rule) why later = why

-- the line was put after the work, which left the sink as it was or failed on it
said_after : (k k' k'' : SinkState) (refusal : CheckRefusal)
    → LeavesSink refusal k k' → k'.faults ≤ k''.faults → IsSaid k' k'' (check_line refusal) → IsSaid k k'' (check_line refusal)
said_after k k' k'' WriteFailed left later said = λ known calm. absurd (calm (rose_later _ _ _ left later))
said_after k k' k'' (Load fault) left later said = rw (← left) said
said_after k k' k'' (Undeclared uri rule) left later said = rw (← left) said

-- a refusal is explained once its line was put
pub explained : (folder : List ℕ) (v v' : VaultState) (k k' k'' : SinkState) (refusal : CheckRefusal) (answer : ℕ)
    → answer ≡ check_status refusal → IsCaused folder v v' k k' refusal → LeavesSink refusal k k'
    → IsSaid k' k'' (check_line refusal) → k'.faults ≤ k''.faults → Explains folder v v' k k'' answer
explained folder v v' k k' k'' refusal answer is why left said later =
    inr (refusal, is, caused_later folder v v' k k' k'' refusal why later, said_after k k' k'' refusal left later said)

-- no fault of the loading has a status below 2
low : (fault : LoadFault) → 2 ≤ check_status (Load fault)
low (Missing path) = omega arith
low (ReadFailed path) = omega arith
low (TooLong path) = omega arith
low (Turtle path (turtle.Lex why)) = omega arith
low (Turtle path (turtle.Syntax at)) = omega arith
low (Turtle path (turtle.NoPrefix at)) = omega arith
low (Turtle path (turtle.BadIri at)) = omega arith
low (Turtle path (turtle.Depth at)) = omega arith
low (Turtle path (turtle.StoreFull at)) = omega arith
low (Turtle path turtle.NoMemory) = omega arith
low NoMemory = omega arith

-- What an answer says of known files: nothing, or the fault that they give, or the rows and what their plug-ins declare.
data Says (v : VaultState) (folder : List ℕ) (answer : ℕ) : Type 0 where
  nothing : (answer ≡ 3) ⊎ (answer ≡ 14) → Says v folder answer
  failed : (fault : LoadFault) → answer ≡ check_status (Load fault) → IsLoadedAs v folder 0 (Err fault) → Says v folder answer
  listed : (answer ≡ 0) ⊎ (answer ≡ 4) → (rows : List Triple) → IsBundle v folder 0 rows → AreDeclared rows → Says v folder answer
  refused : answer ≡ 6 → (rows : List Triple) (uri : List ℕ) (fault : DeclFault) → IsBundle v folder 0 rows → IsUndeclared rows uri fault
      → Says v folder answer

says_unloaded : (folder : List ℕ) (v v' : VaultState) (fault : LoadFault) (answer : ℕ) → answer ≡ check_status (Load fault)
    → IsUnloaded v v' folder 0 fault → Says v folder answer
says_unloaded folder v v' (Missing path) answer is why = failed (Missing path) is (tt, (v', why))
says_unloaded folder v v' (TooLong path) answer is why = failed (TooLong path) is (tt, (v', why))
says_unloaded folder v v' (Turtle path cause) answer is why = failed (Turtle path cause) is (tt, (v', why))
says_unloaded folder v v' (ReadFailed path) answer is why = nothing (inl is)
says_unloaded folder v v' NoMemory answer is why = nothing (inr is)

says_refused : (folder : List ℕ) (v v' : VaultState) (k k' : SinkState) (refusal : CheckRefusal) (answer : ℕ)
    → answer ≡ check_status refusal → IsCaused folder v v' k k' refusal → Says v folder answer
says_refused folder v v' k k' (Load fault) answer is why = says_unloaded folder v v' fault answer is why
says_refused folder v v' k k' (Undeclared uri rule) answer is why = refused is why.0 uri why.2.0 why.1 why.2.1
says_refused folder v v' k k' WriteFailed answer is why = listed (inr is) why.1.0 why.1.1 why.1.2

says : (folder : List ℕ) (v v' : VaultState) (k k' : SinkState) (answer : ℕ) → Explains folder v v' k k' answer → Says v folder answer
says folder v v' k k' answer (inl (is, done)) = listed (inl is) done.0 done.1 done.2
says folder v v' k k' answer (inr (refusal, is, why, said)) = says_refused folder v v' k k' refusal answer is why

-- files that give a fault give no rows, and no other fault
not_both : (v : VaultState) (folder : List ℕ) (rows : List Triple) (why : LoadFault) → IsTrue v.tells
    → IsBundle v folder 0 rows → IsLoadedAs v folder 0 (Err why) → ⊥
not_both v folder rows why known x y =
    let same : ◌≡◌ {A = Result (List Triple) LoadFault} (Ok rows) (Err why) = one_answer v folder 0 (Ok rows) (Err why) known x y in cc

one_fault : (v : VaultState) (folder : List ℕ) (a b : LoadFault) → IsTrue v.tells
    → IsLoadedAs v folder 0 (Err a) → IsLoadedAs v folder 0 (Err b) → a ≡ b
one_fault v folder a b known x y =
    let same : ◌≡◌ {A = Result (List Triple) LoadFault} (Err a) (Err b) = one_answer v folder 0 (Err a) (Err b) known x y in cc

same_bundle : (v : VaultState) (folder : List ℕ) (a b : List Triple) → IsTrue v.tells → IsBundle v folder 0 a → IsBundle v folder 0 b → a ≡ b
same_bundle v folder a b known x y =
    let same : ◌≡◌ {A = Result (List Triple) LoadFault} (Ok a) (Ok b) = one_answer v folder 0 (Ok a) (Ok b) known x y in cc

only_failed : (v : VaultState) (folder : List ℕ) (answer here : ℕ) (why : LoadFault) → IsTrue v.tells → Says v folder answer
    → IsLoadedAs v folder 0 (Err why) → check_status (Load why) ≡ here → IsOneOf answer (here ∷ 3 ∷ 14 ∷ [])
only_failed v folder answer here why known (nothing (inl is)) y e = inr (inl is)
only_failed v folder answer here why known (nothing (inr is)) y e = inr (inr (inl is))
only_failed v folder answer here why known (failed fault is x) y e =
    inl (is ∙ (ap (λ (fault : LoadFault). check_status (Load fault)) (one_fault v folder fault why known x y) ∙ e))
only_failed v folder answer here why known (listed is rows x all) y e = absurd (not_both v folder rows why known x y)
only_failed v folder answer here why known (refused is rows uri fault x cause) y e = absurd (not_both v folder rows why known x y)

only_refused : (v : VaultState) (folder : List ℕ) (answer : ℕ) → IsTrue v.tells → Says v folder answer → (rows : List Triple) (uri : List ℕ) (fault : DeclFault)
    → IsBundle v folder 0 rows → IsUndeclared rows uri fault → IsOneOf answer (6 ∷ 3 ∷ 14 ∷ [])
only_refused v folder answer known (nothing (inl is)) rows uri fault y why = inr (inl is)
only_refused v folder answer known (nothing (inr is)) rows uri fault y why = inr (inr (inl is))
only_refused v folder answer known (failed cause is x) rows uri fault y why = absurd (not_both v folder rows cause known y x)
only_refused v folder answer known (listed is here x all) rows uri fault y why =
    absurd (declared_or_not rows uri fault (subst AreDeclared (same_bundle v folder here rows known x y) all) why)
only_refused v folder answer known (refused is here named other x cause) rows uri fault y why = inl is

only_listed : (v : VaultState) (folder : List ℕ) (answer : ℕ) → IsTrue v.tells → Says v folder answer → (rows : List Triple)
    → IsBundle v folder 0 rows → AreDeclared rows → IsOneOf answer (0 ∷ 3 ∷ 4 ∷ 14 ∷ [])
only_listed v folder answer known (nothing (inl is)) rows y all = inr (inl is)
only_listed v folder answer known (nothing (inr is)) rows y all = inr (inr (inr (inl is)))
only_listed v folder answer known (failed cause is x) rows y all = absurd (not_both v folder rows cause known y x)
only_listed v folder answer known (listed (inl is) here x each) rows y all = inl is
only_listed v folder answer known (listed (inr is) here x each) rows y all = inr (inr (inl is))
only_listed v folder answer known (refused is here uri fault x why) rows y all =
    absurd (declared_or_not here uri fault (subst AreDeclared (same_bundle v folder rows here known y x) all) why)

-- no refusal has the status of usage
no_usage : (refusal : CheckRefusal) → check_status refusal ≢ 1
no_usage (Load fault) e = let two = low fault in omega arith
no_usage (Undeclared uri rule) e = omega arith
no_usage WriteFailed e = omega arith

never_usage : (folder : List ℕ) (v v' : VaultState) (k k' : SinkState) (answer : ℕ)
    → Explains folder v v' k k' answer → answer ≡ 1 → ⊥
never_usage folder v v' k k' answer (inl (is, done)) one = omega arith
never_usage folder v v' k k' answer (inr (refusal, is, why, said)) one = no_usage refusal (sym is ∙ one)

-- an answer that is explained keeps to what the files hold
pub answers : (folder : List ℕ) (v v' : VaultState) (k k' : SinkState) (answer : ℕ)
    → Explains folder v v' k k' answer → LeavesFiles v v' → AnswersCheck folder v v' k k' answer
answers folder v v' k k' answer why files =
    let said = says folder v v' k k' answer why in
    record {
      explained = why;
      files = files;
      absent = λ known later path x. only_failed v folder answer 2 (Missing path) known said (tt, (later, x)) refl;
      long = λ known later path x. only_failed v folder answer 9 (TooLong path) known said (tt, (later, x)) refl;
      broken = λ known later path fault x.
          only_failed v folder answer 5 (Turtle path fault) known said (tt, (later, x)) (no_document v later folder path fault x);
      undeclared = λ known rows uri fault x why. only_refused v folder answer known said rows uri fault x why;
      declared = λ known rows x all. only_listed v folder answer known said rows x all;
      formed = never_usage folder v v' k k' answer why;
    }
