-- What a refusal means, step by step to the top call's one clause.
use Rattle.std.proofs.Common.{◌≡◌, ℕ, ◌<◌, ◌≤◌, ◌⊎◌, List, [], ◌∷◌, length, Option, Some, None, IsTrue, sym, ◌∙◌, ap, arith, inl, inr}
use Rattle.lv_outside.specs.Count.{Rose}
use Rattle.replay_core.specs.Play.{Meaning}
use Rattle.session_script.specs.declared.session.Session.{Session}
use Rattle.session_script.specs.declared.fault.ScriptRule.{ScriptRule}
use Rattle.session_script.specs.declared.fault.Limit.{Limit}
use Rattle.session_script.specs.Script.{IsSessionOf, IsFirstBroken, IsPast}
use Rattle.session_script.specs.Later.{first_later}
use Rattle.session_script.proofs.Laws.{one_session, no_line, no_limit, line_first}
use Rattle.lv_outside.specs.World.{VaultState, SinkState, IsSaid}
use Rattle.host_main.specs.Status.{status_of, line_of, most_session_bytes}
use Rattle.host_main.specs.Files.{IsFile}
use Rattle.host_main.specs.Render.{HasNoLater, IsLater, IsUnwritten, IsUnrendered, IsCaused, LeavesSink, Explains, IsOneOf, AnswersRender}
use Rattle.host_main.specs.declared.refusal.Refusal.{Refusal}
use Rattle.host_main.specs.declared.refusal.Refusal.TheVariants.{Usage, Missing, ReadFailed, WriteFailed, Script, Past, Later, TooLong, NoMemory}
use Rattle.host_main.specs.declared.refusal.Target.{Target}
use Rattle.host_main.specs.declared.refusal.Target.TheVariants.{Record, Sound, State, Summary}

-- a file that wasn't written
pub unwritten : {F : Type 0} (code : Meaning F) (path name : List ℕ) (v v' : VaultState) (target : Target)
    → IsFile target → IsUnwritten code path name v v' target → IsUnrendered code path name v v' (WriteFailed target)
unwritten code path name v v' Record file why = why
unwritten code path name v v' Sound file why = why
unwritten code path name v v' State file why = why
unwritten code path name v v' Summary file why = absurd file

-- a fault of the sink is still one after more calls
pub rose_later : (before mid after : ℕ) → Rose before mid → mid ≤ after → Rose before after
rose_later before mid after rose later = omega arith

-- the cause stands after the line was put
pub caused_later : {F : Type 0} (code : Meaning F) (path name : List ℕ) (v v' : VaultState) (k k' k'' : SinkState) (refusal : Refusal)
    → IsCaused code path name v v' k k' refusal → k'.faults ≤ k''.faults → IsCaused code path name v v' k k'' refusal
caused_later code path name v v' k k' k'' (WriteFailed Summary) why later = (rose_later _ _ _ why.0 later, why.1)
caused_later code path name v v' k k' k'' (WriteFailed Record) why later = why
caused_later code path name v v' k k' k'' (WriteFailed Sound) why later = why
caused_later code path name v v' k k' k'' (WriteFailed State) why later = why
caused_later code path name v v' k k' k'' Usage why later = why
caused_later code path name v v' k k' k'' Missing why later = why
caused_later code path name v v' k k' k'' ReadFailed why later = why
caused_later code path name v v' k k' k'' (Script line rule) why later = why
caused_later code path name v v' k k' k'' (Past which number) why later = why
caused_later code path name v v' k k' k'' (Later line) why later = why
caused_later code path name v v' k k' k'' TooLong why later = why
caused_later code path name v v' k k' k'' NoMemory why later = why

-- the line was put after the work, which left the sink as it was or failed on it
said_after : (path name : List ℕ) (k k' k'' : SinkState) (refusal : Refusal)
    → LeavesSink refusal k k' → k'.faults ≤ k''.faults → IsSaid k' k'' (line_of path name refusal)
    → IsSaid k k'' (line_of path name refusal)
said_after path name k k' k'' (WriteFailed Summary) left later said = λ known calm. absurd (calm (rose_later _ _ _ left later))
said_after path name k k' k'' (WriteFailed Record) left later said = rw (← left) said
said_after path name k k' k'' (WriteFailed Sound) left later said = rw (← left) said
said_after path name k k' k'' (WriteFailed State) left later said = rw (← left) said
said_after path name k k' k'' Usage left later said = rw (← left) said
said_after path name k k' k'' Missing left later said = rw (← left) said
said_after path name k k' k'' ReadFailed left later said = rw (← left) said
said_after path name k k' k'' (Script line rule) left later said = rw (← left) said
said_after path name k k' k'' (Past which number) left later said = rw (← left) said
said_after path name k k' k'' (Later line) left later said = rw (← left) said
said_after path name k k' k'' TooLong left later said = rw (← left) said
said_after path name k k' k'' NoMemory left later said = rw (← left) said

-- a refusal is explained once its line was put
pub explained : {F : Type 0} (code : Meaning F) (path name : List ℕ) (v v' : VaultState) (k k' k'' : SinkState) (refusal : Refusal) (answer : ℕ)
    → answer ≡ status_of refusal → IsCaused code path name v v' k k' refusal → LeavesSink refusal k k'
    → IsSaid k' k'' (line_of path name refusal) → k'.faults ≤ k''.faults → Explains code path name v v' k k'' answer
explained code path name v v' k k' k'' refusal answer is why left said later =
    inr (refusal, is, caused_later code path name v v' k k' k'' refusal why later, said_after path name k k' k'' refusal left later said)

-- a file can't be there and not be there
pub nowhere : (file : Option (List ℕ)) (bytes : List ℕ) → file ≡ None → file ≡ Some bytes → ⊥
nowhere file bytes here there = let same : ◌≡◌ {A = Option (List ℕ)} None (Some bytes) = sym here ∙ there in cc

-- one file has one text
pub same_text : (file : Option (List ℕ)) (a b : List ℕ) → file ≡ Some a → file ≡ Some b → a ≡ b
same_text file a b one other = let same : ◌≡◌ {A = Option (List ℕ)} (Some a) (Some b) = sym one ∙ other in cc

-- a script's session has a line that can't be played yet, or none
not_both : (bytes : List ℕ) (s : Session) (line : ℕ) → IsSessionOf bytes s → HasNoLater bytes s → IsLater bytes line → ⊥
not_both bytes s line session none later =
    let same : later.s ≡ s = one_session bytes later.s s later.session session in
    let both : ◌≡◌ {A = Option ℕ} None (Some line) = sym none ∙ (ap (first_later bytes) (sym same) ∙ later.first) in cc

-- What an answer says of a known file: nothing where a read failed or memory was refused.
data Says (answer : ℕ) (file : Option (List ℕ)) : Type 0 where
  nothing : (answer ≡ 3) ⊎ (answer ≡ 14) → Says answer file
  absent : answer ≡ 2 → file ≡ None → Says answer file
  long : answer ≡ 9 → (bytes : List ℕ) → file ≡ Some bytes → most_session_bytes < length bytes → Says answer file
  broken : answer ≡ 7 → (bytes : List ℕ) (line : ℕ) (rule : ScriptRule) → file ≡ Some bytes → length bytes ≤ most_session_bytes
      → IsFirstBroken bytes line rule → Says answer file
  past : answer ≡ 9 → (bytes : List ℕ) (which : Limit) (number : ℕ) → file ≡ Some bytes → length bytes ≤ most_session_bytes
      → IsPast bytes which number → Says answer file
  later : answer ≡ 7 → (bytes : List ℕ) (line : ℕ) → file ≡ Some bytes → length bytes ≤ most_session_bytes
      → IsLater bytes line → Says answer file
  accepted : (answer ≡ 0) ⊎ (answer ≡ 4) → (bytes : List ℕ) (s : Session) → file ≡ Some bytes
      → length bytes ≤ most_session_bytes → IsSessionOf bytes s → HasNoLater bytes s → Says answer file

says_refused : {F : Type 0} (code : Meaning F) (path name : List ℕ) (v v' : VaultState) (k k' : SinkState) (refusal : Refusal) (answer : ℕ)
    → IsTrue v.tells → answer ≡ status_of refusal → IsCaused code path name v v' k k' refusal → Says answer (v.file path)
says_refused code path name v v' k k' Usage answer known is why = absurd why.0
says_refused code path name v v' k k' Missing answer known is why = absent is (why.0.1 known)
says_refused code path name v v' k k' ReadFailed answer known is why = nothing (inl is)
says_refused code path name v v' k k' (Script line rule) answer known is why =
    broken is why.0.0 line rule (why.0.3 known) why.0.2 why.0.1
says_refused code path name v v' k k' (Past which number) answer known is why =
    past is why.0.0 which number (why.0.3 known) why.0.2 why.0.1
says_refused code path name v v' k k' (Later line) answer known is why =
    later is why.0.0 line (why.0.3 known) why.0.2 why.0.1
says_refused code path name v v' k k' TooLong answer known is why =
    let found = why.0.1 known in long is found.0 found.1 found.2
says_refused code path name v v' k k' NoMemory answer known is why = nothing (inr is)
says_refused code path name v v' k k' (WriteFailed Record) answer known is why =
    accepted (inr is) why.bytes why.s (why.read.found known) why.read.short why.read.session why.read.none_later
says_refused code path name v v' k k' (WriteFailed Sound) answer known is why =
    accepted (inr is) why.bytes why.s (why.read.found known) why.read.short why.read.session why.read.none_later
says_refused code path name v v' k k' (WriteFailed State) answer known is why =
    accepted (inr is) why.bytes why.s (why.read.found known) why.read.short why.read.session why.read.none_later
says_refused code path name v v' k k' (WriteFailed Summary) answer known is why =
    let done = why.1.1 in accepted (inr is) done.bytes done.s (done.read.found known) done.read.short done.read.session done.read.none_later

says : {F : Type 0} (code : Meaning F) (path name : List ℕ) (v v' : VaultState) (k k' : SinkState) (answer : ℕ)
    → Explains code path name v v' k k' answer → IsTrue v.tells → Says answer (v.file path)
says code path name v v' k k' answer (inl (is, done)) known =
    let work = done.1 in accepted (inl is) work.bytes work.s (work.read.found known) work.read.short work.read.session work.read.none_later
says code path name v v' k k' answer (inr (refusal, is, why, said)) known =
    says_refused code path name v v' k k' refusal answer known is why

first_of_three : (a b c answer : ℕ) → (answer ≡ b) ⊎ (answer ≡ c) → IsOneOf answer (a ∷ b ∷ c ∷ [])
first_of_three a b c answer (inl is) = inr (inl is)
first_of_three a b c answer (inr is) = inr (inr (inl is))

-- two texts of a file with lengths on both sides of the limit
too_long : (file : Option (List ℕ)) (a b : List ℕ) → file ≡ Some a → file ≡ Some b → length a ≤ most_session_bytes → most_session_bytes < length b → ⊥
too_long file a b one other few much = let same = ap length (same_text file a b one other) in omega (arith, same)

only_absent : (answer : ℕ) (file : Option (List ℕ)) → Says answer file → file ≡ None → IsOneOf answer (2 ∷ 3 ∷ 14 ∷ [])
only_absent answer file (nothing is) gone = first_of_three 2 3 14 answer is
only_absent answer file (absent is none) gone = inl is
only_absent answer file (long is bytes found more) gone = absurd (nowhere file bytes gone found)
only_absent answer file (broken is bytes line rule found short first) gone = absurd (nowhere file bytes gone found)
only_absent answer file (past is bytes which number found short first) gone = absurd (nowhere file bytes gone found)
only_absent answer file (later is bytes line found short first) gone = absurd (nowhere file bytes gone found)
only_absent answer file (accepted is bytes s found short session form) gone = absurd (nowhere file bytes gone found)

only_long : (answer : ℕ) (file : Option (List ℕ)) → Says answer file → (bytes : List ℕ) → file ≡ Some bytes
    → most_session_bytes < length bytes → IsOneOf answer (9 ∷ 3 ∷ 14 ∷ [])
only_long answer file (nothing is) bytes here much = first_of_three 9 3 14 answer is
only_long answer file (absent is none) bytes here much = absurd (nowhere file bytes none here)
only_long answer file (long is text found more) bytes here much = inl is
only_long answer file (broken is text line rule found short first) bytes here much = absurd (too_long file text bytes found here short much)
only_long answer file (past is text which number found short first) bytes here much = absurd (too_long file text bytes found here short much)
only_long answer file (later is text line found short first) bytes here much = absurd (too_long file text bytes found here short much)
only_long answer file (accepted is text s found short session form) bytes here much = absurd (too_long file text bytes found here short much)

only_broken : (answer : ℕ) (file : Option (List ℕ)) → Says answer file → (bytes : List ℕ) (line : ℕ) (rule : ScriptRule) → file ≡ Some bytes
    → length bytes ≤ most_session_bytes → IsFirstBroken bytes line rule → IsOneOf answer (7 ∷ 3 ∷ 14 ∷ [])
only_broken answer file (nothing is) bytes line rule here few first = first_of_three 7 3 14 answer is
only_broken answer file (absent is none) bytes line rule here few first = absurd (nowhere file bytes none here)
only_broken answer file (long is text found more) bytes line rule here few first = absurd (too_long file bytes text here found few more)
only_broken answer file (broken is text other by found short first) bytes line rule here few second = inl is
only_broken answer file (past is text which number found short over) bytes line rule here few first =
    absurd (line_first text line rule which number (rw (same_text file text bytes found here) first) over)
only_broken answer file (later is text other found short form) bytes line rule here few first = inl is
only_broken answer file (accepted is text s found short session form) bytes line rule here few first =
    absurd (no_line text s line rule session (rw (same_text file text bytes found here) first))

only_past : (answer : ℕ) (file : Option (List ℕ)) → Says answer file → (bytes : List ℕ) (which : Limit) (number : ℕ) → file ≡ Some bytes
    → length bytes ≤ most_session_bytes → IsPast bytes which number → IsOneOf answer (9 ∷ 3 ∷ 14 ∷ [])
only_past answer file (nothing is) bytes which number here few over = first_of_three 9 3 14 answer is
only_past answer file (absent is none) bytes which number here few over = absurd (nowhere file bytes none here)
only_past answer file (long is text found more) bytes which number here few over = inl is
only_past answer file (broken is text line rule found short first) bytes which number here few over =
    absurd (line_first text line rule which number first (rw (same_text file text bytes found here) over))
only_past answer file (past is text w n found short first) bytes which number here few over = inl is
only_past answer file (later is text line found short form) bytes which number here few over =
    absurd (no_limit text form.s which number form.session (rw (same_text file text bytes found here) over))
only_past answer file (accepted is text s found short session form) bytes which number here few over =
    absurd (no_limit text s which number session (rw (same_text file text bytes found here) over))

only_later : (answer : ℕ) (file : Option (List ℕ)) → Says answer file → (bytes : List ℕ) (line : ℕ) → file ≡ Some bytes
    → length bytes ≤ most_session_bytes → IsLater bytes line → IsOneOf answer (7 ∷ 3 ∷ 14 ∷ [])
only_later answer file (nothing is) bytes line here few form = first_of_three 7 3 14 answer is
only_later answer file (absent is none) bytes line here few form = absurd (nowhere file bytes none here)
only_later answer file (long is text found more) bytes line here few form = absurd (too_long file bytes text here found few more)
only_later answer file (broken is text other rule found short first) bytes line here few form = inl is
only_later answer file (past is text which number found short over) bytes line here few form =
    absurd (no_limit bytes form.s which number form.session (rw (same_text file bytes text here found) over))
only_later answer file (later is text other found short first) bytes line here few form = inl is
only_later answer file (accepted is text s found short session formed) bytes line here few form =
    absurd (not_both bytes s line (rw (same_text file bytes text here found) session) (rw (same_text file bytes text here found) formed) form)

only_accepted : (answer : ℕ) (file : Option (List ℕ)) → Says answer file → (bytes : List ℕ) (s : Session) → file ≡ Some bytes
    → length bytes ≤ most_session_bytes → IsSessionOf bytes s → HasNoLater bytes s → IsOneOf answer (0 ∷ 3 ∷ 4 ∷ 14 ∷ [])
only_accepted answer file (nothing (inl is)) bytes s here few session form = inr (inl is)
only_accepted answer file (nothing (inr is)) bytes s here few session form = inr (inr (inr (inl is)))
only_accepted answer file (absent is none) bytes s here few session form = absurd (nowhere file bytes none here)
only_accepted answer file (long is text found more) bytes s here few session form = absurd (too_long file bytes text here found few more)
only_accepted answer file (broken is text line rule found short first) bytes s here few session form =
    absurd (no_line text s line rule (rw (same_text file text bytes found here) session) first)
only_accepted answer file (past is text which number found short over) bytes s here few session form =
    absurd (no_limit text s which number (rw (same_text file text bytes found here) session) over)
only_accepted answer file (later is text line found short unformed) bytes s here few session form =
    absurd (not_both text s line (rw (same_text file text bytes found here) session) (rw (same_text file text bytes found here) form) unformed)
only_accepted answer file (accepted (inl is) text other found short first formed) bytes s here few session form = inl is
only_accepted answer file (accepted (inr is) text other found short first formed) bytes s here few session form = inr (inr (inl is))

formed : {F : Type 0} (code : Meaning F) (path name : List ℕ) (v v' : VaultState) (k k' : SinkState) (refusal : Refusal) (answer : ℕ)
    → answer ≡ status_of refusal → IsCaused code path name v v' k k' refusal → answer ≡ 1 → ⊥
formed code path name v v' k k' Usage answer is why one = why.0
formed code path name v v' k k' Missing answer is why one = omega (arith, is)
formed code path name v v' k k' ReadFailed answer is why one = omega (arith, is)
formed code path name v v' k k' (Script line rule) answer is why one = omega (arith, is)
formed code path name v v' k k' (Past which number) answer is why one = omega (arith, is)
formed code path name v v' k k' (Later line) answer is why one = omega (arith, is)
formed code path name v v' k k' TooLong answer is why one = omega (arith, is)
formed code path name v v' k k' NoMemory answer is why one = omega (arith, is)
formed code path name v v' k k' (WriteFailed target) answer is why one = omega (arith, is)

never_usage : {F : Type 0} (code : Meaning F) (path name : List ℕ) (v v' : VaultState) (k k' : SinkState) (answer : ℕ)
    → Explains code path name v v' k k' answer → answer ≡ 1 → ⊥
never_usage code path name v v' k k' answer (inl (is, done)) one = omega (arith, is)
never_usage code path name v v' k k' answer (inr (refusal, is, why, said)) one =
    formed code path name v v' k k' refusal answer is why one

-- an answer that is explained keeps to what the file holds
pub answers : {F : Type 0} (code : Meaning F) (path name : List ℕ) (v v' : VaultState) (k k' : SinkState) (answer : ℕ)
    → Explains code path name v v' k k' answer → AnswersRender code path name v v' k k' answer
answers code path name v v' k k' answer why = record {
  explained = why;
  absent = λ known gone. only_absent answer (v.file path) (says code path name v v' k k' answer why known) gone;
  long = λ known. only_long answer (v.file path) (says code path name v v' k k' answer why known);
  broken = λ known. only_broken answer (v.file path) (says code path name v v' k k' answer why known);
  past = λ known. only_past answer (v.file path) (says code path name v v' k k' answer why known);
  later = λ known. only_later answer (v.file path) (says code path name v v' k k' answer why known);
  accepted = λ known. only_accepted answer (v.file path) (says code path name v v' k k' answer why known);
  formed = never_usage code path name v v' k k' answer why;
}
