-- A script has one answer.
use Rattle.std.proofs.Common.{◌≡◌, ℕ, ◌-◌, ◌≤◌, List, ◌⊎◌, Some, refl, sym, ap, ◌∙◌, ⊎_elim, inl, inr, arith, Result, Ok, Err}
use Rattle.std.specs.Prelude.{IsUtf8}
use Rattle.std.proofs.lemmas.Bool.{cases_lt}
use Rattle.session_script.specs.declared.session.Session.{Session}
use Rattle.session_script.specs.declared.fault.ScriptRule.{ScriptRule}
use Rattle.session_script.specs.declared.fault.Limit.{Limit}
use Rattle.session_script.specs.declared.fault.ScriptFault.{ScriptFault}
use Rattle.session_script.specs.declared.fault.ScriptFault.TheVariants.{Bad, Limit as Past, NoMemory}
use Rattle.session_script.specs.Answer.{ReadsText, IsFaultOrNoMemory}
use Rattle.session_script.specs.Line.{Line, lines_of}
use Rattle.session_script.specs.Limits.{passed}
use Rattle.session_script.specs.Script.{AreWell, IsWhole, IsSessionOf, IsFirstIn, IsBlank, IsFirstBroken, IsPast, rule_at}
use Rattle.session_script.proofs.Booleans.{some-none}

same_some : {X : Type 0} (x y : X) → Some x ≡ Some y → x ≡ y
same_some x y e = cc

-- a broken line isn't among lines that break no rule
not_well : (ls : List Line) (n m : ℕ) (rule : ScriptRule) → IsFirstIn ls n rule → AreWell ls m → n ≤ m → ⊥
not_well ls n m rule first well low =
    let counted = first.counted in some-none rule (sym first.broken ∙ well (n - 1) (omega arith))

-- whole lines have no broken one
whole_unbroken : (ls : List Line) (n : ℕ) (rule : ScriptRule) → IsWhole ls → IsFirstIn ls n rule ⊎ IsBlank ls n rule → ⊥
whole_unbroken ls n rule whole broken = ⊎_elim
    (λ first. not_well ls n _ rule first whole.well first.there)
    (λ blank. whole.begun blank.empty)
    broken

pub no_line : (script : List ℕ) (session : Session) (n : ℕ) (r : ScriptRule) → IsSessionOf script session → ¬ IsFirstBroken script n r
no_line script session n r s b = ⊎_elim (λ bad. bad.bad s.utf8) (λ text. whole_unbroken (lines_of script) n r s.whole text.1) b

pub line_first : (script : List ℕ) (m : ℕ) (r : ScriptRule) (w : Limit) (n : ℕ) → IsFirstBroken script m r → ¬ IsPast script w n
line_first script m r w n b past = ⊎_elim (λ bad. bad.bad past.utf8) (λ text. whole_unbroken (lines_of script) m r past.whole text.1) b

pub no_limit : (script : List ℕ) (session : Session) (w : Limit) (n : ℕ) → IsSessionOf script session → ¬ IsPast script w n
no_limit script session w n s past = some-none (w, n) (sym past.past ∙ ap passed (sym s.value) ∙ s.limited)

pub one_session : (script : List ℕ) (a b : Session) → IsSessionOf script a → IsSessionOf script b → a ≡ b
one_session script a b x y = x.value ∙ sym y.value

pub one_limit : (script : List ℕ) (v w : Limit) (m n : ℕ) → IsPast script v m → IsPast script w n → (v ≡ w) × (m ≡ n)
one_limit script v w m n a b =
    let e : ◌≡◌ {A = Limit × ℕ} (v, m) (w, n) = same_some _ _ (sym a.past ∙ b.past) in
    (ap (λ (p : Limit × ℕ). p.0) e, ap (λ (p : Limit × ℕ). p.1) e)

-- the first broken line is one
first_once : (ls : List Line) (m n : ℕ) (r s : ScriptRule) → IsFirstIn ls m r → IsFirstIn ls n s → n ≤ m
first_once ls m n r s a b = ⊎_elim
    (λ l. let counted = a.counted in absurd (not_well ls m (n - 1) r a b.before (omega arith)))
    (λ l. l)
    (cases_lt m n)

one_first : (ls : List Line) (m n : ℕ) (r s : ScriptRule) → IsFirstIn ls m r → IsFirstIn ls n s → (m ≡ n) × (r ≡ s)
one_first ls m n r s a b =
    let high = first_once ls m n r s a b in
    let low = first_once ls n m s r b a in
    let same : m ≡ n = omega arith in
    (same, same_some r s (sym a.broken ∙ ap (λ k. rule_at ls (k - 1)) same ∙ b.broken))

one_line_of : (ls : List Line) (m n : ℕ) (r s : ScriptRule) → IsFirstIn ls m r ⊎ IsBlank ls m r → IsFirstIn ls n s ⊎ IsBlank ls n s → (m ≡ n) × (r ≡ s)
one_line_of ls m n r s (inl a) (inl b) = one_first ls m n r s a b
one_line_of ls m n r s (inl a) (inr b) = absurd (not_well ls m _ r a b.well a.there)
one_line_of ls m n r s (inr a) (inl b) = absurd (not_well ls n _ s b a.well b.there)
one_line_of ls m n r s (inr a) (inr b) = (a.first ∙ sym b.first, a.head ∙ sym b.head)

pub one_line : (script : List ℕ) (m n : ℕ) (r s : ScriptRule) → IsFirstBroken script m r → IsFirstBroken script n s → (m ≡ n) × (r ≡ s)
one_line script m n r s (inl a) (inl b) = (a.line ∙ sym b.line, a.utf8 ∙ sym b.utf8)
one_line script m n r s (inl a) (inr b) = absurd (a.bad b.0)
one_line script m n r s (inr a) (inl b) = absurd (b.bad a.0)
one_line script m n r s (inr a) (inr b) = one_line_of (lines_of script) m n r s a.1 b.1

-- a broken line is answered by itself
pub answers_broken : (script : List ℕ) (r : Result Session ScriptFault) → IsUtf8 script → ReadsText (lines_of script) r → (line : ℕ) (rule : ScriptRule) → IsFirstBroken script line rule → IsFaultOrNoMemory (Bad line rule) r
answers_broken script r utf8 h line rule (inl bad) = absurd (bad.bad utf8)
answers_broken script (Ok session) utf8 h line rule (inr b) = whole_unbroken (lines_of script) line rule h.0 b.1
answers_broken script (Err (Bad n s)) utf8 h line rule (inr b) =
    let e = one_line_of (lines_of script) n line s rule h b.1 in inl (ap (λ k. Bad k s) e.0 ∙ ap (λ k. Bad line k) e.1)
answers_broken script (Err (Past which number)) utf8 h line rule (inr b) = absurd (whole_unbroken (lines_of script) line rule h.0 b.1)
answers_broken script (Err NoMemory) utf8 h line rule (inr b) = inr refl
