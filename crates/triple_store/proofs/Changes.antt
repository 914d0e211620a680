-- What one change of the map of ends does to each subject's ends.
use Rattle.std.proofs.Common.{◌≡◌, Bool, true, false, cond, Option, None, Some, Result, Ok, Err, OnErr, MutBor, is_some, refl, ap, sym, subst, ◌∙◌}
use Rattle.std.specs.Option.{option_copied_mut}
use Rattle.std.specs.HashMap.{WritesThrough}
use Rattle.indexmap.specs.IndexMap.{IndexMap, get, get_by}
use Rattle.triple_store.specs.contracts.term.TermPartialEq.TheImpl.{eq-value as term_eq}
use Rattle.triple_store.specs.Triples.{same_term}
use Rattle.triple_store.specs.declared.subjects.Ends.{Ends}
use Rattle.triple_store.specs.declared.term.Term.{Term}
use Rattle.triple_store.proofs.SameTerm.{same_term-itself, eq_of_terms}

-- what is kept for the subject s becomes w, and stays for each other
abbrev pub Sets : (Term → Option Ends) → Term → Option Ends → (Term → Option Ends) → Type 0
Sets f s w g = (q : Term) → g q ≡ cond (same_term s q) w (f q)

-- at the subject itself, and at another
pub sets-own : (f g : Term → Option Ends) (s : Term) (w : Option Ends) → Sets f s w g → g s ≡ w
sets-own f g s w sets = sets s ∙ ap (λ b. cond b w (f s)) (same_term-itself s)

pub sets-other : (f g : Term → Option Ends) (s : Term) (w : Option Ends) (q : Term) → Sets f s w g → same_term s q ≡ false → g q ≡ f q
sets-other f g s w q sets other = sets q ∙ ap (λ b. cond b w (f q)) other

-- two changes of one subject in turn are the second
pub twice : (f g k : Term → Option Ends) (s : Term) (v w : Option Ends) → Sets f s v g → Sets g s w k → Sets f s w k
twice f g k s v w first second q = second q ∙ ap (λ o. cond (same_term s q) w o) (first q) ∙ inner (same_term s q) (f q)
  where
    inner : (b : Bool) (o : Option Ends) → cond b w (cond b v o) ≡ cond b w o
    inner true o = refl
    inner false o = refl

-- what holds anyway holds of an error
pub at_err : {T E P : Type 0} (r : Result T E) → P → OnErr r P
at_err (Ok x) p = tt
at_err (Err y) p = p

-- what a change of the map by `==` of terms sets
pub sets : {S : Type 0} (m n : IndexMap Term Ends S) (s : Term) (w : Option Ends)
    → ((q : Term) → get term_eq.it n q ≡ cond (term_eq.it s q) w (get term_eq.it m q)) → Sets (get same_term m) s w (get same_term n)
sets m n s w h = subst (λ (eq : Term → Term → Bool). (q : Term) → get eq n q ≡ cond (eq s q) w (get eq m q)) eq_of_terms h

-- what is lent is what is kept for the subject
pub lent : {S : Type 0} (m : IndexMap Term Ends S) (s : Term) (o : Option (MutBor Ends)) → option_copied_mut o ≡ get_by (term_eq.it s) m → option_copied_mut o ≡ get same_term m s
lent m s o e = e ∙ ap (λ (eq : Term → Term → Bool). get eq m s) eq_of_terms

-- nothing is kept where nothing is lent
pub absent : {S : Type 0} (m : IndexMap Term Ends S) (s : Term) (o : Option (MutBor Ends)) → option_copied_mut o ≡ get_by (term_eq.it s) m → o ≡ None → get same_term m s ≡ None
absent m s o value is = sym (lent m s o value) ∙ ap option_copied_mut is

-- what is kept where something is lent
pub present : {S : Type 0} (m : IndexMap Term Ends S) (s : Term) (o : Option (MutBor Ends)) (x : MutBor Ends)
    → option_copied_mut o ≡ get_by (term_eq.it s) m → o ≡ Some x → get same_term m s ≡ Some x.now
present m s o x value is = sym (lent m s o value) ∙ ap option_copied_mut is

-- what is kept after a write through the loan
pub written : {S : Type 0} (m n : IndexMap Term Ends S) (s : Term) (o : Option (MutBor Ends)) (x : MutBor Ends) (new : Ends)
    → option_copied_mut o ≡ get_by (term_eq.it s) m → o ≡ Some x → WritesThrough term_eq.it (term_eq.it s) m new n → Sets (get same_term m) s (Some new) (get same_term n)
written m n s o x new value is writes = sets m n s (Some new) ((writes.3 (ap is_some (sym value ∙ ap option_copied_mut is))).0)

-- what is kept after a new key
pub inserted : {S : Type 0} (m n : IndexMap Term Ends S) (s key : Term) (new : Ends) → key ≡ s
    → ((q : Term) → get term_eq.it n q ≡ cond (term_eq.it key q) (Some new) (get term_eq.it m q)) → Sets (get same_term m) s (Some new) (get same_term n)
inserted m n s key new same_key updates = subst (λ t. Sets (get same_term m) t (Some new) (get same_term n)) same_key (sets m n key (Some new) updates)

-- what is kept after a removal of what was lent
pub removed : {S : Type 0} (m k n : IndexMap Term Ends S) (s : Term) (o : Option (MutBor Ends)) (x : MutBor Ends) (new : Ends)
    → option_copied_mut o ≡ get_by (term_eq.it s) m → o ≡ Some x → WritesThrough term_eq.it (term_eq.it s) m new k
    → ((q : Term) → get term_eq.it n q ≡ cond (term_eq.it s q) None (get term_eq.it k q)) → Sets (get same_term m) s None (get same_term n)
removed m k n s o x new value is writes updates =
    twice (get same_term m) (get same_term k) (get same_term n) s (Some new) None (written m k s o x new value is writes) (sets k n s None updates)
