-- From all checks to what is answered.
use Rattle.std.proofs.Common.{◌≡◌, ℕ, ◌≤◌, List, length, Result, Ok, Err, inl, inr, sym, subst, ⊎_elim, IfOk, IfErr, OnOk}
use Rattle.triple_store.specs.declared.term.Term.{Term}
use Rattle.triple_store.specs.declared.term.Term.TheVariants.{Iri}
use Rattle.triple_store.specs.declared.term.Triple.{Triple}
use Rattle.plugin_decl.specs.declared.declaration.Decl.{Decl}
use Rattle.plugin_decl.specs.declared.declaration.DeclFault.{DeclFault}
use Rattle.plugin_decl.specs.Declaration.{ports_of, declaration_of}
use Rattle.plugin_decl.specs.Rules.{AreAllKept, IsFirstBroken, IsCause}
use Rattle.plugin_decl.specs.Checks.{Checked}
use Rattle.plugin_decl.specs.Valid.{IsValid}
use Rattle.plugin_decl.specs.Answer.{IsDeclOrNoMemory, IsFaultOrNoMemory}
use Rattle.plugin_decl.proofs.Order.{kept-all}
use Rattle.plugin_decl.proofs.Laws.{one_fault, not_both}
use Rattle.plugin_decl.proofs.Validity.{IsValid-declared}

-- the checks, of the IRI itself
pub checked-iri : (rows : List Triple) (uri : List ℕ) (block : ℕ) (term : Term) (r : Result Decl DeclFault) → term ≡ Iri uri → Checked rows term block 13 r → Checked rows (Iri uri) block 13 r
checked-iri rows uri block term r e h = subst (λ t. Checked rows t block 13 r) e h

pub few-iri : (rows : List Triple) (uri : List ℕ) (term : Term) (r : Result Decl DeclFault) → term ≡ Iri uri → OnOk r (length (ports_of rows term) ≤ 256) → OnOk r (length (ports_of rows (Iri uri)) ≤ 256)
few-iri rows uri term r e h = subst (λ t. OnOk r (length (ports_of rows t) ≤ 256)) e h

pub kept-of : (rows : List Triple) (uri : List ℕ) (block : ℕ) (r : Result Decl DeclFault) → Checked rows (Iri uri) block 13 r → OnOk r (AreAllKept rows (Iri uri) block)
kept-of rows uri block (Ok decl) h = kept-all rows (Iri uri) block h
kept-of rows uri block (Err fault) h = tt

pub err-of : (rows : List Triple) (uri : List ℕ) (block : ℕ) (r : Result Decl DeclFault) → Checked rows (Iri uri) block 13 r → IfErr r (IsCause rows (Iri uri) block)
err-of rows uri block (Ok decl) h = tt
err-of rows uri block (Err fault) h = h

pub valid-of : (rows : List Triple) (uri : List ℕ) (block : ℕ) (r : Result Decl DeclFault) → Checked rows (Iri uri) block 13 r → IfOk r (λ decl. decl ≡ declaration_of rows uri) → OnOk r (length (ports_of rows (Iri uri)) ≤ 256) → IfOk r IsValid
valid-of rows uri block (Ok decl) h value few = subst IsValid (sym value) (IsValid-declared rows uri block (kept-all rows (Iri uri) block h) few)
valid-of rows uri block (Err fault) h value few = tt

pub declared-of : (rows : List Triple) (uri : List ℕ) (block : ℕ) (r : Result Decl DeclFault) → Checked rows (Iri uri) block 13 r → IfOk r (λ decl. decl ≡ declaration_of rows uri) → AreAllKept rows (Iri uri) block → IsDeclOrNoMemory (declaration_of rows uri) r
declared-of rows uri block (Ok decl) h value kept = value
declared-of rows uri block (Err fault) h value kept = ⊎_elim (λ e. e) (λ first. absurd (not_both rows (Iri uri) block fault kept first)) h

pub broken-of : (rows : List Triple) (uri : List ℕ) (block : ℕ) (r : Result Decl DeclFault) → Checked rows (Iri uri) block 13 r → (fault : DeclFault) → IsFirstBroken rows (Iri uri) block fault → IsFaultOrNoMemory fault r
broken-of rows uri block (Ok decl) h fault first = not_both rows (Iri uri) block fault (kept-all rows (Iri uri) block h) first
broken-of rows uri block (Err other) h fault first = ⊎_elim (λ e. inr e) (λ broken. inl (one_fault rows (Iri uri) block other fault broken first)) h
