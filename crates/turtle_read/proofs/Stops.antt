-- A fault of a part is one of the whole.
use Rattle.std.proofs.Common.{◌≡◌, ℕ, refl, ap, sym, subst, ◌∙◌, Result, Ok, Err, IsErrAnd, IfErr, Option, None, Some, List}
use Rattle.turtle_document.specs.Meaning.{Fault, State, ◌>>=◌, name_of}
use Rattle.turtle_document.specs.Meaning.Fault.{no_prefix, bad_iri, too_deep, full_store}
use Rattle.turtle_document.specs.Machine.{Config, Move, on, started_name}
use Rattle.turtle_document.specs.Machine.Move.{stuck, fails}
use Rattle.turtle_grammar.specs.Tree.{Name, Leaf}
use Rattle.turtle_grammar.specs.declared.token.TokenKind.{TokenKind}
use Rattle.turtle_read.specs.Faults.{Refuses, Gives, Stops, Follows, NamesNone}
use Rattle.turtle_read.specs.Moves.{named}
use Rattle.turtle_read.specs.Names.{iri_of}
use Rattle.turtle_read.specs.declared.token_fault.TokenFault.{TokenFault}
use Rattle.turtle_read.specs.declared.token_fault.TokenFault.TheVariants.{Syntax, NoPrefix, BadIri, Depth, StoreFull, NoMemory}

pub stops_from : (at : ℕ) (fault : TokenFault) (m : Move) (R : Fault → Type 0) → Refuses fault R → ((f : Fault) → R f → m ≡ fails f) → Stops at fault m
stops_from at (Syntax place) m R h g = absurd h
stops_from at (NoPrefix place) m R h g = g (no_prefix place) h
stops_from at (BadIri place) m R h g = g (bad_iri place) h
stops_from at (Depth place) m R h g = g (too_deep place) h
stops_from at (StoreFull place) m R h g = g (full_store place) h
stops_from at NoMemory m R h g = tt

pub refuses_from : (fault : TokenFault) (R S : Fault → Type 0) → Refuses fault R → ((f : Fault) → R f → S f) → Refuses fault S
refuses_from (Syntax place) R S h g = absurd h
refuses_from (NoPrefix place) R S h g = g (no_prefix place) h
refuses_from (BadIri place) R S h g = g (bad_iri place) h
refuses_from (Depth place) R S h g = g (too_deep place) h
refuses_from (StoreFull place) R S h g = g (full_store place) h
refuses_from NoMemory R S h g = tt

-- an answer to a move is one to an equal move
pub follows_as : {T : Type 0} (at : ℕ) (r : Result T TokenFault) (c : Config) (st : State) (m n : Move) → n ≡ m → Follows at r c st m → Follows at r c st n
follows_as {T} at r c st m n e h = let P : Move → Type 0 = λ v. Follows at r c st v in subst P (sym e) h

-- a fault of what a move begins with
pub stops_on : {A : Type 0} (at : ℕ) (fault : TokenFault) (r : Result A Fault) (k : A → Move) → Refuses fault (λ f. r ≡ Err f) → Stops at fault (on r k)
stops_on at fault r k h = stops_from at fault (on r k) (λ f. r ≡ Err f) h (λ f e. ap (λ v. on v k) e)

-- What a token names.
pub at_name : (st : State) (F : Option Name → Move) (k : List ℕ → Move) → ((name : Name) → F (Some name) ≡ on (name_of name st) k)
    → (n : Option Name) (iri : List ℕ) → iri_of n st ≡ Ok (Some iri) → F n ≡ k iri
at_name st F k h None iri e = cc
at_name st F k h (Some name) iri e = h name ∙ by (name_of name st) e
  where
    by : (r : Result (List ℕ) Fault) → (r >>= (λ (x : List ℕ). Ok (Some x))) ≡ Ok (Some iri) → on r k ≡ k iri
    by (Ok x) e = let same : x ≡ iri = cc in ap k same
    by (Err f) e = cc

pub at_none : (st : State) (F : Option Name → Move) (n : Option Name) → iri_of n st ≡ Ok None → F n ≡ F None
at_none st F None e = refl
at_none st F (Some name) e = by (name_of name st) e
  where
    by : (r : Result (List ℕ) Fault) → (r >>= (λ (x : List ℕ). Ok (Some x))) ≡ Ok None → F (Some name) ≡ F None
    by (Ok x) e = cc
    by (Err f) e = cc

pub at_fault : (st : State) (F : Option Name → Move) (k : List ℕ → Move) → ((name : Name) → F (Some name) ≡ on (name_of name st) k)
    → (n : Option Name) (f : Fault) → iri_of n st ≡ Err f → F n ≡ fails f
at_fault st F k h None f e = cc
at_fault st F k h (Some name) f e = h name ∙ by (name_of name st) e
  where
    by : (r : Result (List ℕ) Fault) → (r >>= (λ (x : List ℕ). Ok (Some x))) ≡ Err f → on r k ≡ fails f
    by (Ok x) e = cc
    by (Err g) e = let same : g ≡ f = cc in ap fails same

-- An object may start with a name that has an IRI, and with what is no name.
pub started_at : (st : State) (iri : Option (List ℕ)) (n : Option Name) → iri_of n st ≡ Ok iri → started_name n st ≡ Ok st
started_at st iri None e = refl
started_at st iri (Some name) e = by (name_of name st) e
  where
    by : (r : Result (List ℕ) Fault) → (r >>= (λ (x : List ℕ). Ok (Some x))) ≡ Ok iri → (r >>= (λ (x : List ℕ). Ok st)) ≡ Ok st
    by (Ok x) e = refl
    by (Err f) e = cc

pub not_started : (st : State) (f : Fault) (n : Option Name) → iri_of n st ≡ Err f → started_name n st ≡ Err f
not_started st f None e = cc
not_started st f (Some name) e = by (name_of name st) e
  where
    by : (r : Result (List ℕ) Fault) → (r >>= (λ (x : List ℕ). Ok (Some x))) ≡ Err f → (r >>= (λ (x : List ℕ). Ok st)) ≡ Err f
    by (Ok x) e = cc
    by (Err g) e = let same : g ≡ f = cc in ap Err same

-- a fault that `?` hands on
pub residual : {T : Type 0} (at : ℕ) (r : Result T TokenFault) (fault : TokenFault) (c : Config) (st : State) (m : Move)
    → IsErrAnd r (λ made. made ≡ fault) → Stops at fault m → Follows at r c st m
residual at (Ok x) fault c st m h s = absurd h
residual at (Err made) fault c st m h s = let P : TokenFault → Type 0 = λ f. Stops at f m in subst P (sym h) s

-- The same of an answer that gives a value: it is one of an equal meaning, or the fault that `?` hands on.
pub gives_as : {T A : Type 0} (value : T → A) (r : Result T TokenFault) (m n : Result A Fault) → n ≡ m → Gives value r m → Gives value r n
gives_as {T} {A} value r m n e h = let P : Result A Fault → Type 0 = λ v. Gives value r v in subst P (sym e) h

pub gives_fault : {T A : Type 0} (value : T → A) (r : Result T TokenFault) (fault : TokenFault) (m : Result A Fault)
    → IsErrAnd r (λ made. made ≡ fault) → Refuses fault (λ f. m ≡ Err f) → Gives value r m
gives_fault value (Ok x) fault m h s = absurd h
gives_fault value (Err made) fault m h s = let P : TokenFault → Type 0 = λ g. Refuses g (λ f. m ≡ Err f) in subst P (sym h) s

-- a fault of a name
pub names_fault : (at : ℕ) (fault : TokenFault) (kind : TokenKind) (leaf : Leaf) (st : State) → Refuses fault (λ f. named kind leaf st ≡ Err f) → NamesNone at kind leaf st fault
names_fault at (Syntax place) kind leaf st h = absurd h
names_fault at (NoPrefix place) kind leaf st h = h
names_fault at (BadIri place) kind leaf st h = h
names_fault at (Depth place) kind leaf st h = h
names_fault at (StoreFull place) kind leaf st h = h
names_fault at NoMemory kind leaf st h = tt

-- what hands on the fault that `?` hands on
pub names_residual : {T : Type 0} (at : ℕ) (r : Result T TokenFault) (fault : TokenFault) (kind : TokenKind) (leaf : Leaf) (st : State)
    → IsErrAnd r (λ made. made ≡ fault) → NamesNone at kind leaf st fault → IfErr r (NamesNone at kind leaf st)
names_residual at (Ok x) fault kind leaf st h s = absurd h
names_residual at (Err made) fault kind leaf st h s = let P : TokenFault → Type 0 = λ f. NamesNone at kind leaf st f in subst P (sym h) s

pub stops_unnamed : (at : ℕ) (fault : TokenFault) (kind : TokenKind) (leaf : Leaf) (st : State) (m : Move) → NamesNone at kind leaf st fault
    → (named kind leaf st ≡ Ok None → m ≡ stuck) → ((f : Fault) → named kind leaf st ≡ Err f → m ≡ fails f) → Stops at fault m
stops_unnamed at (Syntax place) kind leaf st m h none faulty = (h.0, none h.1)
stops_unnamed at (NoPrefix place) kind leaf st m h none faulty = faulty (no_prefix place) h
stops_unnamed at (BadIri place) kind leaf st m h none faulty = faulty (bad_iri place) h
stops_unnamed at (Depth place) kind leaf st m h none faulty = faulty (too_deep place) h
stops_unnamed at (StoreFull place) kind leaf st m h none faulty = faulty (full_store place) h
stops_unnamed at NoMemory kind leaf st m h none faulty = tt
