-- Laws of moves in a general form: trees of any sort, with their tokens and with what they leave, and what a token does to them.
use Rattle.std.proofs.Common.{◌≡◌, true, false, List, [], ◌∷◌, Result, Ok, Err, refl, sym, ap, ◌∙◌}
use Rattle.turtle_grammar.specs.declared.token.TokenKind.{TokenKind}
use Rattle.turtle_grammar.specs.declared.token.TokenKind.TheVariants as kinds
use Rattle.turtle_grammar.specs.Tree.{Lexeme, Leaf, lexeme}
use Rattle.turtle_document.specs.Meaning.{Fault, State, ◌>>=◌}
use Rattle.turtle_document.specs.Machine.{Config, Move, on}
use Rattle.turtle_document.specs.Machine.Move.{to, stuck, fails}
use Rattle.turtle_document.proofs.Completion.{Partial, tokens_of, completed, IsRight}

-- trees, their tokens and what they leave
pub record Trees : Type 1 where
  pub carrier : Type 0
  pub tokens : carrier → List Lexeme
  pub value : carrier → Result State Fault

abbrev pub trees : (X : Type 0) → (X → List Lexeme) → (X → Result State Fault) → Trees
trees X tokens value = record { carrier = X; tokens = tokens; value = value }

-- the partial trees of a config
abbrev pub partial : Config → State → Trees
partial c st = trees (Partial c) (tokens_of c) (λ x. completed c x st)

-- a token and such trees
abbrev pub behind : Lexeme → Trees → Trees
behind t F = trees F.carrier (λ x. t ∷ F.tokens x) F.value

-- a token leads from these trees on to a config
pub record Leads (F : Trees) (t : Lexeme) (d : Config) (after : State) : Type 0 where
  pub build : (y : Partial d) → (x : F.carrier) × (F.tokens x ≡ t ∷ tokens_of d y) × (F.value x ≡ completed d y after)
  pub split : (x : F.carrier) (rest : List Lexeme) → F.tokens x ≡ t ∷ rest
      → (y : Partial d) × (rest ≡ tokens_of d y) × (F.value x ≡ completed d y after)

-- some tree begins with the token
abbrev pub Has : Trees → Lexeme → Type 0
Has F t = (x : F.carrier) × (rest : List Lexeme) × (F.tokens x ≡ t ∷ rest)

-- some tree begins with the token, and each that does has this fault
pub record Fails (F : Trees) (t : Lexeme) (f : Fault) : Type 0 where
  pub there : Has F t
  pub each : (x : F.carrier) (rest : List Lexeme) → F.tokens x ≡ t ∷ rest → F.value x ≡ Err f

abbrev pub HasNone : Trees → Lexeme → Type 0
HasNone F t = (x : F.carrier) (rest : List Lexeme) → F.tokens x ≡ t ∷ rest → ⊥

-- a move is right for these trees
abbrev pub IsRightFor : Trees → Lexeme → Move → Type 0
IsRightFor F t (to d after) = Leads F t d after
IsRightFor F t stuck = HasNone F t
IsRightFor F t (fails f) = Fails F t f

-- those trees that begin with the token are the same, and leave the same
pub record Same (F G : Trees) (t : Lexeme) : Type 0 where
  pub build : (y : G.carrier) (rest : List Lexeme) → G.tokens y ≡ t ∷ rest → (x : F.carrier) × (F.tokens x ≡ t ∷ rest) × (F.value x ≡ G.value y)
  pub split : (x : F.carrier) (rest : List Lexeme) → F.tokens x ≡ t ∷ rest → (y : G.carrier) × (G.tokens y ≡ t ∷ rest) × (F.value x ≡ G.value y)

-- the trees that begin with the token are a token and those
pub record Takes (F : Trees) (t : Lexeme) (G : Trees) : Type 0 where
  pub build : (y : G.carrier) → (x : F.carrier) × (F.tokens x ≡ t ∷ G.tokens y) × (F.value x ≡ G.value y)
  pub split : (x : F.carrier) (rest : List Lexeme) → F.tokens x ≡ t ∷ rest → (y : G.carrier) × (rest ≡ G.tokens y) × (F.value x ≡ G.value y)

abbrev rest_of : List Lexeme → List Lexeme
rest_of [] = []
rest_of (t ∷ ts) = ts

abbrev first_kind : List Lexeme → TokenKind
first_kind [] = kinds.Dot
first_kind (t ∷ ts) = t.kind

abbrev first_leaf : Leaf → List Lexeme → Leaf
first_leaf leaf [] = leaf
first_leaf leaf (t ∷ ts) = record { at = t.at; text = t.text }

pub same_rest : (t u : Lexeme) (ts us : List Lexeme) → t ∷ ts ≡ u ∷ us → ts ≡ us
same_rest t u ts us e = ap rest_of e

pub same_kind : (k l : TokenKind) (a b : Leaf) (ts us : List Lexeme) → lexeme k a ∷ ts ≡ lexeme l b ∷ us → k ≡ l
same_kind k l a b ts us e = ap first_kind e

pub same_leaf : (k l : TokenKind) (a b : Leaf) (ts us : List Lexeme) → lexeme k a ∷ ts ≡ lexeme l b ∷ us → a ≡ b
same_leaf k l a b ts us e = ap (first_leaf a) e

pub no : false ≡ true → ⊥
no e = (cc)

-- from one sort of trees to another
pub same : (F G : Trees) (t : Lexeme) (m : Move) → Same F G t → IsRightFor G t m → IsRightFor F t m
same F G t (to d after) s h = record {
  build = λ y.
      let g = h.build y in
      let f = s.build g.0 (tokens_of d y) g.1 in
      (f.0, f.1, f.2 ∙ g.2);
  split = λ x rest e.
      let f = s.split x rest e in
      let g = h.split f.0 rest f.1 in
      (g.0, g.1, f.2 ∙ g.2);
}
same F G t stuck s h = λ x rest e. let f = s.split x rest e in h f.0 rest f.1
same F G t (fails fault) s h = record {
  there =
      let g = h.there in
      let f = s.build g.0 g.1 g.2 in
      (f.0, g.1, f.1);
  each = λ x rest e.
      let f = s.split x rest e in
      f.2 ∙ h.each f.0 rest f.1;
}

taken : (F : Trees) (t : Lexeme) (G : Trees) → Takes F t G → Same F (behind t G) t
taken F t G s = record {
  build = λ y rest e.
      let f = s.build y in
      (f.0, f.1 ∙ e, f.2);
  split = λ x rest e.
      let f = s.split x rest e in
      (f.0, ap (λ (ts : List Lexeme). t ∷ ts) (sym f.1), f.2);
}

pub takes : (F : Trees) (t : Lexeme) (G : Trees) (m : Move) → Takes F t G → IsRightFor (behind t G) t m → IsRightFor F t m
takes F t G m s h = same F (behind t G) t m (taken F t G s) h

-- the trees after the token are a config's
pub arrives : (t : Lexeme) (d : Config) (after : State) → IsRightFor (behind t (partial d after)) t (to d after)
arrives t d after = record {
  build = λ y. (y, refl, refl);
  split = λ x rest e. (x, sym (same_rest t t (tokens_of d x) rest e), refl);
}

pub moves : (F : Trees) (t : Lexeme) (d : Config) (after : State) → Takes F t (partial d after) → IsRightFor F t (to d after)
moves F t d after s = takes F t (partial d after) (to d after) s (arrives t d after)

-- trees whose value begins with something that may fail
pub tried : {A : Type 0} (r : Result A Fault) (f : A → Move) (X : Type 0) (tokens : X → List Lexeme) (value : A → X → Result State Fault) (t : Lexeme)
    → ((x : X) × (rest : List Lexeme) × (tokens x ≡ t ∷ rest)) → ((a : A) → IsRightFor (trees X tokens (value a)) t (f a))
    → IsRightFor (trees X tokens (λ x. r >>= (λ a. value a x))) t (on r f)
tried (Ok a) f X tokens value t there h = h a
tried (Err fault) f X tokens value t there h = record { there = there; each = λ x rest e. refl }

-- the same, where it is right for a config
pub right_for : (c : Config) (t : Lexeme) (st : State) (m : Move) → IsRightFor (partial c st) t m → IsRight c t st m
right_for c t st (to d after) h = record { build = h.build; split = h.split }
right_for c t st stuck h = h
right_for c t st (fails fault) h = record { there = h.there; each = h.each }

pub bind_assoc : {A B C : Type 0} (r : Result A Fault) (f : A → Result B Fault) (g : B → Result C Fault)
    → r >>= f >>= g ≡ r >>= (λ a. f a >>= g)
bind_assoc (Ok a) f g = refl
bind_assoc (Err fault) f g = refl

pub bind_same : {A B : Type 0} (r : Result A Fault) (f g : A → Result B Fault) → ((a : A) → f a ≡ g a) → r >>= f ≡ r >>= g
bind_same (Ok a) f g h = h a
bind_same (Err fault) f g h = refl
