-- What changes of the maps do to an environment.
use Rattle.std.proofs.Common.{◌≡◌, ℕ, cond, List, [], Option, None, Some, ap, sym, ◌∙◌}
use Rattle.std.proofs.Math.Path.{fun_ext}
use Rattle.std.specs.Map.{lookup}
use Rattle.std.specs.Str.{bytes_eq}
use Rattle.indexmap.specs.IndexMap.{IndexMap, get}
use Rattle.triple_store.specs.declared.term.Triple.{Triple}
use Rattle.triple_store.specs.declared.term.Term.TheVariants.{Blank}
use Rattle.turtle_document.specs.Meaning.{State, bound, numbered, labelled, labelled_as, read}

-- a map without entries has nothing at any name
pub nothing_bound : {V S : Type 0} (m : IndexMap (List ℕ) V S) → m.entries ≡ [] → get bytes_eq m ≡ (λ name. None)
nothing_bound m e = ap (λ es name. lookup (bytes_eq name) es) e

pub begun : (base : List ℕ) (rows : List Triple) (blanks most : ℕ) (prefixes : List ℕ → Option (List ℕ)) (labels : List ℕ → Option ℕ)
    → prefixes ≡ (λ name. None) → labels ≡ (λ name. None) → blanks ≡ most
    → (let st : State = record { base = base; prefixes = prefixes; labels = labels; blanks = blanks; rows = rows } in st)
    ≡ record { base = base; prefixes = λ name. None; labels = λ name. None; blanks = most; rows = rows }
begun base rows blanks most prefixes labels p l b = λ i. record { base = base; prefixes = p i; labels = l i; blanks = b i; rows = rows }

-- a name that was bound is the one bound, and each other is as before
pub binds : {V : Type 0} (name : List ℕ) (value : V) (old new : List ℕ → Option V)
    → ((q : List ℕ) → new q ≡ cond (bytes_eq name q) (Some value) (old q)) → new ≡ bound name value old
binds name value old new h = fun_ext h

-- a label that stands for a node
pub known : (st : State) (label : List ℕ) (number : ℕ) → st.labels label ≡ Some number → labelled label st ≡ read (Blank number) st
known st label number e = ap (λ o. labelled_as o label st) e

-- a label's first use
pub first_use : (st mid : State) (label : List ℕ) (labels : List ℕ → Option ℕ)
    → st.labels label ≡ None → mid ≡ numbered st
    → ((q : List ℕ) → labels q ≡ cond (bytes_eq label q) (Some st.blanks) (mid.labels q))
    → labelled label st ≡ read (Blank st.blanks) (record mid { labels = labels })
first_use st mid label labels none number h =
    ap (λ o. labelled_as o label st) none
    ∙ sym (ap (λ s. read (Blank st.blanks) (record s { labels = bound label st.blanks s.labels })) number)
    ∙ ap (λ ls. read (Blank st.blanks) (record mid { labels = ls })) (sym (binds label st.blanks mid.labels labels h))

-- the same by the parts of the code
pub first_use_as : (st mid : State) (label made : List ℕ) (number : ℕ) (labels : List ℕ → Option ℕ)
    → st.labels label ≡ None → number ≡ st.blanks → mid ≡ numbered st → made ≡ label
    → ((q : List ℕ) → labels q ≡ cond (bytes_eq made q) (Some number) (mid.labels q))
    → labelled label st ≡ read (Blank number) (record mid { labels = labels })
first_use_as st mid label made number labels none same next copy h =
    first_use st mid label labels none next (λ q. h q ∙ ap (λ l. cond (bytes_eq l q) (Some number) (mid.labels q)) copy ∙ ap (λ n. cond (bytes_eq label q) (Some n) (mid.labels q)) same)
    ∙ ap (λ n. read (Blank n) (record mid { labels = labels })) (sym same)
