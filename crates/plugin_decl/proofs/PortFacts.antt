-- What one pass over a port's rows keeps of them says what the rows say.
use Rattle.std.proofs.Common.{◌≡◌, ℕ, Bool, true, false, cond, List, [], ◌∷◌, ◌++◌, take, map, filter, Option, None, Some, refl, sym, ap, subst, ◌∙◌, append_assoc}
use Rattle.std.specs.Prelude.{◌&&◌, ◌||◌, not, find, if◌then◌else◌, unwrap_or, is_none, is_some, pos}
use Rattle.std.specs.List.{list_any}
use Rattle.std.specs.Option.{option_copied, option_or, option_and_then, option_map_or}
use Rattle.std.proofs.lemmas.List.{map-append}
use Rattle.std.proofs.lemmas.List.Elements.{filter-append}
use Rattle.std.proofs.lemmas.List.Folds.{find-append, list_any-append}
use Rattle.triple_store.specs.Triples.{agrees}
use Rattle.triple_store.specs.declared.term.Term.{Term}
use Rattle.triple_store.specs.declared.term.Triple.{Triple}
use Rattle.vocabulary.specs.declared.word.Word.{Word}
use Rattle.vocabulary.specs.declared.word.Word.TheVariants.{Lv2Index, Lv2Symbol, Lv2Default, Lv2Minimum, Lv2Maximum, RszMinimumSize, Lv2Name}
use Rattle.plugin_decl.specs.declared.breaches.Breaches.{Breaches}
use Rattle.plugin_decl.specs.declared.declaration.PortKind.{PortKind}
use Rattle.plugin_decl.specs.declared.declaration.PortKind.TheVariants.{Audio, Cv, Control, Atom, Unsupported}
use Rattle.plugin_decl.specs.declared.first_two.FirstTwo.{FirstTwo}
use Rattle.plugin_decl.specs.declared.first_two.FirstTwo.TheVariants.{Neither, One, Both}
use Rattle.plugin_decl.specs.declared.port_facts.PortFacts.{PortFacts}
use Rattle.plugin_decl.specs.Naming.{names}
use Rattle.plugin_decl.specs.Objects.{object, objects_of, has, first, only}
use Rattle.plugin_decl.specs.PortFacts.{two_of, told, AreFacts, symbol_by, name_by, kind_by, value_by, first_value_by, asked_by, port_by, is_lone_value_by, has_values_by, is_lone_size_by, lacks_value, breaches_by, breaches_of}
use Rattle.plugin_decl.specs.PortRules.{is_symbol, is_lone, is_above, is_unsupported, lacks_symbol, lacks_name, lacks_direction, has_two_directions, lacks_class, is_lone_value, is_lone_size, has_values, lacks_value_by, has_bad_value}
use Rattle.plugin_decl.specs.Ports.{index_of, symbol_of, kind_of, value_at, first_value, stated_size, asked_size, room_by, port_of}
use Rattle.plugin_decl.specs.Values.{text_in, name_in, natural_in, value_in}
use Rattle.plugin_decl.proofs.Rows.{objects-found}

-- ---- one row

or-false : (a : Bool) → (a || false) ≡ a
or-false true = refl
or-false false = refl

-- no object more
pub same_two : (t : FirstTwo) → take 2 (two_of t ++ []) ≡ two_of t
same_two Neither = refl
same_two (One a) = refl
same_two (Both a b) = refl

told-by : (b : Bool) (row : Triple) (p : Word) → names p row.p ≡ b → told (row ∷ []) p ≡ map object (cond b (row ∷ []) [])
told-by b row p e = ap (λ c. map object (cond c (row ∷ []) [])) e

pub told_there : (row : Triple) (p : Word) → names p row.p ≡ true → told (row ∷ []) p ≡ row.o ∷ []
told_there row p e = told-by true row p e

pub told_other : (row : Triple) (p : Word) → names p row.p ≡ false → told (row ∷ []) p ≡ []
told_other row p e = told-by false row p e

any-by : (b : Bool) (w : Word) (row : Triple) → list_any (names w) (map object (cond b (row ∷ []) [])) ≡ (b && names w row.o)
any-by true w row = or-false (names w row.o)
any-by false w row = refl

-- a row has this predicate and this object
pub any_told : (row : Triple) (p w : Word) → list_any (names w) (told (row ∷ []) p) ≡ (names p row.p && names w row.o)
any_told row p w = any-by (names p row.p) w row

find-by : (b : Bool) (passes : Term → Bool) (row : Triple) → find passes (map object (cond b (row ∷ []) [])) ≡ cond (b && passes row.o) (Some row.o) None
find-by true passes row = refl
find-by false passes row = refl

-- a row has this predicate, and its object passes
pub find_told : (passes : Term → Bool) (row : Triple) (p : Word) → find passes (told (row ∷ []) p) ≡ cond (names p row.p && passes row.o) (Some row.o) None
find_told passes row p = find-by (names p row.p) passes row

-- ---- rows after others

take-more : (xs ys : List Term) → take 2 (take 2 xs ++ ys) ≡ take 2 (xs ++ ys)
take-more [] ys = refl
take-more (a ∷ []) ys = refl
take-more (a ∷ b ∷ xs) ys = refl

pub next-two : (t u : FirstTwo) (xs ys : List Term) → two_of u ≡ take 2 (two_of t ++ ys) → two_of t ≡ take 2 xs → two_of u ≡ take 2 (xs ++ ys)
next-two t u xs ys e h = e ∙ ap (λ l. take 2 (l ++ ys)) h ∙ take-more xs ys

pub next-any : (passes : Term → Bool) (a b : Bool) (xs ys : List Term) → b ≡ (a || list_any passes ys) → a ≡ list_any passes xs → b ≡ list_any passes (xs ++ ys)
next-any passes a b xs ys e h = e ∙ ap (λ v. v || list_any passes ys) h ∙ sym (list_any-append passes xs ys)

pub next-found : (passes : Term → Bool) (a b : Option Term) (xs ys : List Term) → b ≡ option_or a (find passes ys) → a ≡ find passes xs → b ≡ find passes (xs ++ ys)
next-found passes a b xs ys e h = e ∙ ap (λ o. option_or o (find passes ys)) h ∙ sym (find-append passes xs ys)

pub told-append : (xs ys : List Triple) (p : Word) → told (xs ++ ys) p ≡ told xs p ++ told ys p
told-append xs ys p =
    ap (map object) (filter-append (λ (row : Triple). names p row.p) xs ys)
    ∙ map-append object (filter (λ (row : Triple). names p row.p) xs) (filter (λ (row : Triple). names p row.p) ys)

-- the facts are those of the rows so far, and these are left
pub record SoFar (rows left : List Triple) (facts : PortFacts) : Type 0 where
  pub seen : List Triple
  pub split : seen ++ left ≡ rows
  pub facts_of_seen : AreFacts (told seen) facts

pub seen-none : (rows : List Triple) (facts : PortFacts) → AreFacts (λ predicate. []) facts → SoFar rows rows facts
seen-none rows facts h = record { seen = []; split = refl; facts_of_seen = h }

pub seen-more : (rows left : List Triple) (row : Triple) (facts more : PortFacts) → SoFar rows (row ∷ left) facts
    → ((objects : Word → List Term) → AreFacts objects facts → AreFacts (λ predicate. objects predicate ++ told (row ∷ []) predicate) more)
    → SoFar rows left more
seen-more rows left row facts more s step = record {
  seen = s.seen ++ row ∷ [];
  split = append_assoc s.seen (row ∷ []) left ∙ s.split;
  facts_of_seen = subst (λ objects. AreFacts objects more) (λ i predicate. sym (told-append s.seen (row ∷ []) predicate) i) (step (told s.seen) s.facts_of_seen);
}

append-none : (xs : List Triple) → xs ++ [] ≡ xs
append-none [] = refl
append-none (x ∷ xs) = ap (λ l. x ∷ l) (append-none xs)

pub seen-all : (rows left : List Triple) (facts : PortFacts) → left ≡ [] → SoFar rows left facts → AreFacts (told rows) facts
seen-all rows left facts e s =
    subst (λ seen. AreFacts (told seen) facts) (sym (append-none s.seen) ∙ ap (λ l. s.seen ++ l) (sym e) ∙ s.split) s.facts_of_seen

-- the rows of a subject tell its objects
pub facts-of-port : (rows found : List Triple) (port : Term) (facts : PortFacts) → found ≡ filter (agrees (Some port) None None) rows
    → AreFacts (told found) facts → AreFacts (objects_of rows port) facts
facts-of-port rows found port facts e h = subst (λ objects. AreFacts objects facts) (λ i predicate. objects-found rows found port predicate e i) h

-- ---- what the first two objects tell

only-two : (xs : List Term) → only (take 2 xs) ≡ only xs
only-two [] = refl
only-two (a ∷ []) = refl
only-two (a ∷ b ∷ xs) = refl

only-of : (t : FirstTwo) (xs : List Term) → two_of t ≡ take 2 xs → only (two_of t) ≡ only xs
only-of t xs e = ap only e ∙ only-two xs

first-two : (xs : List Term) → first (take 2 xs) ≡ first xs
first-two [] = refl
first-two (a ∷ xs) = refl

first-of : (t : FirstTwo) (xs : List Term) → two_of t ≡ take 2 xs → first (two_of t) ≡ first xs
first-of t xs e = ap first e ∙ first-two xs

lone-two : (passes : Term → Bool) (xs : List Term) → is_lone passes (take 2 xs) ≡ is_lone passes xs
lone-two passes [] = refl
lone-two passes (a ∷ []) = refl
lone-two passes (a ∷ b ∷ xs) = refl

lone-of : (passes : Term → Bool) (t : FirstTwo) (xs : List Term) → two_of t ≡ take 2 xs → is_lone passes (two_of t) ≡ is_lone passes xs
lone-of passes t xs e = ap (is_lone passes) e ∙ lone-two passes xs

-- ---- what the facts say

index-told : (rows : List Triple) (port : Term) (f : PortFacts) → AreFacts (objects_of rows port) f → option_and_then (natural_in 255) (only (two_of f.index)) ≡ index_of rows port
unfolding index_of
index-told rows port f h = ap (option_and_then (natural_in 255)) (only-of f.index (objects_of rows port Lv2Index) h.index)

symbol-told : (rows : List Triple) (port : Term) (f : PortFacts) → AreFacts (objects_of rows port) f → symbol_by f ≡ symbol_of rows port
unfolding symbol_of
symbol-told rows port f h = ap (option_and_then text_in) (only-of f.symbol (objects_of rows port Lv2Symbol) h.symbol)

name-told : (rows : List Triple) (port : Term) (f : PortFacts) → AreFacts (objects_of rows port) f → name_by f.name ≡ name_in (objects_of rows port Lv2Name)
unfolding name_in
name-told rows port f h = λ i. option_and_then text_in (option_or (h.untagged i) (h.literal i))

kind-told : (rows : List Triple) (port : Term) (f : PortFacts) → AreFacts (objects_of rows port) f → kind_by f.classes ≡ kind_of rows port
unfolding kind_of has
kind-told rows port f h = λ i. if h.audio i then Audio else (if h.cv i then Cv else (if h.control i then Control else (if h.atom i then Atom else Unsupported)))

value-told : (rows : List Triple) (port : Term) (t : FirstTwo) (bound : Word) → two_of t ≡ take 2 (objects_of rows port bound) → value_by t ≡ value_at rows port bound
unfolding value_at
value-told rows port t bound e = ap (option_and_then value_in) (first-of t (objects_of rows port bound) e)

first_value-told : (rows : List Triple) (port : Term) (f : PortFacts) → AreFacts (objects_of rows port) f → first_value_by f.bounds ≡ first_value rows port
unfolding first_value
first_value-told rows port f h =
    let least = value-told rows port f.bounds.minimum Lv2Minimum h.minimum in
    let stated = value-told rows port f.bounds.default Lv2Default h.default in
    λ i. unwrap_or (stated i) (unwrap_or (least i) (record { 0 = pos 0 }))

asked-told : (rows : List Triple) (port : Term) (f : PortFacts) → AreFacts (objects_of rows port) f → asked_by f.size ≡ asked_size rows port
unfolding stated_size
asked-told rows port f h = ap (λ o. unwrap_or (option_and_then (natural_in 1048576) o) 0) (first-of f.size (objects_of rows port RszMinimumSize) h.size)

pub port-told : (rows : List Triple) (port : Term) (f : PortFacts) → AreFacts (objects_of rows port) f → port_by f ≡ port_of rows port
unfolding port_by port_of has
port-told rows port f h =
    let index = index-told rows port f h in
    let symbol = symbol-told rows port f h in
    let name = name-told rows port f h in
    let kind = kind-told rows port f h in
    let value = first_value-told rows port f h in
    let least = value-told rows port f.bounds.minimum Lv2Minimum h.minimum in
    let most = value-told rows port f.bounds.maximum Lv2Maximum h.maximum in
    let asked = asked-told rows port f h in
    λ i. record {
      index = unwrap_or (index i) 0;
      symbol = unwrap_or (symbol i) [];
      name = unwrap_or (name i) [];
      input = h.input i;
      kind = kind i;
      optional = h.optional i;
      first = value i;
      least = least i;
      most = most i;
      room = room_by (kind i) (asked i);
      control = h.designated i;
      patch = h.speaking i;
    }

-- ---- which rules are broken

lone_value-told : (rows : List Triple) (port : Term) (t : FirstTwo) (bound : Word) → two_of t ≡ take 2 (objects_of rows port bound) → is_lone_value_by t ≡ is_lone_value rows port bound
unfolding is_lone_value
lone_value-told rows port t bound e = lone-of (λ term. is_some (value_in term)) t (objects_of rows port bound) e

lone_size-told : (rows : List Triple) (port : Term) (f : PortFacts) → AreFacts (objects_of rows port) f → is_lone_size_by f.size ≡ is_lone_size rows port
unfolding is_lone_size
lone_size-told rows port f h = lone-of (λ term. is_some (natural_in 1048576 term)) f.size (objects_of rows port RszMinimumSize) h.size

values-told : (rows : List Triple) (port : Term) (f : PortFacts) → AreFacts (objects_of rows port) f → has_values_by f.bounds ≡ has_values rows port
unfolding has_values
values-told rows port f h =
    let lone_default = lone_value-told rows port f.bounds.default Lv2Default h.default in
    let lone_minimum = lone_value-told rows port f.bounds.minimum Lv2Minimum h.minimum in
    let lone_maximum = lone_value-told rows port f.bounds.maximum Lv2Maximum h.maximum in
    let least = value-told rows port f.bounds.minimum Lv2Minimum h.minimum in
    let most = value-told rows port f.bounds.maximum Lv2Maximum h.maximum in
    λ i. lone_default i && (lone_minimum i && (lone_maximum i && not (is_above (least i) (most i))))

lacks-told : (kind : PortKind) (rows : List Triple) (port : Term) (f : PortFacts) → AreFacts (objects_of rows port) f → lacks_value kind f ≡ lacks_value_by kind rows port
lacks-told Control rows port f h = ap not (values-told rows port f h)
lacks-told Atom rows port f h = ap not (lone_size-told rows port f h)
lacks-told Audio rows port f h = refl
lacks-told Cv rows port f h = refl
lacks-told Unsupported rows port f h = refl

value-lacked : (rows : List Triple) (port : Term) (f : PortFacts) → AreFacts (objects_of rows port) f → lacks_value (kind_by f.classes) f ≡ has_bad_value rows port
unfolding has_bad_value
value-lacked rows port f h = lacks-told (kind_by f.classes) rows port f h ∙ ap (λ kind. lacks_value_by kind rows port) (kind-told rows port f h)

pub breaches-told : (rows : List Triple) (port : Term) (f : PortFacts) → AreFacts (objects_of rows port) f → breaches_by f ≡ breaches_of rows port
unfolding breaches_by lacks_symbol lacks_name lacks_direction has_two_directions lacks_class has
breaches-told rows port f h =
    let symbol = symbol-told rows port f h in
    let name = name-told rows port f h in
    let kind = kind-told rows port f h in
    let value = value-lacked rows port f h in
    λ i. record {
      symbol = not (option_map_or is_symbol (symbol i) false);
      name = is_none (name i);
      direction = not (h.input i || h.output i);
      one_direction = h.input i && h.output i;
      class = is_unsupported (kind i) && not (h.optional i);
      value = value i;
    }
