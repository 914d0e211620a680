-- A state file's triples keep all rules, and say the states that were written.
use Rattle.std.proofs.Common.{◌≡◌, ℕ, suc, ◌+◌, ◌^◌, ◌<◌, nat_le, Bool, true, false, not, cond, ◌&&◌, List, [], ◌∷◌, ◌++◌, length, map, filter, Option, None, Some, is_some, unwrap_or, IsTrue, refl, sym, ap, ◌∙◌, subst, arith}
use Rattle.std.proofs.lemmas.Bool.{and_from}
use Rattle.std.specs.Prelude.{option_and_then}
use Rattle.std.proofs.lemmas.List.{map-append}
use Rattle.std.proofs.lemmas.List.Elements.{filter-append}
use Rattle.std.specs.List.{AllByRecursion, list_all}
use Rattle.state_file.specs.Objects.{text_in, iri_in}
use Rattle.state_file.specs.Reading.{stored, saved_of, saves_of}
use Rattle.state_file.specs.Rules.{is_property, each_once, are_properties, is_shaped, has_flags, has_bytes, size_of, are_few, has_few, first_broken, uris_of, uris_for, uris_in}
use Rattle.state_file.specs.States.{is_saved, states_in, name_in, uri_in, node_in, about, properties_in, flags_in, bytes_in}
use Rattle.state_file.specs.declared.fault.StateFault.{StateFault}
use Rattle.state_file.specs.declared.objects.Kind.TheVariants.{OneIri, OneLiteral, OneNode}
use Rattle.state_file.specs.declared.saved.Saved.{Saved}
use Rattle.state_store.specs.declared.prop.Prop.{Prop}
use Rattle.state_store.specs.declared.status.TheConstants.{MOST_PROPERTIES, MOST_BYTES}
use Rattle.triple_store.specs.declared.term.Term.{Term}
use Rattle.triple_store.specs.declared.term.Term.TheVariants.{Iri, Blank}
use Rattle.triple_store.specs.declared.term.Triple.{Triple}
use Rattle.urid_map.specs.Numbers.{AreNumbered, holds, with_uris}
use Rattle.vocabulary.specs.Words.{iri_of}
use Rattle.vocabulary.specs.declared.word.Word.TheVariants.{StateState, FxName, FxPlugin}
use Rattle.state_round.specs.RoundTrip.{IsWritable, IsSaved, AreSaved, SaysAgain}
use Rattle.state_round.proofs.Words.{in_file}
use Rattle.state_round.proofs.Values.{subject_iri}
use Rattle.state_round.proofs.Order.{rise_from, all_in_file, length_in_file, all_joined}
use Rattle.state_round.proofs.Stored.{kept_in_file, bytes_in_file, once_in_file}
use Rattle.state_round.proofs.Rows.{properties_rows, blanks_after, head_rows, node_row, saved_rows, subject_of, states_rows, own}
use Rattle.state_round.proofs.Ready.{IsListed, listed_rows}
use Rattle.state_round.proofs.Said.{few}
use Rattle.state_round.proofs.Lines.{key_rows, IsSaid, AreSaid, all_said}
use Rattle.state_round.proofs.Back.{one_found, AreRead, are_read, properties_are, flags_are_read, bytes_are_read, size_is, length_is, once_is, stored_is, AreHeld, uris_held, with_held}

-- ---- one state

abbrev state_rows : Term → ℕ → Saved → List Triple
state_rows subject b saved = head_rows subject saved ++ node_row subject b ∷ []

name_found : (rows : List Triple) (subject : Term) (b : ℕ) (saved : Saved) → own subject rows ≡ state_rows subject b saved → name_in rows subject ≡ Some saved.name
unfolding name_in iri_of
name_found rows subject b saved e = ap (option_and_then text_in) (one_found rows (state_rows subject b saved) subject FxName OneLiteral e)

uri_found : (rows : List Triple) (subject : Term) (b : ℕ) (saved : Saved) → own subject rows ≡ state_rows subject b saved → uri_in rows subject ≡ Some saved.uri
unfolding uri_in iri_of
uri_found rows subject b saved e = ap (option_and_then iri_in) (one_found rows (state_rows subject b saved) subject FxPlugin OneIri e)

node_found : (rows : List Triple) (subject : Term) (b : ℕ) (saved : Saved) → own subject rows ≡ state_rows subject b saved → node_in rows subject ≡ Some (Blank b)
unfolding node_in iri_of
node_found rows subject b saved e = one_found rows (state_rows subject b saved) subject StateState OneNode e

properties_found : (rows : List Triple) (subject : Term) (b : ℕ) (urids : List (List ℕ)) (saved : Saved) → own subject rows ≡ state_rows subject b saved
    → own (Blank b) rows ≡ key_rows b (suc b) urids (in_file urids saved.props) → properties_in rows subject ≡ key_rows b (suc b) urids (in_file urids saved.props)
unfolding properties_in
properties_found rows subject b urids saved head node = ap (about rows) (node_found rows subject b saved head) ∙ node

-- what is read of a state
record IsGood (rows : List Triple) (urids : List (List ℕ)) (subject : Term) (saved : Saved) : Type 0 where
  shaped : is_shaped rows subject ≡ true
  flags : has_flags rows subject ≡ true
  bytes : has_bytes rows subject ≡ true
  few : has_few rows subject ≡ true
  same : saved_of rows urids subject ≡ saved
  held : AreHeld urids (uris_of rows (properties_in rows subject))

shaped_is : (rows : List Triple) (base : List ℕ) (urids : List (List ℕ)) (number b : ℕ) (saved : Saved) → AreNumbered urids → IsSaved urids saved → IsSaid rows base urids number b saved
    → AreRead rows urids b (suc b) (in_file urids saved.props) → is_shaped rows (subject_of base number) ≡ true
unfolding is_shaped
shaped_is rows base urids number b saved numbered is said read =
    and_from ((is_some (name_in rows (subject_of base number)) && is_some (uri_in rows (subject_of base number))) && is_some (node_in rows (subject_of base number))) (are_properties rows (properties_in rows (subject_of base number)))
    (and_from (is_some (name_in rows (subject_of base number)) && is_some (uri_in rows (subject_of base number))) (is_some (node_in rows (subject_of base number)))
    (and_from (is_some (name_in rows (subject_of base number))) (is_some (uri_in rows (subject_of base number))) (ap is_some (name_found rows (subject_of base number) b saved said.head)) (ap is_some (uri_found rows (subject_of base number) b saved said.head)))
    (ap is_some (node_found rows (subject_of base number) b saved said.head)))
    (ap (are_properties rows) (properties_found rows (subject_of base number) b urids saved said.head said.node)
    ∙ and_from (list_all (is_property rows) (key_rows b (suc b) urids (in_file urids saved.props))) (each_once (map (λ (property : Triple). property.p) (key_rows b (suc b) urids (in_file urids saved.props))))
    (properties_are rows urids b (suc b) (in_file urids saved.props) read)
    (once_is urids b (suc b) (in_file urids saved.props) numbered (all_in_file (IsWritable urids) urids saved.props is.rows) (once_in_file urids saved.props (rise_from saved.props is.storable.rising))))

flags_good : (rows : List Triple) (base : List ℕ) (urids : List (List ℕ)) (number b : ℕ) (saved : Saved) → IsSaid rows base urids number b saved → AreRead rows urids b (suc b) (in_file urids saved.props) → has_flags rows (subject_of base number) ≡ true
unfolding has_flags
flags_good rows base urids number b saved said read =
    ap (list_all (λ property. is_some (flags_in rows property))) (properties_found rows (subject_of base number) b urids saved said.head said.node) ∙ flags_are_read rows urids b (suc b) (in_file urids saved.props) read

bytes_good : (rows : List Triple) (base : List ℕ) (urids : List (List ℕ)) (number b : ℕ) (saved : Saved) → IsSaid rows base urids number b saved → AreRead rows urids b (suc b) (in_file urids saved.props) → has_bytes rows (subject_of base number) ≡ true
unfolding has_bytes
bytes_good rows base urids number b saved said read =
    ap (list_all (λ property. is_some (bytes_in rows property))) (properties_found rows (subject_of base number) b urids saved said.head said.node) ∙ bytes_are_read rows urids b (suc b) (in_file urids saved.props) read

few_good : (rows : List Triple) (base : List ℕ) (urids : List (List ℕ)) (number b : ℕ) (saved : Saved) → IsSaved urids saved → IsSaid rows base urids number b saved → AreRead rows urids b (suc b) (in_file urids saved.props)
    → has_few rows (subject_of base number) ≡ true
unfolding has_few
few_good rows base urids number b saved is said read =
    ap (are_few rows) (properties_found rows (subject_of base number) b urids saved said.head said.node)
    ∙ ap (λ n. nat_le n MOST_PROPERTIES && nat_le (size_of rows (key_rows b (suc b) urids (in_file urids saved.props))) MOST_BYTES) (length_is urids b (suc b) (in_file urids saved.props) ∙ length_in_file urids saved.props)
    ∙ ap (λ n. nat_le (length saved.props) MOST_PROPERTIES && nat_le n MOST_BYTES) (size_is rows urids b (suc b) (in_file urids saved.props) read ∙ bytes_in_file urids saved.props)
    ∙ is.storable.room

same_good : (rows : List Triple) (base : List ℕ) (urids : List (List ℕ)) (number b : ℕ) (saved : Saved) → AreNumbered urids → IsSaved urids saved → IsSaid rows base urids number b saved → AreRead rows urids b (suc b) (in_file urids saved.props)
    → saved_of rows urids (subject_of base number) ≡ saved
unfolding saved_of
same_good rows base urids number b saved numbered is said read = λ i. record { name = name i; uri = uri i; props = props i }
  where
    name : unwrap_or (name_in rows (subject_of base number)) [] ≡ saved.name
    name = ap (λ o. unwrap_or o []) (name_found rows (subject_of base number) b saved said.head)

    uri : unwrap_or (uri_in rows (subject_of base number)) [] ≡ saved.uri
    uri = ap (λ o. unwrap_or o []) (uri_found rows (subject_of base number) b saved said.head)

    props : stored rows urids [] (properties_in rows (subject_of base number)) ≡ saved.props
    props =
        ap (stored rows urids []) (properties_found rows (subject_of base number) b urids saved said.head said.node)
        ∙ stored_is rows urids b (suc b) [] (in_file urids saved.props) numbered (all_in_file (IsWritable urids) urids saved.props is.rows) read
        ∙ kept_in_file urids saved.props (rise_from saved.props is.storable.rising)

one_good : (rows : List Triple) (base : List ℕ) (urids : List (List ℕ)) (number b : ℕ) (saved : Saved) → AreNumbered urids → IsSaved urids saved → IsSaid rows base urids number b saved → IsGood rows urids (subject_of base number) saved
one_good rows base urids number b saved numbered is said =
    let read : AreRead rows urids b (suc b) (in_file urids saved.props) = are_read rows urids b (suc b) (in_file urids saved.props) said.values (all_in_file (IsListed urids) urids saved.props (listed_rows urids saved is)) in
    record {
      shaped = shaped_is rows base urids number b saved numbered is said read;
      flags = flags_good rows base urids number b saved said read;
      bytes = bytes_good rows base urids number b saved said read;
      few = few_good rows base urids number b saved is said read;
      same = same_good rows base urids number b saved numbered is said read;
      held = subst (λ (properties : List Triple). AreHeld urids (uris_of rows properties)) (sym (properties_found rows (subject_of base number) b urids saved said.head said.node))
          (uris_held rows urids b (suc b) (in_file urids saved.props) numbered (all_in_file (IsWritable urids) urids saved.props is.rows) read);
    }

-- ---- all states

abbrev subjects : List ℕ → ℕ → List Saved → List Term
subjects base number [] = []
subjects base number (saved ∷ saves) = subject_of base number ∷ subjects base (number + 1) saves

-- no triple of a property says a class
no_class : (a b : Bool) (x y : List Triple) → b ≡ false → cond (a && b) x y ≡ y
no_class true b x y e = ap (λ v. cond v x y) e
no_class false b x y e = refl

classes_of : (node b : ℕ) (urids : List (List ℕ)) (rest : List (ℕ × Prop)) → filter is_saved (properties_rows node b urids rest) ≡ []
unfolding iri_of
classes_of node b urids [] = refl
classes_of node b urids (row ∷ rest) = no_class _ false _ _ refl ∙ classes_of node (suc b) urids rest

block_class : (iri : List ℕ) (b : ℕ) (urids : List (List ℕ)) (saved : Saved) → map (λ (row : Triple). row.s) (filter is_saved (saved_rows (Iri iri) b urids saved)) ≡ Iri iri ∷ []
unfolding iri_of
block_class iri b urids saved =
    ap (λ l. Iri iri ∷ map (λ (row : Triple). row.s) l) (filter-append is_saved (properties_rows b (suc b) urids (in_file urids saved.props)) (node_row (Iri iri) b ∷ []) ∙ ap (λ l. l ++ filter is_saved (node_row (Iri iri) b ∷ [])) (classes_of b (suc b) urids (in_file urids saved.props)))

states_found : (base : List ℕ) (number b : ℕ) (urids : List (List ℕ)) (saves : List Saved) → states_in (states_rows base number b urids saves) ≡ subjects base number saves
states_found base number b urids [] = refl
states_found base number b urids (saved ∷ saves) =
    ap (map (λ (row : Triple). row.s)) (filter-append is_saved (saved_rows (subject_of base number) b urids saved) (states_rows base (number + 1) (blanks_after (suc b) (in_file urids saved.props)) urids saves))
    ∙ map-append (λ (row : Triple). row.s) (filter is_saved (saved_rows (subject_of base number) b urids saved)) (filter is_saved (states_rows base (number + 1) (blanks_after (suc b) (in_file urids saved.props)) urids saves))
    ∙ ap (λ l. l ++ states_in (states_rows base (number + 1) (blanks_after (suc b) (in_file urids saved.props)) urids saves)) (block_class (subject_iri base number) b urids saved)
    ∙ ap (λ l. subject_of base number ∷ l) (states_found base (number + 1) (blanks_after (suc b) (in_file urids saved.props)) urids saves)

abbrev AreGood : List Triple → List (List ℕ) → List ℕ → ℕ → List Saved → Type 0
AreGood rows urids base number [] = Unit {0}
AreGood rows urids base number (saved ∷ saves) = IsGood rows urids (subject_of base number) saved × AreGood rows urids base (number + 1) saves

all_good : (rows : List Triple) (base : List ℕ) (urids : List (List ℕ)) (number b : ℕ) (saves : List Saved) → AreNumbered urids → AllByRecursion (IsSaved urids) saves → AreSaid rows base urids number b saves → AreGood rows urids base number saves
all_good rows base urids number b [] numbered all said = tt
all_good rows base urids number b (saved ∷ saves) numbered all said =
    (one_good rows base urids number b saved numbered all.0 said.0, all_good rows base urids (number + 1) (blanks_after (suc b) (in_file urids saved.props)) saves numbered all.1 said.1)

each_passes : (rows : List Triple) (urids : List (List ℕ)) (base : List ℕ) (test : Term → Bool) → ((subject : Term) (saved : Saved) → IsGood rows urids subject saved → test subject ≡ true) → (number : ℕ) (saves : List Saved)
    → AreGood rows urids base number saves → list_all test (subjects base number saves) ≡ true
each_passes rows urids base test passes number [] good = refl
each_passes rows urids base test passes number (saved ∷ saves) good =
    and_from (test (subject_of base number)) (list_all test (subjects base (number + 1) saves)) (passes (subject_of base number) saved good.0) (each_passes rows urids base test passes (number + 1) saves good.1)

same_states : (rows : List Triple) (urids : List (List ℕ)) (base : List ℕ) (number : ℕ) (saves : List Saved) → AreGood rows urids base number saves → map (saved_of rows urids) (subjects base number saves) ≡ saves
same_states rows urids base number [] good = refl
same_states rows urids base number (saved ∷ saves) good =
    ap (λ s. s ∷ map (saved_of rows urids) (subjects base (number + 1) saves)) good.0.same ∙ ap (λ l. saved ∷ l) (same_states rows urids base (number + 1) saves good.1)

held_states : (rows : List Triple) (urids : List (List ℕ)) (base : List ℕ) (number : ℕ) (saves : List Saved) → AreGood rows urids base number saves → AreHeld urids (uris_for rows (subjects base number saves))
held_states rows urids base number [] good = tt
held_states rows urids base number (saved ∷ saves) good =
    all_joined (λ (uri : List ℕ). IsTrue (holds urids uri)) (uris_of rows (properties_in rows (subject_of base number))) (uris_for rows (subjects base (number + 1) saves)) good.0.held (held_states rows urids base (number + 1) saves good.1)

none_of_four : (a b c d : Bool) (w x y z : Option StateFault) → a ≡ true → b ≡ true → c ≡ true → d ≡ true → cond (not a) w (cond (not b) x (cond (not c) y (cond (not d) z None))) ≡ None
none_of_four true true true true w x y z p q r s = refl
none_of_four true true true false w x y z p q r s = cc
none_of_four true true false d w x y z p q r s = cc
none_of_four true false c d w x y z p q r s = cc
none_of_four false b c d w x y z p q r s = cc

kept_rules : (rows : List Triple) (urids : List (List ℕ)) (base : List ℕ) (saves : List Saved) → states_in rows ≡ subjects base 0 saves → AreGood rows urids base 0 saves → first_broken rows ≡ None
unfolding first_broken
kept_rules rows urids base saves found good =
    none_of_four (list_all (is_shaped rows) (states_in rows)) (list_all (has_flags rows) (states_in rows)) (list_all (has_bytes rows) (states_in rows)) (list_all (has_few rows) (states_in rows)) _ _ _ _
    (ap (list_all (is_shaped rows)) found ∙ each_passes rows urids base (is_shaped rows) (λ subject saved good. good.shaped) 0 saves good)
    (ap (list_all (has_flags rows)) found ∙ each_passes rows urids base (has_flags rows) (λ subject saved good. good.flags) 0 saves good)
    (ap (list_all (has_bytes rows)) found ∙ each_passes rows urids base (has_bytes rows) (λ subject saved good. good.bytes) 0 saves good)
    (ap (list_all (has_few rows)) found ∙ each_passes rows urids base (has_few rows) (λ subject saved good. good.few) 0 saves good)

no_new : (rows : List Triple) (urids : List (List ℕ)) (base : List ℕ) (saves : List Saved) → states_in rows ≡ subjects base 0 saves → AreGood rows urids base 0 saves → with_uris urids (uris_in rows) ≡ urids
unfolding uris_in
no_new rows urids base saves found good = ap (λ states. with_uris urids (uris_for rows states)) found ∙ with_held urids (uris_for rows (subjects base 0 saves)) (held_states rows urids base 0 saves good)

same_saves : (rows : List Triple) (urids : List (List ℕ)) (base : List ℕ) (saves : List Saved) → states_in rows ≡ subjects base 0 saves → AreGood rows urids base 0 saves → saves_of rows urids ≡ saves
unfolding saves_of
same_saves rows urids base saves found good = ap (map (saved_of rows urids)) found ∙ same_states rows urids base 0 saves good

pub says_again : (base : List ℕ) (urids : List (List ℕ)) (saves : List Saved) → AreSaved urids saves → SaysAgain urids saves (states_rows base 0 0 urids saves)
says_again base urids saves are =
    let low : 0 + length saves < 2 ^ 64 = let less = few saves in let room = are.room in omega (arith, less, room) in
    let said : AreSaid (states_rows base 0 0 urids saves) base urids 0 0 saves =
    all_said (states_rows base 0 0 urids saves) [] base urids 0 0 saves refl low (record { fresh = λ m most. refl; new = λ m more less. refl }) in
    let good : AreGood (states_rows base 0 0 urids saves) urids base 0 saves = all_good (states_rows base 0 0 urids saves) base urids 0 0 saves are.numbered are.each said in
    let found : states_in (states_rows base 0 0 urids saves) ≡ subjects base 0 saves = states_found base 0 0 urids saves in
    record {
      kept = kept_rules (states_rows base 0 0 urids saves) urids base saves found good;
      held = no_new (states_rows base 0 0 urids saves) urids base saves found good;
      same = same_saves (states_rows base 0 0 urids saves) urids base saves found good;
    }
