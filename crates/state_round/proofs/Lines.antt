-- Which of a file's triples are those of a state, of its node and of each value.
use Rattle.std.proofs.Common.{◌≡◌, inl, ℕ, suc, ◌+◌, ◌^◌, ◌<◌, ◌≤◌, List, [], ◌∷◌, ◌++◌, length, refl, sym, ap, ◌∙◌, arith, append_assoc, append-nil}
use Rattle.state_file.specs.declared.saved.Saved.{Saved}
use Rattle.state_store.specs.declared.prop.Prop.{Prop}
use Rattle.triple_store.specs.declared.term.Term.{Term}
use Rattle.triple_store.specs.declared.term.Term.TheVariants.{Iri, Blank}
use Rattle.triple_store.specs.declared.term.Triple.{Triple}
use Rattle.state_round.proofs.Words.{in_file}
use Rattle.state_round.proofs.Values.{subject_iri}
use Rattle.state_round.proofs.Rows.{value_rows, key_row, property_rows, properties_rows, blanks_after, rises, head_rows, node_row, saved_rows, subject_of, states_rows, own, own_both, own-first, own-next, own_value, value_other, blank_other, iri_properties, blank_properties}
use Rattle.state_round.proofs.Said.{IsKnown, known_next, subject_other, block, tail_rows, block_blank, block_other, class_row, name_row, plugin_row}

-- the triples of a node: one for each property
abbrev pub key_rows : ℕ → ℕ → List (List ℕ) → List (ℕ × Prop) → List Triple
key_rows node b urids [] = []
key_rows node b urids (row ∷ rest) = key_row node b urids row ∷ key_rows node (suc b) urids rest

-- each value has its triples and no others
abbrev pub AreValues : List Triple → List (List ℕ) → ℕ → List (ℕ × Prop) → Type 0
AreValues rows urids b [] = Unit {0}
AreValues rows urids b (row ∷ rest) = (own (Blank b) rows ≡ value_rows b urids row) × AreValues rows urids (suc b) rest

pub record IsSaid (rows : List Triple) (base : List ℕ) (urids : List (List ℕ)) (number b : ℕ) (saved : Saved) : Type 0 where
  pub head : own (subject_of base number) rows ≡ head_rows (subject_of base number) saved ++ node_row (subject_of base number) b ∷ []
  pub node : own (Blank b) rows ≡ key_rows b (suc b) urids (in_file urids saved.props)
  pub values : AreValues rows urids (suc b) (in_file urids saved.props)

abbrev pub AreSaid : List Triple → List ℕ → List (List ℕ) → ℕ → ℕ → List Saved → Type 0
AreSaid rows base urids number b [] = Unit {0}
AreSaid rows base urids number b (saved ∷ saves) = IsSaid rows base urids number b saved × AreSaid rows base urids (number + 1) (blanks_after (suc b) (in_file urids saved.props)) saves

-- three lists, of which the middle one has rows of their own
own_middle : (a b c found : List Triple) (s : Term) → own s a ≡ [] → own s b ≡ found → own s c ≡ [] → own s (a ++ (b ++ c)) ≡ found
own_middle a b c found s x y z = own_both a (b ++ c) [] (found ++ []) s x (own_both b c found [] s y z) ∙ append-nil found

-- ---- values

own_property : (node b : ℕ) (urids : List (List ℕ)) (row : ℕ × Prop) → node < b → own (Blank b) (property_rows node b urids row) ≡ value_rows b urids row
own_property node b urids row less =
    own_both (value_rows b urids row) (key_row node b urids row ∷ []) (value_rows b urids row) [] (Blank b) (own_value b urids row)
    (own-next (Blank b) (key_row node b urids row) [] (blank_other b node (λ e. omega (arith, less, e)))) ∙ append-nil (value_rows b urids row)

past_property : (m node b : ℕ) (urids : List (List ℕ)) (row : ℕ × Prop) → node < b → b < m → own (Blank m) (property_rows node b urids row) ≡ []
past_property m node b urids row less more =
    own_both (value_rows b urids row) (key_row node b urids row ∷ []) [] [] (Blank m) (value_other (Blank m) b urids row (blank_other m b (λ e. omega (arith, more, e))))
    (own-next (Blank m) (key_row node b urids row) [] (blank_other m node (λ e. omega (arith, less, more, e))))

values_said : (rows front back : List Triple) (urids : List (List ℕ)) (node b : ℕ) (rest : List (ℕ × Prop)) → rows ≡ front ++ (properties_rows node b urids rest ++ back) → node < b
    → ((m : ℕ) → b ≤ m → own (Blank m) front ≡ []) → ((m : ℕ) → m < blanks_after b rest → own (Blank m) back ≡ []) → AreValues rows urids b rest
values_said rows front back urids node b [] whole less before later = tt
values_said rows front back urids node b (row ∷ rest) whole less before later =
    let moved : rows ≡ (front ++ property_rows node b urids row) ++ (properties_rows node (suc b) urids rest ++ back) =
    whole ∙ ap (λ l. front ++ l) (append_assoc (property_rows node b urids row) (properties_rows node (suc b) urids rest) back)
    ∙ sym (append_assoc front (property_rows node b urids row) (properties_rows node (suc b) urids rest ++ back)) in
    let last = rises (suc b) rest in (
      ap (own (Blank b)) moved
          ∙ own_both (front ++ property_rows node b urids row) (properties_rows node (suc b) urids rest ++ back) (value_rows b urids row) [] (Blank b)
          (own_both front (property_rows node b urids row) [] (value_rows b urids row) (Blank b) (before b (omega arith)) (own_property node b urids row less))
          (own_both (properties_rows node (suc b) urids rest) back [] [] (Blank b) (blank_properties b node (suc b) urids rest (λ e. omega (arith, less, e)) (inl (omega arith))) (later b (omega (arith, last))))
          ∙ append-nil (value_rows b urids row),
      values_said rows (front ++ property_rows node b urids row) back urids node (suc b) rest moved (omega (arith, less))
          (λ m most. own_both front (property_rows node b urids row) [] [] (Blank m) (before m (omega (arith, most))) (past_property m node b urids row less (omega (arith, most))))
          later,
    )

-- ---- the node

own_keys : (node b : ℕ) (urids : List (List ℕ)) (rest : List (ℕ × Prop)) → node < b → own (Blank node) (properties_rows node b urids rest) ≡ key_rows node b urids rest
own_keys node b urids [] less = refl
own_keys node b urids (row ∷ rest) less =
    own_both (property_rows node b urids row) (properties_rows node (suc b) urids rest) (key_row node b urids row ∷ []) (key_rows node (suc b) urids rest) (Blank node)
    (own_both (value_rows b urids row) (key_row node b urids row ∷ []) [] (key_row node b urids row ∷ []) (Blank node) (value_other (Blank node) b urids row (blank_other node b (λ e. omega (arith, less, e))))
    (own-first (Blank node) (key_row node b urids row) [] refl))
    (own_keys node (suc b) urids rest (omega (arith, less)))

own_node : (iri : List ℕ) (b : ℕ) (urids : List (List ℕ)) (saved : Saved) (rest : List (ℕ × Prop)) → own (Blank b) (block (Iri iri) b urids saved rest) ≡ key_rows b (suc b) urids rest
own_node iri b urids saved rest =
    own_both (properties_rows b (suc b) urids rest) (node_row (Iri iri) b ∷ []) (key_rows b (suc b) urids rest) [] (Blank b) (own_keys b (suc b) urids rest (omega arith)) refl
    ∙ append-nil (key_rows b (suc b) urids rest)

-- ---- the state

own_head : (iri : List ℕ) (b : ℕ) (urids : List (List ℕ)) (saved : Saved) (rest : List (ℕ × Prop)) → own (Iri iri) (block (Iri iri) b urids saved rest) ≡ head_rows (Iri iri) saved ++ node_row (Iri iri) b ∷ []
own_head iri b urids saved rest =
    own-first (Iri iri) (class_row (Iri iri)) (name_row (Iri iri) saved ∷ plugin_row (Iri iri) saved ∷ tail_rows (Iri iri) b urids rest) refl
    ∙ ap (λ l. class_row (Iri iri) ∷ l)
    (own-first (Iri iri) (name_row (Iri iri) saved) (plugin_row (Iri iri) saved ∷ tail_rows (Iri iri) b urids rest) refl
    ∙ ap (λ l. name_row (Iri iri) saved ∷ l)
    (own-first (Iri iri) (plugin_row (Iri iri) saved) (tail_rows (Iri iri) b urids rest) refl
    ∙ ap (λ l. plugin_row (Iri iri) saved ∷ l)
    (own_both (properties_rows b (suc b) urids rest) (node_row (Iri iri) b ∷ []) [] (node_row (Iri iri) b ∷ []) (Iri iri) (iri_properties iri b (suc b) urids rest)
    (own-first (Iri iri) (node_row (Iri iri) b) [] refl))))

-- ---- those after it

later_blank : (m : ℕ) (base : List ℕ) (number b : ℕ) (urids : List (List ℕ)) (saves : List Saved) → m < b → own (Blank m) (states_rows base number b urids saves) ≡ []
later_blank m base number b urids [] less = refl
later_blank m base number b urids (saved ∷ saves) less =
    let last = rises (suc b) (in_file urids saved.props) in
    own_both (saved_rows (subject_of base number) b urids saved) (states_rows base (number + 1) (blanks_after (suc b) (in_file urids saved.props)) urids saves) [] [] (Blank m)
    (block_blank m (subject_iri base number) b urids saved (in_file urids saved.props) (inl less))
    (later_blank m base (number + 1) (blanks_after (suc b) (in_file urids saved.props)) urids saves (omega (arith, less, last)))

later_subject : (m : ℕ) (base : List ℕ) (number b : ℕ) (urids : List (List ℕ)) (saves : List Saved) → m < number → number + length saves < 2 ^ 64 → own (subject_of base m) (states_rows base number b urids saves) ≡ []
later_subject m base number b urids [] less low = refl
later_subject m base number b urids (saved ∷ saves) less low =
    own_both (saved_rows (subject_of base number) b urids saved) (states_rows base (number + 1) (blanks_after (suc b) (in_file urids saved.props)) urids saves) [] [] (subject_of base m)
    (block_other (subject_iri base number) (subject_iri base m) b urids saved (in_file urids saved.props) (subject_other base m number (omega (arith, less, low)) (omega (arith, low)) (λ e. omega (arith, less, e))))
    (later_subject m base (number + 1) (blanks_after (suc b) (in_file urids saved.props)) urids saves (omega (arith, less)) (omega (arith, low)))

-- ---- all states

one_said : (rows front : List Triple) (base : List ℕ) (urids : List (List ℕ)) (number b : ℕ) (saved : Saved) (saves : List Saved) → rows ≡ front ++ states_rows base number b urids (saved ∷ saves)
    → number + suc (length saves) < 2 ^ 64 → IsKnown base number b front → IsSaid rows base urids number b saved
one_said rows front base urids number b saved saves whole low known =
    let last = rises (suc b) (in_file urids saved.props) in
    let quiet : (m : ℕ) → m < blanks_after (suc b) (in_file urids saved.props) → own (Blank m) (states_rows base (number + 1) (blanks_after (suc b) (in_file urids saved.props)) urids saves) ≡ [] =
    λ m less. later_blank m base (number + 1) (blanks_after (suc b) (in_file urids saved.props)) urids saves less in
    record {
      head = ap (own (subject_of base number)) whole
          ∙ own_middle front (saved_rows (subject_of base number) b urids saved) (states_rows base (number + 1) (blanks_after (suc b) (in_file urids saved.props)) urids saves)
          (head_rows (subject_of base number) saved ++ node_row (subject_of base number) b ∷ []) (subject_of base number) (known.new number (omega arith) (omega (arith, low)))
          (own_head (subject_iri base number) b urids saved (in_file urids saved.props))
          (later_subject number base (number + 1) (blanks_after (suc b) (in_file urids saved.props)) urids saves (omega arith) (omega (arith, low)));
      node = ap (own (Blank b)) whole
          ∙ own_middle front (saved_rows (subject_of base number) b urids saved) (states_rows base (number + 1) (blanks_after (suc b) (in_file urids saved.props)) urids saves)
          (key_rows b (suc b) urids (in_file urids saved.props)) (Blank b) (known.fresh b (omega arith)) (own_node (subject_iri base number) b urids saved (in_file urids saved.props)) (quiet b (omega (arith, last)));
      values = values_said rows (front ++ head_rows (subject_of base number) saved) (node_row (subject_of base number) b ∷ states_rows base (number + 1) (blanks_after (suc b) (in_file urids saved.props)) urids saves) urids b (suc b)
          (in_file urids saved.props)
          (whole ∙ cut front (head_rows (subject_of base number) saved) (properties_rows b (suc b) urids (in_file urids saved.props)) (node_row (subject_of base number) b) (states_rows base (number + 1) (blanks_after (suc b) (in_file urids saved.props)) urids saves))
          (omega arith)
          (λ m most. own_both front (head_rows (subject_of base number) saved) [] [] (Blank m) (known.fresh m (omega (arith, most))) refl)
          quiet;
    }
  where
    cut : (front head middle : List Triple) (node : Triple) (back : List Triple) → front ++ ((head ++ (middle ++ node ∷ [])) ++ back) ≡ (front ++ head) ++ (middle ++ node ∷ back)
    cut front head middle node back =
        ap (λ l. front ++ l) (append_assoc head (middle ++ node ∷ []) back ∙ ap (λ l. head ++ l) (append_assoc middle (node ∷ []) back)) ∙ sym (append_assoc front head (middle ++ node ∷ back))

pub all_said : (rows front : List Triple) (base : List ℕ) (urids : List (List ℕ)) (number b : ℕ) (saves : List Saved) → rows ≡ front ++ states_rows base number b urids saves
    → number + length saves < 2 ^ 64 → IsKnown base number b front → AreSaid rows base urids number b saves
all_said rows front base urids number b [] whole low known = tt
all_said rows front base urids number b (saved ∷ saves) whole low known = (
  one_said rows front base urids number b saved saves whole low known,
  all_said rows (front ++ saved_rows (subject_of base number) b urids saved) base urids (number + 1) (blanks_after (suc b) (in_file urids saved.props)) saves
      (whole ∙ sym (append_assoc front (saved_rows (subject_of base number) b urids saved) (states_rows base (number + 1) (blanks_after (suc b) (in_file urids saved.props)) urids saves)))
      (omega (arith, low)) (known_next base number b urids saved (in_file urids saved.props) front (omega (arith, low)) known),
)
