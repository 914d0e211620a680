-- States that keep the rules, and whose URIs are mapped, can be read.
use Rattle.std.proofs.Common.{◌≡◌, ℕ, ◌≤◌, Bool, true, false, not, cond, List, [], ◌∷◌, ◌++◌, length, Option, None, Some, is_some, refl, sym, subst, ◌∙◌, true≢false, arith}
use Rattle.std.specs.Prelude.{◌&&◌, nat_le, option_to_list}
use Rattle.std.specs.List.{list_all}
use Rattle.std.proofs.lemmas.Bool.{leb-true}
use Rattle.std.proofs.lemmas.List.Folds.{list_all-append}
use Rattle.triple_store.specs.declared.term.Term.{Term}
use Rattle.triple_store.specs.declared.term.Triple.{Triple}
use Rattle.state_store.specs.declared.status.TheConstants.{MOST_PROPERTIES, MOST_BYTES}
use Rattle.urid_map.specs.Numbers.{holds, with_uris}
use Rattle.state_file.specs.States.{states_in, properties_in, key_in, kind_in, flags_in, flags_term, bytes_term, name_in, uri_in, node_in}
use Rattle.state_file.specs.Rules.{is_property, is_shaped, has_flags, has_bytes, has_few, are_few, size_of, first_broken, uris_of, uris_for, uris_in}
use Rattle.state_file.specs.Ready.{IsHeld, AreReady, HaveRoom, AreReadable}
use Rattle.state_file.specs.declared.fault.StateFault.{StateFault}
use Rattle.state_file.specs.declared.fault.StateFault.TheVariants.{Shape, Flags, Bytes, Size}
use Rattle.state_file.proofs.Held.{all-mapped}

-- the parts of a test that holds
left : (a b : Bool) → (a && b) ≡ true → a ≡ true
left true b h = refl
left false b h = h

right : (a b : Bool) → (a && b) ≡ true → b ≡ true
right true b h = h
right false b h = absurd (true≢false (sym h))

-- a URI that is there and held
one-held : (urids : List (List ℕ)) (uri : Option (List ℕ)) → is_some uri ≡ true → list_all (holds urids) (option_to_list uri) ≡ true → IsHeld urids uri
one-held urids None there held = absurd (true≢false (sym there))
one-held urids (Some uri) there held = left (holds urids uri) true held

-- the properties of one state
ready : (rows : List Triple) (urids : List (List ℕ)) (properties : List Triple) → list_all (is_property rows) properties ≡ true
    → list_all (λ property. is_some (flags_in rows property)) properties ≡ true → list_all (holds urids) (uris_of rows properties) ≡ true → AreReady rows urids properties
unfolding is_property
ready rows urids [] shaped flags held = tt
ready rows urids (property ∷ properties) shaped flags held = (
  (one-held urids (key_in property) (left _ _ (left _ _ own)) (left _ _ two), one-held urids (kind_in rows property) (right _ _ (left _ _ own)) (right _ _ two), left _ _ flags),
  ready rows urids properties (right (is_property rows property) _ shaped) (right _ _ flags) (right _ _ parts),
)
  where
    own : ((is_some (key_in property) && is_some (kind_in rows property)) && (is_some (flags_term rows property) && is_some (bytes_term rows property))) ≡ true
    own = left _ _ shaped

    parts : (list_all (holds urids) (option_to_list (key_in property) ++ option_to_list (kind_in rows property)) && list_all (holds urids) (uris_of rows properties)) ≡ true
    parts = sym (list_all-append (holds urids) (option_to_list (key_in property) ++ option_to_list (kind_in rows property)) (uris_of rows properties)) ∙ held

    two : (list_all (holds urids) (option_to_list (key_in property)) && list_all (holds urids) (option_to_list (kind_in rows property))) ≡ true
    two = sym (list_all-append (holds urids) (option_to_list (key_in property)) (option_to_list (kind_in rows property))) ∙ left _ _ parts

room : (rows properties : List Triple) → are_few rows properties ≡ true → HaveRoom rows [] properties
room rows properties few =
    let many : length properties ≤ MOST_PROPERTIES = leb-true (length properties) MOST_PROPERTIES (left _ _ few) in
    let size : size_of rows properties ≤ MOST_BYTES = leb-true (size_of rows properties) MOST_BYTES (right (nat_le (length properties) MOST_PROPERTIES) _ few) in
    (omega arith, omega arith)

-- all states
readable : (rows : List Triple) (urids : List (List ℕ)) (states : List Term) → list_all (is_shaped rows) states ≡ true → list_all (has_flags rows) states ≡ true
    → list_all (has_few rows) states ≡ true → list_all (holds urids) (uris_for rows states) ≡ true → AreReadable rows urids states
unfolding is_shaped has_flags has_few
readable rows urids [] shaped flags few held = tt
readable rows urids (state ∷ states) shaped flags few held = (
  (
    ready rows urids (properties_in rows state) (left _ _ (right ((is_some (name_in rows state) && is_some (uri_in rows state)) && is_some (node_in rows state)) _ (left (is_shaped rows state) _ shaped)))
        (left _ _ flags) (left _ _ parts),
    room rows (properties_in rows state) (left _ _ few),
  ),
  readable rows urids states (right (is_shaped rows state) _ shaped) (right (has_flags rows state) _ flags) (right (has_few rows state) _ few) (right _ _ parts),
)
  where
    parts : (list_all (holds urids) (uris_of rows (properties_in rows state)) && list_all (holds urids) (uris_for rows states)) ≡ true
    parts = sym (list_all-append (holds urids) (uris_of rows (properties_in rows state)) (uris_for rows states)) ∙ held

-- where no rule is broken, each is kept
abbrev broken-by : (a b c d : Bool) → Option StateFault
broken-by a b c d = cond (not a) (Some Shape) (cond (not b) (Some Flags) (cond (not c) (Some Bytes) (cond (not d) (Some Size) None)))

all-kept : (a b c d : Bool) → broken-by a b c d ≡ None → (a ≡ true) × (b ≡ true) × (d ≡ true)
all-kept false b c d h = cc
all-kept true false c d h = cc
all-kept true true false d h = cc
all-kept true true true false h = cc
all-kept true true true true h = (refl, refl, refl)

pub can_read : (rows : List Triple) (old new : List (List ℕ)) → first_broken rows ≡ None → new ≡ with_uris old (uris_in rows) → AreReadable rows new (states_in rows)
unfolding first_broken uris_in
can_read rows old new kept mapped =
    let each = all-kept (list_all (is_shaped rows) (states_in rows)) (list_all (has_flags rows) (states_in rows)) (list_all (has_bytes rows) (states_in rows)) (list_all (has_few rows) (states_in rows)) kept in
    subst (λ urids. AreReadable rows urids (states_in rows)) (sym mapped)
    (readable rows (with_uris old (uris_in rows)) (states_in rows) each.0 each.1 each.2 (all-mapped old (uris_in rows)))
