-- The text of properties: of one that is found with a key, and of all, one after the other.
use Rattle.std.proofs.Common.{◌≡◌, ◌==◌, ℕ, List, [], ◌∷◌, ◌++◌, Option, sym, ap, ◌∙◌, append_assoc}
use Rattle.std.specs.Prelude.{find, flat_map}
use Rattle.std.specs.Option.{option_map, option_map_or}
use Rattle.session_play.specs.Patch.{Property}
use Rattle.play_outcome.specs.Messages.{keyed_text}
use Rattle.object_properties.specs.declared.property.Property.{Property as Read}
use Rattle.object_properties.specs.Properties.{seen}

-- what is said of the property that was found with a key, after a word
pub keyed : (text word : List ℕ) (say : Property → List ℕ) (key : ℕ) (found : Option Read) (left properties : List Property) (one all : List ℕ)
    → option_map seen found ≡ find (λ (it : Property). it.key == key) left → left ≡ properties → one ≡ text ++ word
    → all ≡ one ++ option_map_or say (option_map seen found) [] → all ≡ text ++ (word ++ keyed_text key say properties)
keyed text word say key found left properties one all is same first second =
    second
    ∙ ap (λ (o : Option Property). one ++ option_map_or say o []) (is ∙ ap (find (λ (it : Property). it.key == key)) same)
    ∙ ap (λ l. l ++ keyed_text key say properties) first
    ∙ append_assoc text word (keyed_text key say properties)

-- one property more
pub one_more : (f : Property → List ℕ) (start old new : List ℕ) (it : Property) (left rest : List Property) → old ++ flat_map f left ≡ start → left ≡ it ∷ rest → new ≡ old ++ f it
    → new ++ flat_map f rest ≡ start
one_more f start old new it left rest so_far is grown =
    ap (λ l. l ++ flat_map f rest) grown ∙ append_assoc old (f it) (flat_map f rest) ∙ sym (ap (λ (ps : List Property). old ++ flat_map f ps) is) ∙ so_far
