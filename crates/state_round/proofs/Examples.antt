-- A state that is written and read: what the law asks holds of it.
use Rattle.std.proofs.Common.{ℕ, List, [], ◌∷◌, codes, refl, arith, rules}
use Rattle.std.specs.List.{IsDistinct}
use Rattle.std.specs.Str.{chars, is_utf8}
use Rattle.state_file.specs.declared.saved.Saved.{Saved}
use Rattle.state_store.specs.Properties.{AreStorable}
use Rattle.state_store.specs.declared.prop.Prop.{Prop}
use Rattle.turtle_grammar.specs.Characters.{is_excluded, is_letter_or_digit, is_letter, is_digit}
use Rattle.urid_map.proofs.Places.{numbered}
use Rattle.std.proofs.lemmas.Str.{IsUtf8-from_is_utf8}
use Rattle.state_round.specs.RoundTrip.{IsSelf, IsSaved, AreSaved}
use Rattle.state_round.proofs.Names.{names_are_plain}
use lib.Utf8.{encode}

abbrev urids : List (List ℕ)
urids = codes "urn:lv2fx:level" ∷ codes "urn:lv2fx:Fixed" ∷ []

-- the level 0.25 of a tank
abbrev level : Prop
level = record { kind = 2; flags = 3; bytes = 0 ∷ 0 ∷ 64 ∷ 0 ∷ 0 ∷ 0 ∷ 0 ∷ 0 ∷ [] }

abbrev saved : Saved
saved = record { name = codes "t"; uri = codes "urn:lv2fx:tank"; props = (1, level) ∷ [] }

level_self : IsSelf (codes "urn:lv2fx:level")
unfolding is_utf8 is_excluded chars encode
level_self = record { utf8 = IsUtf8-from_is_utf8 (codes "urn:lv2fx:level") refl; full = refl; undotted = refl }

fixed_self : IsSelf (codes "urn:lv2fx:Fixed")
unfolding is_utf8 is_excluded chars encode
fixed_self = record { utf8 = IsUtf8-from_is_utf8 (codes "urn:lv2fx:Fixed") refl; full = refl; undotted = refl }

tank_self : IsSelf (codes "urn:lv2fx:tank")
unfolding is_utf8 is_excluded chars encode
tank_self = record { utf8 = IsUtf8-from_is_utf8 (codes "urn:lv2fx:tank") refl; full = refl; undotted = refl }

storable : AreStorable 2 saved.props
storable = record { rising = search rules; lawful = search rules; room = refl }

written : IsSaved urids saved
unfolding is_letter_or_digit is_letter is_digit
written = record {
  name = names_are_plain (codes "t") refl;
  uri = tank_self;
  rows = (record { key = (codes "urn:lv2fx:level", refl, level_self); kind = (codes "urn:lv2fx:Fixed", refl, fixed_self); bytes = search rules }, tt);
  storable = storable;
}

all : AreSaved urids (saved ∷ [])
unfolding IsDistinct
all = record { numbered = numbered urids ((refl, tt), (tt, tt)); each = (written, tt); room = omega arith }
