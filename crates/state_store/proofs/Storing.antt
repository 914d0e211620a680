-- What storing a property answers, and what a shelf may hold afterwards.
use Rattle.std.proofs.Common.{◌≡◌, ℕ, Bool, true, false, not, cond, ◌&&◌, List, All, refl, sym, ap, subst, ◌∙◌}
use Rattle.std.specs.List.{AllPass}
use Rattle.state_store.specs.Properties.{AreRising, with_property, fit, is_mapped, are_flags, is_storable, AreStorable}
use Rattle.state_store.specs.Shelf.{Shelved, status_of}
use Rattle.state_store.specs.declared.prop.Prop.{Prop}
use Rattle.state_store.proofs.Ordered.{rising_with, all_with}

-- there is no room
pub status_full : (shelf : Shelved) (key : ℕ) (prop : Prop) → is_mapped shelf.mapped key ≡ true → is_mapped shelf.mapped prop.kind ≡ true → are_flags prop.flags ≡ true
    → fit (with_property shelf.rows key prop) ≡ false → 6 ≡ status_of shelf key prop
status_full shelf key prop has_key has_kind flags none = rw has_key (rw has_kind (rw flags (rw none refl)))

-- or there is
pub status_done : (shelf : Shelved) (key : ℕ) (prop : Prop) → is_mapped shelf.mapped key ≡ true → is_mapped shelf.mapped prop.kind ≡ true → are_flags prop.flags ≡ true
    → fit (with_property shelf.rows key prop) ≡ true → 0 ≡ status_of shelf key prop
status_done shelf key prop has_key has_kind flags room = rw has_key (rw has_kind (rw flags (rw room refl)))

-- a shelf may hold what was stored
pub storable_with : (mapped : ℕ) (rows : List (ℕ × Prop)) (key : ℕ) (prop : Prop) → AreStorable mapped rows → is_mapped mapped key ≡ true → is_mapped mapped prop.kind ≡ true
    → are_flags prop.flags ≡ true → fit (with_property rows key prop) ≡ true → AreStorable mapped (with_property rows key prop)
storable_with mapped rows key prop storable has_key has_kind flags room = record {
  rising = rising_with rows key prop storable.rising;
  lawful = all_with (λ row. is_storable mapped row ≡ true) rows key prop storable.lawful (rw has_key (rw has_kind (rw flags refl)));
  room = room;
}
