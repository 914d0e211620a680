use Rattle.std.proofs.Common.{◌≡◌, ℕ, zero, suc, List, ap, sym, ◌∙◌, refl, subst}
use Rattle.std.proofs.lemmas.List.{append-nil}
use Rattle.atom_core.specs.Value.{keyed, part, none}
use Rattle.atom_core.specs.Spelling.{part_of, parts_of}
use Rattle.patch_control.specs.declared.words.TheConstants.{PROPERTY}
use Rattle.patch_control.specs.Written.{urid_value, asked_for}
use Rattle.patch_control.specs.Writing.{Tries}
use Rattle.patch_control.proofs.Rows.{nothing_put}
use Rattle.patch_control.proofs.writer.put_asked.Goals as goal

none_asked : (property : ℕ) → property ≡ 0 → asked_for property ≡ none
none_asked zero e = refl
none_asked (suc n) e = absurd cc

some_asked : (property : ℕ) → (property ≡ 0 → ⊥) → asked_for property ≡ part (keyed PROPERTY 0) (urid_value property) none
some_asked zero some = absurd (some refl)
some_asked (suc n) some = refl

pub returns-then-property-eq0 : goal.returns-then-property-eq0
returns-then-property-eq0 c =
    nothing_put c.args.f.now (parts_of (asked_for c.args.property)) (ap parts_of (none_asked c.args.property c.if-property-eq0.true)) c.requires.lead.1

pub returns : goal.returns
returns c =
    let asked = ap parts_of (some_asked c.args.property c.if-property-eq0.false) in
    subst (λ (b : List ℕ). Tries c.args.f.now b c.put_urid.result c.put_urid.new.f)
    (sym (asked ∙ append-nil (part_of (keyed PROPERTY 0) (urid_value c.args.property)))) c.put_urid.ensures
