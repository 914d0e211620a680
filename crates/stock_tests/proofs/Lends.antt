-- The buffers of a bench can be lent, and its outputs are there afterwards.
use Rattle.std.proofs.Common.{◌≡◌, ℕ, ◌<◌, Bool, true, false, List, [], length, get_or, Option, IfSome, sym, ◌∙◌, ap, subst, arith}
use Rattle.std.specs.Prelude.{slice_index}
use Rattle.std.proofs.lemmas.List.{length-replicate}
use Rattle.plug_api.specs.Sound.{silence, silent}
use Rattle.plug_api.specs.Signal.{nought}
use Rattle.plugin_decl.specs.declared.declaration.Decl.{Decl}
use Rattle.plugin_decl.specs.declared.declaration.Port.{Port}
use Rattle.plugin_decl.specs.declared.declaration.PortKind.{PortKind}
use Rattle.plugin_decl.specs.Valid.{IsValid}
use Rattle.plug_api.specs.declared.ports.Ports.{Ports}
use Rattle.plug_api.specs.Sequences.{IsSequence}
use Rattle.plug_api.specs.Buffers.{Given, Left, forge_at}
use Rattle.plug_api.specs.Inputs.{Outputs}
use Rattle.plug_api.specs.Roles.{is_sound, is_control, is_atom, has, has_atom, AreNumbered}
use Rattle.plug_api.specs.Ports.{ports_of, ins_of, places_of, outs_of, place_of, IsLent, IsSameLoan}
use Rattle.plug_api.specs.Running.{with_outputs, AreOutputs}
use Rattle.plug_api.proofs.Lent.{has_within}
use Rattle.plug_api.proofs.Written.{Wrote, block_there, value_there, forge_there}
use Rattle.stock_tests.specs.Bench.{frames, AreIns, IsBench, HasEvents, AreOuts, Lends, HaveOuts}

numbered : (decl : Decl) → IsValid decl → AreNumbered decl.ports
numbered decl valid i port e = subst (λ (found : Option Port). IfSome found (λ p. p.index ≡ i)) e (valid.numbered i)

pub lends : (lent : Ports) (decl : Decl) → Lends lent decl → IsLent lent
lends lent decl is =
    let n = length (ports_of lent) in
    let within = λ (kind : PortKind → Bool) (input : Bool) (i : ℕ) (h : has kind input (ports_of lent) i ≡ true). has_within kind input (ports_of lent) i h in
    let same : (ins_of lent).frames ≡ frames = is.ins.frames_are in
    record {
      numbered = subst AreNumbered (sym is.ports) (numbered decl is.valid);
      inputs = record {
        sounds = λ i h. record { there = omega (arith, within is_sound true i h, is.ins.blocks); whole = is.ins.whole i h ∙ sym same };
        controls = λ i h. omega (arith, within is_control true i h, is.ins.values);
        atoms = λ i h. omega (arith, within is_atom true i h, is.ins.events);
        sequences = λ i h.
            let zero_is : i ≡ 0 = is.events.first i h in
            subst (λ k. IsSequence (ins_of lent).frames (forge_at (ins_of lent).events k)) (sym zero_is)
            (subst (λ f. IsSequence f (forge_at (ins_of lent).events 0)) (sym same)
            (is.events.sequence (subst (λ k. has_atom true (ports_of lent) k ≡ true) zero_is h)));
      };
      outputs = record {
        places = is.places;
        sounds = λ i h.
            let lt = within is_sound false i h in
            let own = is.own i lt in
            record {
              there = omega (arith, lt, own, is.outs.blocks);
              whole =
                  ap (λ k. length (get_or (outs_of lent).blocks k [])) own
                  ∙ ap length (is.outs.silent i lt)
                  ∙ length-replicate frames silent ∙ sym same;
            };
        silent = λ i h.
            let lt = within is_sound false i h in
            ap (λ k. get_or (outs_of lent).blocks k []) (is.own i lt) ∙ is.outs.silent i lt ∙ ap silence (sym same);
        controls = λ i h.
            let lt = within is_control false i h in
            let own = is.own i lt in omega (arith, lt, own, is.outs.values);
        noughts = λ i h.
            let lt = within is_control false i h in
            ap (λ k. get_or (outs_of lent).values k nought) (is.own i lt) ∙ is.outs.noughts i lt;
        atoms = λ i h.
            let lt = within is_atom false i h in
            let own = is.own i lt in omega (arith, lt, own, is.outs.forges);
        begun = λ i h.
            let lt = within is_atom false i h in
            ap (λ k. forge_at (outs_of lent).forges k) (is.own i lt) ∙ is.outs.begun i h;
      };
      sounds_apart = λ i j a b e. sym (is.own i (within is_sound false i a)) ∙ e ∙ is.own j (within is_sound false j b);
      controls_apart = λ i j a b e. sym (is.own i (within is_control false i a)) ∙ e ∙ is.own j (within is_control false j b);
      atoms_apart = λ i j a b e. sym (is.own i (within is_atom false i a)) ∙ e ∙ is.own j (within is_atom false j b);
    }

-- after a run
pub outs_there : (lent new : Ports) (decl : Decl) (outputs : Outputs) → Lends lent decl → AreOutputs (ports_of lent) (ins_of lent).frames outputs
    → outs_of new ≡ with_outputs (places_of lent) (outs_of lent) outputs → IsSameLoan lent new → HaveOuts decl.ports (outs_of new)
outs_there lent new decl outputs is fit outs loan =
    let lends_it = lends lent decl is in
    let wrote : Wrote lent new outputs = record { loan = loan; fit = fit; outs = outs } in
    let own = λ (kind : PortKind → Bool) (i : ℕ) (h : has kind false (ports_of lent) i ≡ true).
    (ap (λ (places : List ℕ). slice_index places i) loan.places ∙ is.own i (has_within kind false (ports_of lent) i h)) in
    subst (λ (ports : List Port). HaveOuts ports (outs_of new)) is.ports
    (record {
      sounds = λ i h. let e : place_of new i ≡ i = own is_sound i h in omega (arith, e, block_there i lends_it wrote h);
      controls = λ i h. let e : place_of new i ≡ i = own is_control i h in omega (arith, e, value_there i lends_it wrote h);
      atoms = λ i h. let e : place_of new i ≡ i = own is_atom i h in omega (arith, e, forge_there i lends_it wrote h);
    })

-- what ports are lent over
pub over_lends : (lent : Ports) (decl : Decl) (ins : Given) (outs : Left) (of : List ℕ) → ports_of lent ≡ decl.ports → ins_of lent ≡ ins
    → places_of lent ≡ of → outs_of lent ≡ outs → IsBench decl ins → HasEvents decl.ports ins → AreOuts decl.ports outs
    → length of ≡ length decl.ports → ((i : ℕ) → i < length decl.ports → slice_index of i ≡ i) → Lends lent decl
over_lends lent decl ins outs of ports_are ins_are of_are outs_are bench events silent places own =
    let n : length (ports_of lent) ≡ length decl.ports = ap length ports_are in
    record {
      valid = bench.valid;
      ports = ports_are;
      ins = subst (λ (ports : List Port). AreIns ports (ins_of lent)) (sym ports_are) (subst (λ (given : Given). AreIns decl.ports given) (sym ins_are) bench.ins);
      events = subst (λ (ports : List Port). HasEvents ports (ins_of lent)) (sym ports_are) (subst (λ (given : Given). HasEvents decl.ports given) (sym ins_are) events);
      outs = subst (λ (ports : List Port). AreOuts ports (outs_of lent)) (sym ports_are) (subst (λ (left : Left). AreOuts decl.ports left) (sym outs_are) silent);
      own = λ i lt. ap (λ (places : List ℕ). slice_index places i) of_are ∙ own i (omega (arith, lt, n));
      places = ap length of_are ∙ places ∙ sym n;
    }
