-- The calls that last, as a history goes on.
use Rattle.std.proofs.Common.{◌≡◌, ℕ, ◌<◌, ◌==◌, Bool, true, ◌&&◌, ◌||◌, not, List, ◌∷◌, length, set, filter, Some, slice_get, unwrap_or, refl, sym, ap, subst, ◌∙◌, eq-eqb, ne_eqb}
use Rattle.std.specs.List.{list_all}
use Rattle.std.proofs.lemmas.Bool.{and_parts, cond-true, cond-false}
use Rattle.std.proofs.lemmas.List.{length-set}
use Rattle.std.proofs.lemmas.Option.{slice_get-get_or}
use Rattle.step_law.specs.declared.call.Call.{Call}
use Rattle.step_law.specs.declared.call.Call.TheVariants.{Run}
use Rattle.step_law.specs.declared.entry.Kind.{Kind}
use Rattle.step_law.specs.declared.entry.Kind.TheVariants.{Begin, End}
use Rattle.step_law.specs.Call.{call_number}
use Rattle.record_law.specs.declared.shape.Shape.{Shape}
use Rattle.record_law.specs.Message.{Step, History}
use Rattle.record_law.specs.Lasting.{Lasting, is_other, lasting_after, lasting, may_overlap_at, is_active, keeps_class}
use Rattle.record_counts.specs.declared.calls.InstCalls.{InstCalls}
use Rattle.record_counts.specs.declared.calls.InstCalls.TheVariants.{Quiet}
use Rattle.record_counts.specs.declared.calls.OpenCall.{OpenCall}
use Rattle.record_counts.specs.Calls.{lasting_of, calls_of, IsApart, TellsInst, TellsCalls}
use Rattle.record_counts.proofs.Tables.{each_set}

abbrev open_call : ℕ → Call → OpenCall
open_call actor call = record { actor = actor; call = call }

-- what is read of a list at a place within it
read_item : {A : Type 0} (xs : List A) (i : ℕ) (d x : A) → i < length xs → x ≡ unwrap_or (slice_get xs i) d → slice_get xs i ≡ Some x
read_item xs i d x less is =
    let found = slice_get-get_or xs i d less in found ∙ ap Some (sym (is ∙ ap (λ o. unwrap_or o d) found))

module _ (s : Shape) (h : History) (x : Step) (insts : List InstCalls) (told : TellsCalls s h insts) (before : InstCalls) (is : before ≡ unwrap_or (slice_get insts x.entry.b) Quiet)
    (call : Call) (number : call_number call ≡ x.entry.a) where
  was : x.entry.b < length insts → TellsInst h x.entry.b before
  was less = told.each x.entry.b before (read_item insts x.entry.b Quiet before less is)

  elsewhere : (kind : Kind) (i : ℕ) → (i ≡ x.entry.b → ⊥) → lasting i h ≡ lasting_after i kind x.entry.actor x.entry.a x.entry.b (lasting i h)
  elsewhere Begin i other = sym (cond-false (x.entry.b == i) ((x.entry.actor, x.entry.a) ∷ lasting i h) (lasting i h) (ne_eqb x.entry.b i (λ e. other (sym e))))
  elsewhere End i other =
      sym (cond-false (x.entry.b == i) (filter (is_other x.entry.actor x.entry.a) (lasting i h)) (lasting i h) (ne_eqb x.entry.b i (λ e. other (sym e))))
  elsewhere kind i other = refl

  goes_on : (now : InstCalls) → (x.entry.b < length insts → TellsInst (x ∷ h) x.entry.b now) → TellsCalls s (x ∷ h) (set insts x.entry.b now)
  goes_on now here = record {
    each = each_set (TellsInst h) (TellsInst (x ∷ h)) insts x.entry.b now told.each here
        (λ i calls other tells. record { same = tells.same ∙ elsewhere x.entry.kind i other; apart = tells.apart });
    all = length-set insts x.entry.b now ∙ told.all;
  }

  pub begins : (now : InstCalls) → x.entry.kind ≡ Begin → keeps_class h x.entry.kind x.entry.a x.entry.b ≡ true
      → (IsApart before → list_all (λ (other : Lasting). may_overlap_at (call_number call) other.1) (calls_of before) ≡ true
      → (calls_of now ≡ lasting_of (open_call x.entry.actor call) ∷ calls_of before) × IsApart now)
      → TellsCalls s (x ∷ h) (set insts x.entry.b now)
  begins now kind keeps with =
      goes_on now (λ less.
      let tells = was less in
      let may : ℕ → Lasting → Bool = λ a (it : Lasting). may_overlap_at a it.1 in
      let kept : keeps_class h Begin x.entry.a x.entry.b ≡ true = subst (λ (k : Kind). keeps_class h k x.entry.a x.entry.b ≡ true) kind keeps in
      let all : list_all (may x.entry.a) (lasting x.entry.b h) ≡ true =
      (and_parts (list_all (may x.entry.a) (lasting x.entry.b h)) (not (x.entry.a == call_number Run) || is_active x.entry.b h) kept).0 in
      let both =
      with tells.apart (subst (λ (l : List Lasting). list_all (may (call_number call)) l ≡ true) (sym tells.same)
      (subst (λ (a : ℕ). list_all (may a) (lasting x.entry.b h) ≡ true) (sym number) all)) in record {
        same = both.0
            ∙ ap (λ (l : List Lasting). lasting_of (open_call x.entry.actor call) ∷ l) tells.same
            ∙ ap (λ (a : ℕ). let it : Lasting = (x.entry.actor, a) in it ∷ lasting x.entry.b h) number
            ∙ sym (cond-true (x.entry.b == x.entry.b) ((x.entry.actor, x.entry.a) ∷ lasting x.entry.b h) (lasting x.entry.b h) (eq-eqb x.entry.b x.entry.b refl))
            ∙ sym (ap (λ (k : Kind). lasting_after x.entry.b k x.entry.actor x.entry.a x.entry.b (lasting x.entry.b h)) kind);
        apart = both.1;
      })

  pub ends : (now : InstCalls) → x.entry.kind ≡ End → calls_of now ≡ filter (is_other x.entry.actor (call_number call)) (calls_of before) → (IsApart before → IsApart now)
      → TellsCalls s (x ∷ h) (set insts x.entry.b now)
  ends now kind without apart =
      goes_on now (λ less.
      let tells = was less in record {
        same = without
            ∙ ap (filter (is_other x.entry.actor (call_number call))) tells.same
            ∙ ap (λ (a : ℕ). filter (is_other x.entry.actor a) (lasting x.entry.b h)) number
            ∙ sym (cond-true (x.entry.b == x.entry.b) (filter (is_other x.entry.actor x.entry.a) (lasting x.entry.b h)) (lasting x.entry.b h) (eq-eqb x.entry.b x.entry.b refl))
            ∙ sym (ap (λ (k : Kind). lasting_after x.entry.b k x.entry.actor x.entry.a x.entry.b (lasting x.entry.b h)) kind);
        apart = apart tells.apart;
      })

-- an entry of another kind
pub passed : (s : Shape) (h : History) (x : Step) (insts : List InstCalls) → TellsCalls s h insts → (x.entry.kind ≡ Begin → ⊥) → (x.entry.kind ≡ End → ⊥) → TellsCalls s (x ∷ h) insts
passed s h x insts told no_begin no_end = record {
  each = λ i calls is.
      let tells = told.each i calls is in record { same = tells.same ∙ other x.entry.kind no_begin no_end x.entry.actor x.entry.a x.entry.b i (lasting i h); apart = tells.apart };
  all = told.all;
}
  where
    other : (kind : Kind) → (kind ≡ Begin → ⊥) → (kind ≡ End → ⊥) → (actor call on i : ℕ) (l : List Lasting) → l ≡ lasting_after i kind actor call on l
    other Begin nb ne actor call on i l = absurd (nb refl)
    other End nb ne actor call on i l = absurd (ne refl)
    other kind nb ne actor call on i l = refl

-- what may begin
pub may_begin_is : (s : Shape) (h : History) (insts : List InstCalls) (inst a : ℕ) (calls : InstCalls) (call : Call) (may run : Bool) → TellsCalls s h insts → inst < length s.insts
    → calls ≡ unwrap_or (slice_get insts inst) Quiet → call_number call ≡ a
    → may ≡ list_all (λ (it : Lasting). may_overlap_at (call_number call) it.1) (calls_of calls)
    → run ≡ (not (call_number call == call_number Run) || is_active inst h) → (may && run) ≡ keeps_class h Begin a inst
may_begin_is s h insts inst a calls call may run told within is number may_is run_is =
    let tells = told.each inst calls (read_item insts inst Quiet calls (subst (λ (n : ℕ). inst < n) (sym told.all) within) is) in
    ap (λ (b : Bool). b && run) (may_is ∙ ap (list_all (λ (it : Lasting). may_overlap_at (call_number call) it.1)) tells.same)
    ∙ ap (λ (b : Bool). list_all (λ (it : Lasting). may_overlap_at (call_number call) it.1) (lasting inst h) && b) run_is
    ∙ ap (λ (n : ℕ). keeps_class h Begin n inst) number
