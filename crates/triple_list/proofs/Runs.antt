-- A text is written run by run: what has been copied, and what of the text so far hasn't.
use Rattle.std.proofs.Common.{◌≡◌, ℕ, ◌+◌, ◌-◌, ◌<◌, ◌≤◌, List, [], ◌∷◌, ◌++◌, length, get_or, take, drop, Option, Some, None, unwrap_or, refl, sym, ap, ◌∙◌, arith, append_assoc}
use Rattle.std.proofs.lemmas.List.{take_more, drop-take, drop-append-le, take_all, append-nil}
use Rattle.std.proofs.lemmas.List.Concat.{flat_map-append}
use Rattle.triple_list.specs.Escapes.{escape_of, written, escaped}

-- one byte more is written after the others
one_more : (text : List ℕ) (at : ℕ) → at < length text → escaped (take (at + 1) text) ≡ escaped (take at text) ++ written (get_or text at 0)
one_more text at there =
    ap escaped (take_more text at 0 there)
    ∙ flat_map-append written (take at text) (get_or text at 0 ∷ [])
    ∙ ap (λ last. escaped (take at text) ++ last) (append-nil (written (get_or text at 0)))

-- the bytes so far, where each is written
abbrev pub IsWritten : List ℕ → ℕ → List ℕ → ℕ → List ℕ → Type 0
IsWritten old copied into at text = into ++ drop copied (take at text) ≡ old ++ escaped (take at text)

-- a byte that stands for itself goes on with the run
pub run_goes_on : (old into text : List ℕ) (copied at : ℕ) → copied ≤ at → at < length text → length (take at text) ≡ at
    → escape_of (get_or text at 0) ≡ None → IsWritten old copied into at text → IsWritten old copied into (at + 1) text
run_goes_on old into text copied at le there len plain so_far =
    let byte = get_or text at 0 in
    let run : drop copied (take (at + 1) text) ≡ drop copied (take at text) ++ byte ∷ [] =
    ap (drop copied) (take_more text at 0 there) ∙ drop-append-le copied (take at text) (byte ∷ []) (omega (arith, len)) in
    ap (λ t. into ++ t) run
    ∙ sym (append_assoc into (drop copied (take at text)) (byte ∷ []))
    ∙ ap (λ t. t ++ byte ∷ []) so_far
    ∙ append_assoc old (escaped (take at text)) (byte ∷ [])
    ∙ ap (λ w. old ++ (escaped (take at text) ++ w)) (sym (ap (λ o. unwrap_or o (byte ∷ [])) plain))
    ∙ ap (λ t. old ++ t) (sym (one_more text at there))

-- a byte that is escaped ends the run
pub run_ends : (old into before after text escape : List ℕ) (copied at : ℕ) → copied ≤ at → at < length text
    → before ≡ into ++ drop copied (take at text) → after ≡ before ++ escape
    → escape_of (get_or text at 0) ≡ Some escape → IsWritten old copied into at text → IsWritten old (at + 1) after (at + 1) text
run_ends old into before after text escape copied at le there copy escapes is so_far =
    let byte = get_or text at 0 in
    let more : ◌≡◌ {A = ℕ} (at + 1 + 0) (at + 1) = omega arith in
    let none : drop (at + 1) (take (at + 1) text) ≡ [] =
    ap (λ n. drop (at + 1) (take n text)) (sym more) ∙ drop-take (at + 1) 0 text in
    ap (λ t. after ++ t) none
    ∙ append-nil after
    ∙ escapes
    ∙ ap (λ t. t ++ escape) (copy ∙ so_far)
    ∙ append_assoc old (escaped (take at text)) escape
    ∙ ap (λ w. old ++ (escaped (take at text) ++ w)) (sym (ap (λ o. unwrap_or o (byte ∷ [])) is))
    ∙ ap (λ t. old ++ t) (sym (one_more text at there))

-- the last run ends with the text
pub run_is_last : (old into text : List ℕ) (copied at : ℕ) → length text ≤ at → IsWritten old copied into at text
    → into ++ drop copied text ≡ old ++ escaped text
run_is_last old into text copied at past so_far =
    ap (λ t. into ++ drop copied t) (sym (take_all at text past)) ∙ so_far ∙ ap (λ t. old ++ escaped t) (take_all at text past)

-- a run, cut out of the text
pub run_of : (text : List ℕ) (copied at : ℕ) → copied ≤ at → take (at - copied) (drop copied text) ≡ drop copied (take at text)
run_of text copied at le =
    let sum : copied + (at - copied) ≡ at = omega arith in
    sym (drop-take copied (at - copied) text) ∙ ap (λ n. drop copied (take n text)) sum
