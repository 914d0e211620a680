use Rattle.std.proofs.Common.{◌≡◌, Bool, ap, sym, ◌∙◌, refl, lit<, rules, tests}
use Rattle.std.specs.Prelude.{◌==◌, not, ◌&&◌}
use Rattle.std.specs.List.{list_any, list_all, slice_split}
use Rattle.std.proofs.lemmas.Iterator.Search.{all_from_yields_List}
use Rattle.std.proofs.lemmas.Iterator.Splits.{YieldsList-from_str_split}
use Rattle.session_load.specs.Names.{is_segment}
use Rattle.session_load.proofs.Inside.{judged}
use Rattle.session_load.proofs.file_name.is_inside.Goals as goal

pub returns-then-not-contains : goal.returns-then-not-contains
returns-then-not-contains c =
    let zero : c.contains.result ≡ list_any (λ b. b == 0) c.args.name.now = c.contains.ensures.value ∙ ap (list_any (λ b. b == 0)) c.as_bytes.ensures.value in
    let segments : c.all.result ≡ list_all is_segment (slice_split (λ b. b == 47) c.args.name.now) =
    all_from_yields_List is_segment _ _ c.all.result c.all.ensures.ran
    (YieldsList-from_str_split 47 c.args.name.now (lit< tt) (c.split.ensures.text ∙ c.as_str.ensures) c.split.ensures.has_more c.split.ensures.pattern)
    (λ x b q k. search (rules, tests)) in
    ap (λ z. not z && c.all.result) (sym c.if-not-contains.true)
    ∙ judged c.args.name.now c.contains.result c.all.result (rw (← c.as_bytes.ensures.value) c.as_bytes.ensures.utf8) zero segments

pub returns-else-not-contains : goal.returns-else-not-contains
returns-else-not-contains c =
    let zero : c.contains.result ≡ list_any (λ b. b == 0) c.args.name.now = c.contains.ensures.value ∙ ap (list_any (λ b. b == 0)) c.as_bytes.ensures.value in
    let segments = λ (b : Bool). not b && list_all is_segment (slice_split (λ b. b == 47) c.args.name.now) in
    ap not c.if-not-contains.false ∙ ap segments (sym c.if-not-contains.false)
    ∙ judged c.args.name.now c.contains.result _ (rw (← c.as_bytes.ensures.value) c.as_bytes.ensures.utf8) zero refl
