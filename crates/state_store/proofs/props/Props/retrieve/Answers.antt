use Rattle.std.proofs.Common.{◌≡◌, ℕ, ◌<◌, ◌≤◌, length, Ok, Err, sym, ap, subst, ◌∙◌, rules}
use Rattle.std.proofs.lemmas.List.Sorted.{answers_always}
use Rattle.std.specs.List.Sorted.{IsBinarySearchResult}
use Rattle.std.specs.Ordering.{nat_cmp}
use Rattle.state_store.specs.Properties.{held}
use Rattle.state_store.specs.declared.prop.Prop.{Prop}
use Rattle.state_store.proofs.Found.{retrieved}
use Rattle.state_store.proofs.props.Props.retrieve.Goals as goal

pub returns-in-Ok : goal.returns-in-Ok
returns-in-Ok c =
    let rows = c.self.inside.rows.items in
    let same : c.args.self.now ≡ rows = search rules in
    let searched = subst (λ xs. IsBinarySearchResult (λ (row : ℕ × Prop). nat_cmp row.0 c.args.key) xs (Ok c.in-Ok.place)) c.as_slice.ensures.value (c.in-Ok.ensures.position (λ row. row.0) (answers_always _ _ _ (λ f a r g called. search rules))) in
    let within = subst (λ xs. c.in-Ok.place < length xs) c.as_slice.ensures.value c.in-Ok.ensures.bound in
    sym (ap (λ xs. held xs c.args.key) same ∙ retrieved rows c.args.key (Ok c.in-Ok.place) c.self.invariant searched within c.index.result.now c.index.ensures)

pub returns-in-Err : goal.returns-in-Err
returns-in-Err c =
    let rows = c.self.inside.rows.items in
    let same : c.args.self.now ≡ rows = search rules in
    let searched = subst (λ xs. IsBinarySearchResult (λ (row : ℕ × Prop). nat_cmp row.0 c.args.key) xs (Err c.in-Err.field-0)) c.as_slice.ensures.value (c.in-Err.ensures.position (λ row. row.0) (answers_always _ _ _ (λ f a r g called. search rules))) in
    let within = subst (λ xs. c.in-Err.field-0 ≤ length xs) c.as_slice.ensures.value c.in-Err.ensures.bound in
    sym (ap (λ xs. held xs c.args.key) same ∙ retrieved rows c.args.key (Err c.in-Err.field-0) c.self.invariant searched within)
