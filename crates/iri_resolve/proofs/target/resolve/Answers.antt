use Rattle.std.proofs.Common.{◌≡◌, ℕ, List, IsUtf8, ◌∙◌, sym, subst}
use Rattle.iri_resolve.specs.Target.{resolved}
use Rattle.iri_resolve.proofs.Utf8Target.{IsUtf8-resolved}
use Rattle.iri_resolve.proofs.target.resolve.Goals as goal

pub unreachable-requires : goal.unreachable-requires
unreachable-requires c =
    let same : c.deref.result.now ≡ resolved c.as_bytes-base.result.now c.args.reference.now = c.deref.ensures.value ∙ c.in-Ok-compose.ensures in
    let P : List ℕ → Type 0 = λ bytes. IsUtf8 bytes in
    let refused = rw c.in-Err-NotUtf8.field-0-is at c.in-Err-NotUtf8.ensures.err in
    refused.0 (subst P (sym same) (IsUtf8-resolved _ _ c.as_bytes-base.ensures.utf8 c.in-Ok.ensures.utf8))
