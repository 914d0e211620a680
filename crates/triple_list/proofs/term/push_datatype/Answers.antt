use Rattle.std.proofs.Common.{◌≡◌, ◌∙◌, sym, subst, false, append_assoc, codes}
use Rattle.std.specs.Str.{bytes_eq}
use Rattle.vocabulary.specs.Words.{iri_of}
use Rattle.vocabulary.specs.declared.word.Word.TheVariants.{XsdString}
use Rattle.triple_list.specs.Listing.{iri_text}
use Rattle.triple_list.proofs.Datatypes.{is_written}
use Rattle.triple_list.proofs.term.push_datatype.Goals as goal

pub returns : goal.returns
returns c =
    let other : bytes_eq c.as_str.result.now (iri_of XsdString) ≡ false =
    subst (λ text. bytes_eq c.as_str.result.now text ≡ false) c.iri.ensures (sym c.eq.ensures ∙ c.if-eq.false) in
    let here : bytes_eq c.args.datatype.now (iri_of XsdString) ≡ false = rw (← c.as_str.ensures) other in
    rw (is_written _ here, ← append_assoc c.args.into.now (codes "^^") (iri_text c.args.datatype.now), ← c.in_ok-push_str.ensures.ok) c.push_iri.ensures
