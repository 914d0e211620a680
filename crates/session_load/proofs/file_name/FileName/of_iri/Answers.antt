use Rattle.std.proofs.Common.{◌≡◌, ◌∙◌, sym, ap, length, take, drop, true}
use Rattle.std.specs.Str.{bytes_eq}
use Rattle.std.proofs.lemmas.Result.{IfOk-weaker}
use Rattle.percent_encoding.specs.Percent.{percent_decode}
use Rattle.session_load.specs.Names.{inside}
use Rattle.session_load.proofs.Inside.{none-not_bare, none-elsewhere, named}
use Rattle.session_load.proofs.file_name.FileName.of_iri.Goals as goal

pub returns-then-not-is_bare : goal.returns-then-not-is_bare
returns-then-not-is_bare c = none-not_bare c.args.folder.now c.args.iri.now (sym c.is_bare.ensures ∙ c.if-not-is_bare.true)

pub returns-in-Some : goal.returns-in-Some
returns-in-Some c =
    let begins : bytes_eq (take (length c.args.folder.now) c.args.iri.now) c.args.folder.now ≡ true =
    rw (← c.as_bytes.ensures.value, ← c.as_bytes-2.ensures.value) c.in-Some.ensures.cases.0 in
    let rest : c.in-Some.rest.now ≡ drop (length c.args.folder.now) c.args.iri.now =
    c.in-Some.ensures.cases.1 ∙ (λ i. drop (length (c.as_bytes-2.ensures.value i)) (c.as_bytes.ensures.value i)) in
    IfOk-weaker c.decoded.result _ _
    (λ name e. e ∙ ap (λ r. inside (percent_decode r)) rest ∙ named c.args.folder.now c.args.iri.now (sym c.is_bare.ensures ∙ c.if-not-is_bare.false) begins)
    c.decoded.ensures

pub returns-in-None : goal.returns-in-None
returns-in-None c =
    none-elsewhere c.args.folder.now c.args.iri.now (rw (← c.as_bytes.ensures.value, ← c.as_bytes-2.ensures.value) c.in-None.ensures.cases)
