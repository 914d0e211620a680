use Rattle.plugin_decl.proofs.Answers.{checked-iri, few-iri, kept-of, err-of, valid-of, declared-of, broken-of}
use Rattle.plugin_decl.proofs.reader.declare.Goals as goal

pub returns-clause-kept : goal.returns-clause-kept
returns-clause-kept c =
    kept-of c.args.store.now c.args.uri.now c.args.block c.declare.result
    (checked-iri c.args.store.now c.args.uri.now c.args.block c.in_ok-term.term c.declare.result c.in_ok-term.ensures c.declare.ensures.checked)

pub returns-clause-err : goal.returns-clause-err
returns-clause-err c =
    err-of c.args.store.now c.args.uri.now c.args.block c.declare.result
    (checked-iri c.args.store.now c.args.uri.now c.args.block c.in_ok-term.term c.declare.result c.in_ok-term.ensures c.declare.ensures.checked)

pub returns-clause-valid : goal.returns-clause-valid
returns-clause-valid c =
    valid-of c.args.store.now c.args.uri.now c.args.block c.declare.result
    (checked-iri c.args.store.now c.args.uri.now c.args.block c.in_ok-term.term c.declare.result c.in_ok-term.ensures c.declare.ensures.checked)
    c.declare.ensures.value
    (few-iri c.args.store.now c.args.uri.now c.in_ok-term.term c.declare.result c.in_ok-term.ensures c.declare.ensures.few)

pub returns-clause-declared : goal.returns-clause-declared
returns-clause-declared c =
    declared-of c.args.store.now c.args.uri.now c.args.block c.declare.result
    (checked-iri c.args.store.now c.args.uri.now c.args.block c.in_ok-term.term c.declare.result c.in_ok-term.ensures c.declare.ensures.checked)
    c.declare.ensures.value

pub returns-clause-broken : goal.returns-clause-broken
returns-clause-broken c =
    broken-of c.args.store.now c.args.uri.now c.args.block c.declare.result
    (checked-iri c.args.store.now c.args.uri.now c.args.block c.in_ok-term.term c.declare.result c.in_ok-term.ensures c.declare.ensures.checked)
