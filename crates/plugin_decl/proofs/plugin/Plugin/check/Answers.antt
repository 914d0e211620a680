use Rattle.std.proofs.Common.{inr, sym, subst}
use Rattle.plugin_decl.specs.Rules.{IsFirstBroken}
use Rattle.plugin_decl.specs.Checks.{rule_of, is_broken_in}
use Rattle.plugin_decl.proofs.Checking.{broken-first, kept-first}
use Rattle.plugin_decl.proofs.PortTests.{test-port, fault-port}
use Rattle.plugin_decl.proofs.Places.{position-first}
use Rattle.plugin_decl.proofs.plugin.Plugin.check.Goals as goal

pub returns-in-Some : goal.returns-in-Some
returns-in-Some c =
    let rows = c.args.self.now.store.now in
    let plugin = c.args.self.now.term.now in
    let block = c.args.self.now.block in
    let first = position-first (is_broken_in c.args.rule) c.args.breaches.now _ c.in-Some.ensures.value in
    inr (subst (IsFirstBroken rows plugin block) (sym c.fault.ensures)
    (fault-port rows plugin block c.args.rule c.in-Some.index
    (broken-first rows plugin block (rule_of c.args.rule) _ c.in-Some.index (test-port rows plugin block c.args.rule c.args.breaches.now c.requires.breaches) c.requires.kept first)))

pub returns-in-None : goal.returns-in-None
returns-in-None c =
    let rows = c.args.self.now.store.now in
    let plugin = c.args.self.now.term.now in
    let block = c.args.self.now.block in
    kept-first rows plugin block (rule_of c.args.rule) _ (test-port rows plugin block c.args.rule c.args.breaches.now c.requires.breaches) c.requires.kept
    (position-first (is_broken_in c.args.rule) c.args.breaches.now _ c.in-None.ensures.value)
