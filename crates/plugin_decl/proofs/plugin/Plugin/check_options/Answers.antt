use Rattle.std.proofs.Common.{inr, sym, subst}
use Rattle.std.specs.Prelude.{not}
use Rattle.plugin_decl.specs.declared.declaration.DeclFault.TheVariants.{RequiredOption}
use Rattle.vocabulary.specs.declared.word.Word.TheVariants.{OptionsRequiredOption}
use Rattle.plugin_decl.specs.Features.{is_given}
use Rattle.plugin_decl.specs.Objects.{objects_of}
use Rattle.plugin_decl.specs.Rules.{IsFirstBroken}
use Rattle.plugin_decl.specs.Rules.Rule.{required_option}
use Rattle.plugin_decl.proofs.Checking.{kept-first}
use Rattle.plugin_decl.proofs.Places.{find-none}
use Rattle.plugin_decl.proofs.PortTests.{test-option, among-first}
use Rattle.plugin_decl.proofs.plugin.Plugin.check_options.Goals as goal

pub returns-in_ok-copy_of-in-Some : goal.returns-in_ok-copy_of-in-Some
returns-in_ok-copy_of-in-Some c =
    let rows = c.args.self.now.store.now in
    let plugin = c.args.self.now.term.now in
    let block = c.args.self.now.block in
    inr (subst (λ term. IsFirstBroken rows plugin block (RequiredOption term)) (sym c.in_ok-copy_of-in-Some.ensures)
    (among-first rows plugin block required_option (λ term. not (is_given term)) (objects_of rows plugin OptionsRequiredOption) c.in-Some.option.now (test-option rows plugin block) c.requires (sym c.in-Some.ensures)))

pub returns-in-None : goal.returns-in-None
returns-in-None c =
    let rows = c.args.self.now.store.now in
    let plugin = c.args.self.now.term.now in
    let block = c.args.self.now.block in
    kept-first rows plugin block required_option _ (test-option rows plugin block) c.requires (find-none (λ term. not (is_given term)) (objects_of rows plugin OptionsRequiredOption) (sym c.in-None.ensures))
