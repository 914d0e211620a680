use Rattle.std.proofs.Common.{◌≡◌, take, length, All, Ok}
use Rattle.plugin_decl.specs.Valid.{IsValid}
use Rattle.session_setup.specs.Declaring.{DeclaresAll}
use Rattle.session_setup.proofs.declaring.add_declarations.Given as goal

-- the declarations of the instances so far
abbrev pub invariant-loop-inst : goal.invariant-loop-inst
invariant-loop-inst g l =
    DeclaresAll (g.C.Codes.meaning l.codes).text l.bundles l.block (take l.inst-index l.insts) (Ok l.decls)
    × (length l.decls ≡ l.inst-index)
    × All IsValid l.decls
