use Rattle.std.proofs.Common.{◌++◌, [], length, ap, to_z, of_z, arith}
use Rattle.std.specs.Int.{w32}
use Rattle.atom_core.specs.Value.{plain, int}
use Rattle.atom_core.specs.Spelling.{atom_of}
use Rattle.atom_forge.proofs.Pieces.{framed-length, laid-above}
use Rattle.atom_core.specs.Spelling.{kind_of, body_of}
use Rattle.atom_forge.specs.Forged.{Forged, laid}
use Rattle.atom_tests.proofs.tests.forging.int_again.Goals as goal

pub view-requires-clause-one : goal.view-requires-clause-one
view-requires-clause-one c =
    let number = to_z w32 (of_z w32 c.args.number) in
    let text = atom_of (plain (int number)) in
    let long = framed-length (kind_of (plain (int number))) (body_of (plain (int number))) in
    let put = ap (λ (f : Forged). length f.bytes) c.in-Ok.ensures.1 in
    let alone = ap (λ (f : Forged). length (f.bytes ++ laid f.levels text)) c.clear.ensures in
    omega (arith, put, alone, laid-above [] text, long)
