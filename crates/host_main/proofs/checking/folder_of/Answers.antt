use Rattle.std.proofs.Common.{refl, ap, ◌∙◌, List, ℕ, Bor}
use Rattle.host_main.proofs.Folder.{stripped}
use Rattle.host_main.proofs.checking.folder_of.Goals as goal

pub returns : goal.returns
returns c =
    ap (λ (text : Bor (List ℕ)). text.now) c.unwrap_or.ensures
    ∙ stripped c.args.word.now c.strip_suffix.result c.args.word refl c.strip_suffix.ensures.cases
