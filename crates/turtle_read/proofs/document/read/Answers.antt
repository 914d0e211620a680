use Rattle.std.proofs.Common.{ℕ, List, subst}
use Rattle.turtle_document.specs.Meaning.{beginning}
use Rattle.turtle_read.specs.Answers.{ReadsDocument}
use Rattle.turtle_read.proofs.Told.{told, few_left}
use Rattle.turtle_read.proofs.document.read.Goals as goal

pub returns-in-Ok-clause-told : goal.returns-in-Ok-clause-told
returns-in-Ok-clause-told c =
    let P : List ℕ → Type 0 = λ bytes. ReadsDocument (beginning c.args.base.now c.args.store.now) bytes c.read_text.result c.read_text.new.store in
    told c.args.base.now c.args.store.now c.args.bytes.now c.read_text.result c.read_text.new.store (subst P c.in-Ok.ensures.cases.0 c.read_text.ensures)

pub returns-in-Ok-clause-few : goal.returns-in-Ok-clause-few
returns-in-Ok-clause-few c =
    few_left c.args.base.now c.args.store.now _ c.read_text.result c.read_text.new.store c.read_text.ensures c.requires.few
