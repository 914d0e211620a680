use Rattle.patch_control.proofs.Gathered.{value_added, body_added}
use Rattle.patch_control.proofs.found.Found.add.Goals as goal

pub returns-in-19 : goal.returns-in-19
returns-in-19 c = λ all rest context v spells gathers.
    value_added all rest c.args.key context v c.args.self.now gathers c.add-in-19.new.self _ c.in-19.is spells.bytes_are
    (record { item_is = c.add-in-19.ensures.item; stands = c.add-in-19.ensures.stands; again = c.add-in-19.ensures.again })

pub returns-in-21 : goal.returns-in-21
returns-in-21 c = λ all rest context v spells gathers.
    body_added all rest c.args.key context v c.args.self.now gathers c.add-in-21.new.self c.an_object.result c.in-21.is (c.an_object.ensures v spells)
    (record { item_is = c.add-in-21.ensures.item; stands = c.add-in-21.ensures.stands; again = c.add-in-21.ensures.again })
