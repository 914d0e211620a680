use Rattle.std.proofs.Common.{subst}
use Rattle.session_generate.specs.Generated.{WritesAll}
use Rattle.session_generate.proofs.generate.Goals as goal

pub returns : goal.returns
returns c = record {
  last = c.push_all.new.self;
  lines = subst (λ it. WritesAll it c.push_all.new.self) c.new-script.ensures c.in_ok-push_all.ensures;
  is = c.into_text.ensures;
}
