-- A session that is ready to be played.
use Rattle.std.specs.Prelude.{◌≡◌, All, length}
use Rattle.plugin_decl.specs.Valid as decl
use Rattle.session_script.specs.Valid.{IsValid}
use Rattle.graph_order.specs.Answer.{IsPlanOf}
use Rattle.graph_order.specs.declared.setup.Setup.{Setup}

-- the session keeps its limits, each instance has a declaration that keeps its own, no line breaks a rule of these, and the plan is the
-- one of its cables
pub record IsReady (setup : Setup) : Type 0 where
  pub session : IsValid setup.session
  pub all : length setup.decls ≡ length setup.session.insts
  pub decls : All decl.IsValid setup.decls
  pub plan : IsPlanOf setup.session setup.decls setup.plan
