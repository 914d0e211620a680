use Rattle.std.proofs.Common.{◌≡◌, Some, cond, length, sym, ap, subst, ◌∙◌}
use Rattle.std.specs.BTreeMap.{get_by_text}
use Rattle.std.specs.List.{position}
use Rattle.std.specs.Str.{bytes_eq}
use Rattle.std.specs.String.{string_bytes}
use Rattle.std.proofs.lemmas.Map.Text.{btree_map_updates_text}
use Rattle.session_script.specs.declared.session.Inst.{Inst}
use Rattle.session_script.specs.Places.{place}
use Rattle.session_script.proofs.Rosters.{found_more}
use Rattle.session_script.proofs.roster.Roster.enter.Goals as goal

pub invariant_of-self-in-Ok : goal.invariant_of-self-in-Ok
invariant_of-self-in-Ok c = λ name.
    let insts = c.self.inside.insts in
    let key : string_bytes c.args.name ≡ c.args.inst.name = c.requires.named in
    let set = btree_map_updates_text (string_bytes c.args.name) c.self.inside.numbers c.insert.new.self (Some c.len-number.result) c.in-Ok.ensures.updates name in
    let step : get_by_text c.insert.new.self name ≡ cond (bytes_eq c.args.inst.name name) (Some (length insts)) (position (λ (one : Inst). bytes_eq one.name name) insts) =
    set ∙ ap (λ key. cond (bytes_eq key name) (Some c.len-number.result) (get_by_text c.self.inside.numbers name)) key
    ∙ ap (λ n. cond (bytes_eq c.args.inst.name name) (Some n) (get_by_text c.self.inside.numbers name)) c.len-number.ensures
    ∙ ap (λ found. cond (bytes_eq c.args.inst.name name) (Some (length insts)) found) (c.self.invariant name) in
    let none : place insts c.args.inst.name ≡ length insts = subst (λ all. place all c.args.inst.name ≡ length all) (sym c.self.view_is) c.requires.new in
    found_more insts c.args.inst name (get_by_text c.insert.new.self name) none step
    ∙ ap (λ all. position (λ (one : Inst). bytes_eq one.name name) all) (sym c.in_ok-push.ensures.ok)
