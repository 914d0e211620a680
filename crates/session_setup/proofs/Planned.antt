-- The plan's faults.
use Rattle.std.proofs.Common.{◌≡◌, ℕ, ◌+◌, ◌<◌, ◌≤◌, List, [], ◌∷◌, ◌++◌, length, take, get_or, All, Option, Err, refl, sym, ◌∙◌, ap, subst, inl, inr, append_assoc, append-nil}
use Rattle.std.proofs.lemmas.List.{take_more}
use Rattle.std.proofs.lemmas.Option.{slice_get_past}
use Rattle.std.proofs.lemmas.List.Elements.{filter_map-append}
use Rattle.std.specs.List.{filter_map, cons_option}
use Rattle.std.specs.Option.{option_map}
use Rattle.lv_outside.specs.World.{VaultState}
use Rattle.plugin_decl.specs.declared.declaration.Decl.{Decl}
use Rattle.plugin_decl.specs.Valid as decl
use Rattle.session_script.specs.declared.session.Inst.{Inst}
use Rattle.session_script.specs.declared.session.Session.{Session}
use Rattle.session_script.specs.Valid.{IsValid}
use Rattle.graph_order.specs.declared.fault.GraphFault.{GraphFault}
use Rattle.graph_order.specs.declared.plan.Plan.{Plan}
use Rattle.graph_order.specs.Answer as answer
use Rattle.session_setup.specs.declared.fault.SetupFault.{SetupFault}
use Rattle.session_setup.specs.declared.fault.SetupFault.TheVariants.{Load, Script, Undeclared, Graph}
use Rattle.session_setup.specs.Faults.{IsCause, IsCounted}
use Rattle.session_setup.specs.Planning.{name_at, Plans, TellsOfGraph}
use Rattle.session_setup.specs.Loading.{loaded}
use Rattle.session_setup.specs.Loaded.{IsSound}

pub planned-cause : (session : Session) (decls : List Decl) (fault : GraphFault) (told : SetupFault) → answer.IsCause session decls fault
    → TellsOfGraph session.insts fault told → IsCause (Plans session decls) told
planned-cause session decls fault told cause (inl e) = inl e
planned-cause session decls fault told (inl none) (inr h) = absurd (h.0 none)
planned-cause session decls fault told (inr first) (inr h) =
    inr (subst (λ one. Plans session decls (Err one)) (sym h.1) (first, refl))

pub planned-counted : (v v' : VaultState) (session : Session) (decls : List Decl) (fault : SetupFault) → Plans session decls (Err fault) → IsCounted v v' fault
planned-counted v v' session decls (Graph why names) h = tt
planned-counted v v' session decls (Load why) h = absurd h
planned-counted v v' session decls (Script why) h = absurd h
planned-counted v v' session decls (Undeclared uri why) h = absurd h

-- a session, its declarations and its plan are ready to be played
pub sound : (session : Session) (decls : List Decl) (plan : Plan) → IsValid session → length decls ≡ length session.insts → All decl.IsValid decls
    → answer.IsPlanOf session decls plan → IsSound (loaded session decls plan)
sound session decls plan valid all each planned = λ states. record { session = valid; all = all; decls = each; plan = planned }

-- ---- the names of a cycle

pub no-name : (insts : List Inst) (inst : ℕ) (names : List (List ℕ)) → length insts ≤ inst → names ≡ names ++ filter_map (name_at insts) (inst ∷ [])
no-name insts inst names past =
    sym (append-nil names) ∙ ap (λ (found : Option Inst). names ++ cons_option (option_map (λ (one : Inst). one.name) found) []) (sym (slice_get_past insts inst past))

pub names-more : (f : ℕ → Option (List ℕ)) (cycle : List ℕ) (k : ℕ) (before names more : List (List ℕ)) → k < length cycle
    → names ≡ before ++ filter_map f (take k cycle) → more ≡ names ++ filter_map f (get_or cycle k 0 ∷ []) → more ≡ before ++ filter_map f (take (k + 1) cycle)
names-more f cycle k before names more within so here =
    here
    ∙ ap (λ ns. ns ++ filter_map f (get_or cycle k 0 ∷ [])) so
    ∙ append_assoc before (filter_map f (take k cycle)) (filter_map f (get_or cycle k 0 ∷ []))
    ∙ ap (λ ns. before ++ ns) (sym (filter_map-append f (take k cycle) (get_or cycle k 0 ∷ [])))
    ∙ ap (λ front. before ++ filter_map f front) (sym (take_more cycle k 0 within))
