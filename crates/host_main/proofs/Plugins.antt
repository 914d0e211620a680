-- The plug-ins of some rows, up to the first that breaks a rule, or all of them.
use Rattle.std.proofs.Common.{◌≡◌, ℕ, suc, ◌<◌, List, ◌∷◌, ◌++◌, length, get_or, take, drop, Result, Ok, Err, sym, ◌∙◌, ap, subst, arith, length-append}
use Rattle.std.specs.Prelude.{All, IfErr, IsErrAnd}
use Rattle.std.proofs.lemmas.List.{take-append-drop}
use Rattle.std.proofs.lemmas.List.Elements.{All-get_or, All-same}
use Rattle.std.proofs.Math.Seq.{drop-cons, get_or-append_seam}
use Rattle.triple_store.specs.declared.term.Term.TheVariants.{Iri}
use Rattle.triple_store.specs.declared.term.Triple.{Triple}
use Rattle.plugin_decl.specs.Rules.{IsFirstBroken}
use Rattle.plugin_decl.specs.declared.declaration.DeclFault.{DeclFault}
use Rattle.plugin_decl.proofs.Laws.{not_both}
use Rattle.plugin_list.specs.Plugins.{plugins_of}
use Rattle.session_load.specs.declared.fault.LoadFault.TheVariants.{Missing, ReadFailed, TooLong, Turtle, NoMemory}
use Rattle.host_main.specs.Listing.{check_block, IsDeclared, AreDeclared, IsUndeclared}
use Rattle.host_main.specs.PluginRefusals.{IsUriRefusal, IsPluginRefusal}
use Rattle.host_main.specs.declared.checking.refusal.CheckRefusal.{CheckRefusal}
use Rattle.host_main.specs.declared.checking.refusal.CheckRefusal.TheVariants.{Load, Undeclared, WriteFailed}

-- what stands before a place, the element there, and what stands after it
parted : {X : Type 0} (xs : List X) (i : ℕ) (x : X) → i < length xs → x ≡ get_or xs i x → xs ≡ take i xs ++ x ∷ drop (suc i) xs
parted xs i x there is =
    sym (take-append-drop i xs) ∙ ap (λ back. take i xs ++ back) (drop-cons xs i x there ∙ ap (λ y. y ∷ drop (suc i) xs) (sym is))

-- the plug-ins before this one break no rule, and it breaks this one
undeclared_at : (rows : List Triple) (uris : List (List ℕ)) (i : ℕ) (uri : List ℕ) (fault : DeclFault) → uris ≡ plugins_of rows
    → i < length uris → uri ≡ get_or uris i uri → All (IsDeclared rows) (take i uris) → IsFirstBroken rows (Iri uri) check_block fault
    → IsUndeclared rows uri fault
undeclared_at rows uris i uri fault same there is declared broken = record {
  front = take i uris;
  back = drop (suc i) uris;
  order = sym same ∙ parted uris i uri there is;
  declared = declared;
  broken = broken;
}

-- a URI that is refused is that of a plug-in
pub refused_at : (rows : List Triple) (uris : List (List ℕ)) (i : ℕ) (uri : List ℕ) (refusal : CheckRefusal) → uris ≡ plugins_of rows
    → i < length uris → uri ≡ get_or uris i uri → All (IsDeclared rows) (take i uris) → IsUriRefusal rows uri refusal
    → IsPluginRefusal rows refusal
refused_at rows uris i uri (Load NoMemory) same there is declared why = tt
refused_at rows uris i uri (Load (Missing path)) same there is declared why = absurd why
refused_at rows uris i uri (Load (ReadFailed path)) same there is declared why = absurd why
refused_at rows uris i uri (Load (TooLong path)) same there is declared why = absurd why
refused_at rows uris i uri (Load (Turtle path fault)) same there is declared why = absurd why
refused_at rows uris i uri (Undeclared named rule) same there is declared why =
    let found = undeclared_at rows uris i uri why.1.0 same there is declared why.1.1 in
    (why.1.0, subst (λ (text : List ℕ). IsUndeclared rows text why.1.0) (sym why.0) found, why.1.2)
refused_at rows uris i uri WriteFailed same there is declared why = absurd why

-- a refusal that is passed on
pub passed_on : {A : Type 0} (rows : List Triple) (r : Result A CheckRefusal) (refusal : CheckRefusal) → IsErrAnd r (λ e. e ≡ refusal)
    → IsPluginRefusal rows refusal → IfErr r (IsPluginRefusal rows)
passed_on rows (Ok done) refusal is why = absurd is
passed_on rows (Err e) refusal is why = subst (IsPluginRefusal rows) (sym is) why

-- all plug-ins break no rule, or one does
pub declared_or_not : (rows : List Triple) (uri : List ℕ) (fault : DeclFault) → AreDeclared rows → IsUndeclared rows uri fault → ⊥
declared_or_not rows uri fault all x =
    let uris = x.front ++ uri ∷ x.back in
    let each : All (IsDeclared rows) uris = All-same (IsDeclared rows) uris (plugins_of rows) (sym x.order) all in
    let here : IsDeclared rows (get_or uris (length x.front) uri) =
    All-get_or (IsDeclared rows) uris (length x.front) uri (rw length-append (omega arith)) each in
    let kept : IsDeclared rows uri = subst (IsDeclared rows) (get_or-append_seam x.front uri x.back uri) here in
    not_both rows (Iri uri) check_block fault kept x.broken
