-- `into_loose` tests the pointer, and takes the box if there is one.
use mathlib.Core.Path.{refl, sym, subst}
use mathlib.Core.List.{List, [], ◌∷◌, ◌++◌}
use seplogic.Ra.Ura.{Ura}
use mir.Val.{Val, vcons, vnil, has_ty, WT}
use lib.Dec.{T, lit<}
use denote.Param.{layout}
use base.Logic.{SProp, ent, emp, id⊢}
use base.Fml.{ftrue, fsep}
use prog.Memory.{Memory}
use prog.Routine.{Routine}
use prog.Wp.{WpFn, Tables}
use types.Logic.{Logic}
use contract.Monad.{Fun}
use contract.Running.{tables, tables_of}
use sound.WpLaws.{WpFn-mono}
use types.Kit.{Item, ‵, raw, ◌⊛◌, ◌$◌, ◌∵◌, !, qed, by, move, keep, drop, use0, use1, at_ret, join, split, rewrite, fsplit, fjoin, suffices, done}
use types.Run.{stop, fld, lit, of_opd, bin, first, branches, exec, no_more, and_then, returns, enter}
use types.Match.{live}
use types.Part.{agg, sub, whole}
use types.ByLocal.{alloc_all, pass_all, free_all, look_at, get, get_in, sets, sets_last, env}
use denote.Exit.{yes}
use denote.RawPtr.{block_ptr, tests_null}
use denote.Signature.{type_at}
use denote.Steps.{nothing}
use denote.Triple.Spec.{triple_of}
use denote.Triple.Table.{entered}
use denote.Triple.Walked.{says, Stays, stay_dropped, walk_of, ends_at, Goes-dropped, walk_Meets}
use Rattle.std.specs.Prelude.{Some, None}
use Rattle.std.proofs.option.Made.{Some-of, none_of}
use Rattle.std_alloc.proofs.ResultValues.{and_tt}
use Rattle.std_alloc.proofs.BoxSteps.Form.{D, word, box_typed}
use Rattle.std_alloc.proofs.BoxSteps.Steps.{box_in}
use Rattle.gl_c.proofs.SessionSteps.{E, Lr, FromLane as From, lane_out, null_word, null_typed}
use Rattle.gl_c.specs.contracts.session.Session as Lane
use Rattle.gl_c.specs.contracts.session.Session.into_loose as F
use Rattle.gl_c.specs.contracts.session.Session.into_loose.Key.{name as #self}
use Rattle.gl_c.proofs.session.Session.into_loose.Statement as stated
use Rattle.gl_c.proofs.session.Session.into_loose.Code as code

abbrev stayed : Stays (F.ended).signature.params (F.ended).kept
stayed = (stay_dropped From yes, tt)

module _ {M : Type 1} {𝓤 : Ura M} (𝓛 : Logic 𝓤) (at_mem : Memory → SProp 𝓤) (run : Routine → Fun 𝓤) (𝓣 : Tables 𝓤 𝓛.H) where
  open 𝓛 use {H}

  walk : (z : (walk_of 𝓛 F.ended stayed (F.clauses 𝓛 at_mem run)).Ghost)
      → ent 𝓤 ((walk_of 𝓛 F.ended stayed (F.clauses 𝓛 at_mem run)).pre z) (WpFn 𝓤 H 𝓣.C 𝓣.Λ code.function (z.0.4.0 ++ []) ((walk_of 𝓛 F.ended stayed (F.clauses 𝓛 at_mem run)).post z))
  walk z =
      let Post = (walk_of 𝓛 F.ended stayed (F.clauses 𝓛 at_mem run)).post z in
      let d = z.0.3.0 in
      let Out = type_at (F.signature).result tt in
      qed 𝓛 ((‵ ftrue ⊛ ‵ (fsep ((Lane.the_row).own_val d z.0.4.0) ftrue)) ∷ raw (emp 𝓤) ∷ []) ∵ split ! $ drop ! $ fsplit ! $
      lane_out ! d z.0.4.0
      (λ hv en ws fa. drop ! $ drop ! $ drop ! $
      by ! (subst (λ (us : List Val). ent 𝓤 (types.Kit.⋆ 𝓛 []) (WpFn 𝓤 H 𝓣.C 𝓣.Λ code.function (us ++ []) Post)) (sym ws)
      (qed 𝓛 [] ∵ enter ! 𝓣.C 𝓣.Λ code.function (null_word hv ∷ []) _ $ alloc_all ! (λ ls. pass_all ! refl (null_typed hv fa, tt) $
      sets ! (of_opd ! (get_in ! (fld ! refl (stop !)) (sub ! 0 refl (whole !)))) refl (tt, record { fits = lit< tt }) $ sets ! (of_opd ! (get_in ! (fld ! refl (stop !)) (sub ! 1 refl (whole !)))) refl fa $
      sets ! (bin ! (get ! refl) (lit ! tt) tt) refl (tt, tt) $ first ! $ branches ! (get ! refl)
      (λ _. sets_last ! (agg ! (and_then ! (lit ! tt) (no_more !))) refl (tt, (record { fits = lit< tt }, tt)) $
      exec ! 𝓣.C 𝓣.Λ (env code.Mir.locals ls) code.Mir.t-5 (at_ret _ Post) $ sets ! (of_opd ! (get ! refl)) refl (tt, (record { fits = lit< tt }, tt)) $
      returns ! (look_at ! 0 refl) $ free_all ! refl $
      suffices ! _ (ends_at 𝓛 F.ended stayed (F.clauses 𝓛 at_mem run) z (live 0 vnil) None (tt, tt) (tt, tt)) $ says ! (sym en) $
      use0 𝓛 (‵ (Out.own_val None (live 0 vnil ∷ []))) (none_of 𝓛 Lr) $
      nothing ! $ nothing ! $ fjoin ! $ join ! $ nothing ! $ join ! $ done !)
      (λ wrong. absurd wrong)))))
      (λ x b o hv ex ws test fa.
      let v : D E = record { ptr = block_ptr b o; alloc = d.alloc; value = x } in
      let w = word E hv b o in
      let made : Lr.Denot = record { at = block_ptr b o; alloc = d.alloc; value = x } in
      let typed = box_typed E hv b o fa in
      let v₁ : Val = live 1 (vcons w vnil) in
      let good : T (has_ty (layout Out) v₁) × WT v₁ = (and_tt _ typed.0, (record { fits = lit< tt }, (typed.1, tt))) in
      box_in E ! v b o x refl refl $ use1 𝓛 (‵ (Lr.own_val made (w ∷ []))) (id⊢ 𝓤 _) $ move ! (1 ∷ 2 ∷ []) $ drop ! $ drop ! $
      let Γ : List (Item 𝓤) = ‵ (Lr.own_val made (w ∷ [])) ∷ [] in
      by ! (subst (λ (us : List Val). ent 𝓤 (types.Kit.⋆ 𝓛 Γ) (WpFn 𝓤 H 𝓣.C 𝓣.Λ code.function (us ++ []) Post)) (sym ws)
      (qed 𝓛 Γ ∵ enter ! 𝓣.C 𝓣.Λ code.function (w ∷ []) _ $ alloc_all ! (λ ls. pass_all ! refl (typed, tt) $
      sets ! (of_opd ! (get_in ! (fld ! refl (stop !)) (sub ! 0 refl (whole !)))) refl (tt, tt) $ sets ! (of_opd ! (get_in ! (fld ! refl (stop !)) (sub ! 1 refl (whole !)))) refl fa $
      sets ! (bin ! (get ! refl) (lit ! tt) (tests_null (block_ptr b o) test)) refl (tt, tt) $ first ! $ branches ! (get ! refl) (λ wrong. absurd wrong)
      (λ _. sets ! (of_opd ! (get ! refl)) refl (tt, tt) $ sets ! (agg ! (and_then ! (get ! refl) (and_then ! (get ! refl) (no_more !)))) refl typed $
      sets_last ! (agg ! (and_then ! (lit ! tt) (and_then ! (get ! refl) (no_more !)))) refl good $
      exec ! 𝓣.C 𝓣.Λ (env code.Mir.locals ls) code.Mir.t-5 (at_ret _ Post) $ sets ! (of_opd ! (get ! refl)) refl good $
      use1 𝓛 (‵ (Out.own_val (Some made) (v₁ ∷ []))) (Some-of 𝓛 Lr made w) $
      returns ! (look_at ! 0 refl) $ free_all ! refl $
      suffices ! _ (ends_at 𝓛 F.ended stayed (F.clauses 𝓛 at_mem run) z v₁ (Some made) (tt, tt) (tt, tt)) $ says ! (sym ex) $
      nothing ! $ nothing ! $ fjoin ! $ join ! $ nothing ! $ join ! $ done !)))))

pub into_loose_spec : {M : Type 1} → stated.statement M
unfolding tables_of
into_loose_spec 𝓤 𝓛 𝓜 𝓡 wired =
    let 𝓣 : Tables 𝓤 𝓛.H = tables_of 𝓤 𝓛.H 𝓜 (tables 𝓤 𝓛.H 𝓜 𝓡 𝓡.env) in
    entered 𝓤 𝓛.H (triple_of 𝓛 F.signature (F.spec 𝓛 𝓜.mem 𝓡.returns)) 𝓣.C 𝓣.Λ #self code.function (code.unfolded 𝓤 𝓛.H 𝓜 𝓡 wired)
    (walk_Meets 𝓛 F.ended stayed (Goes-dropped 𝓛 0 From yes (λ κs x f. refl), tt) (F.clauses 𝓛 𝓜.mem 𝓡.returns) (WpFn 𝓤 𝓛.H 𝓣.C 𝓣.Λ code.function) (WpFn-mono 𝓤 𝓛.H 𝓛.laws 𝓣 code.function)
    (walk 𝓛 𝓜.mem 𝓡.returns 𝓣))
