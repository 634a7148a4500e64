-- `learn` keeps the longer of two beginnings.
use Rattle.std.proofs.Common.{ℕ, List, [], ◌∷◌, refl}
use mathlib.Core.List.{IsPrefix}
use mir.Syntax.{a_type, named}
use mir.Val.{Val, vunit, vptr}
use mir.MapTy.{inst_fn}
use base.Logic.{SProp, emp}
use base.Fml.{Fml, ftrue, fsep, flft, fhide}
use types.Kit.{‵, raw, ◌⊛◌, given, ◌$◌, ◌∵◌, !, qed, by, move, keep, drop, split, fsplit, fsplit3, fjoin, fjoin3, learn, use1, use2, rewrite, feq_i}
use types.Run.{unit_lit, of_opd, returns, enter}
use types.ByLocal.{alloc_all, pass_all, free_all, look_at, sets}
use contract.Monad.{fact, fact_i}
use contract.Running.{tables}
use denote.Exit.{yes}
use denote.RattleType.{RattleType, owns}
use denote.Signature.{types_at, plain}
use denote.Builtin.{RefOf}
use denote.Ref.{mut_vals, mut_Tells, shr_vals, shr_Tells}
use denote.Memory.{hidden_shr}
use denote.Opens.{unhide}
use denote.Steps.{nothing, opens, closes}
use denote.Param.{param, layouts}
use denote.Struct.Lending.{lent_out}
use denote.Triple.Walked.{Stays, stay_dropped, stay_ref, walk_of, Goes-dropped, Goes-ref}
use Rattle.std.specs.contracts.marker.PhantomData as marker
use Rattle.atomic_table.proofs.Walks.{proved}
use Rattle.logbook.proofs.Fields.{Token, ends}
use Rattle.logbook.specs.Kept.{reached}
use Rattle.growing_list.specs.contracts.list.GrowingList as GrowingList
use Rattle.growing_list.specs.contracts.list.Front as Front
use Rattle.growing_list.proofs.Steps as steps
use Rattle.growing_list.proofs.Steps.{no_longer, longer, one_of}
use Rattle.growing_list.specs.contracts.list.Front.learn.{ended, clauses}
use Rattle.growing_list.specs.contracts.list.Front.learn.Key.{name as #self}
use Rattle.growing_list.proofs.list.Front.learn.Statement.{statement}
use Rattle.growing_list.proofs.list.Front.learn.Code as code

pub learn_spec : {M : Type 1} → statement M
learn_spec 𝓤 𝓛 𝓜 𝓡 wired T _ =
    let H = 𝓛.H in let 𝓣 = tables 𝓤 H 𝓜 𝓡 𝓡.env in let T' : RattleType = param 0 T in let cv = T'.coded in let En = ended T in let c = clauses T 𝓛 𝓜.mem 𝓡.returns in
    let inst = layouts (a_type ∷ []) (T, tt) in let fn = inst_fn inst code.function in let closed = code.unfolded 𝓤 H 𝓜 𝓡 wired (T, tt) in
    let Ws : RattleType = GrowingList.the_row T' in let Ps : RattleType = Front.the_row T' in
    let hs : Stays En.signature.params En.kept = (stay_ref (0 ∷ []) tt (plain (λ _. Ps)), (stay_dropped (RefOf (1 ∷ []) tt (plain (λ _. Ps)) (λ _. tt)) yes, tt)) in
    proved 𝓛 En hs c 𝓜 𝓡 (Goes-ref 𝓛 3 0 tt (plain (λ _. Ps)), (Goes-dropped 𝓛 3 (RefOf (1 ∷ []) tt (plain (λ _. Ps)) (λ _. tt)) yes (λ κs x f. refl), tt)) (#self inst) fn closed
    (λ κs. (mut_vals, (shr_vals, tt))) (λ κs. (mut_Tells (named 0) κs.0 (Ps), (shr_Tells (named 1) κs.1.0 (Ps), tt))) (λ κs qs bounds a gh are.
    let b : ℕ = a.0.ref_ptr.0 in let o : ℕ = a.0.ref_ptr.1 in let p : ℕ = a.1.0.ref_ptr.0 in let q : ℕ = a.1.0.ref_ptr.1 in let me = a.0.now in let other = a.1.0.now in
    let y : (walk_of 𝓛 En hs c).Ghost = ((κs, qs, bounds, a, (vptr b o ∷ [], (vptr p q ∷ [], tt))), gh) in let Post : Val → SProp 𝓤 = (walk_of 𝓛 En hs c).post y in let toks : Fml = fsep (flft κs.0 qs.0) (fsep (flft κs.1.0 qs.1.0) (fsep (flft κs.1.1.0 qs.1.1.0) ftrue)) in
    let new : Ps.Denot = record { marker = record {}; name = me.name; items = longer me.items other.items } in
    qed 𝓛 ((‵ toks ⊛ ‵ (owns (types_at En.signature.params κs) a y.0.4)) ∷ raw (fact 𝓤 _) ∷ given _ (‵ ftrue) ∷ []) ∵ keep ! (2 ∷ 0 ∷ []) $ learn ! (λ asked. drop ! $ split ! $
    fsplit ! $ move ! (1 ∷ []) $ fsplit ! $ move ! (3 ∷ []) $ fsplit ! $ fsplit3 ! $ move ! (3 ∷ []) $ fsplit ! $ fsplit ! $ keep ! (1 ∷ 4 ∷ 5 ∷ 6 ∷ 7 ∷ 8 ∷ []) $
    enter ! 𝓣.C 𝓣.Λ fn (vptr b o ∷ vptr p q ∷ []) Post $ alloc_all ! (λ l. pass_all ! refl ((tt, tt), ((tt, tt), tt)) $ use1 𝓛 (‵ (hidden_shr (Token T') κs.1.0 (record {}, tt) p q) ⊛ ‵ (fhide (reached cv.code other.name other.items))) (lent_out 𝓛 (Front.struct T') (Front.the_codes T.Denot cv (marker.the_row T').coded) (Front.the_heap T') (Front.the_lent T') κs.1.0 other p q) $ split ! $ drop ! $ unhide ! $
    rewrite ! 0 (λ (z : ℕ). ‵ (reached cv.code z other.items)) asked refl $ move ! (1 ∷ 2 ∷ 5 ∷ []) $
    opens ! tt Ps b o (λ vs0. move ! (1 ∷ []) $ fsplit ! $ move ! (1 ∷ 6 ∷ []) $
    use2 𝓛 (given (IsPrefix me.items new.items × IsPrefix other.items new.items) (‵ (reached cv.code me.name new.items))) (steps.joins 𝓛 cv me.name me.items other.items) $ learn ! (λ so.
    move ! (1 ∷ 0 ∷ []) $ fjoin ! $ move ! (1 ∷ 0 ∷ 2 ∷ 3 ∷ 4 ∷ []) $ closes ! tt Ps new vs0 b o $ sets ! (of_opd ! (unit_lit !)) refl (tt, tt) $ feq_i ! (List Val) (vunit ∷ []) (vunit ∷ []) refl $
    move ! (4 ∷ 5 ∷ []) $ fjoin ! $ move ! (4 ∷ 0 ∷ []) $ fjoin ! $ nothing ! $ nothing ! $ fjoin ! $ feq_i ! (List Val) (vptr b o ∷ []) (vptr b o ∷ []) refl $ move ! (0 ∷ 4 ∷ 5 ∷ []) $ fjoin3 ! $ fjoin ! $
    returns ! (look_at ! 0 refl) $ free_all ! refl $ keep ! (1 ∷ 0 ∷ 2 ∷ []) $ by ! (ends 𝓛 En hs c y vunit tt (new, (tt, tt)) (tt, (tt, tt)) (fact_i 𝓤 _ (emp 𝓤) (refl, one_of (no_longer me.items other.items) me.items other.items, so.0, so.1))))))))
