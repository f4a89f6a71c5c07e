-- `show` lends the value for as long as the hold is lent.
use Rattle.std.proofs.Common.{◌≡◌, ℕ, ◌<◌, List, [], ◌∷◌, ◌++◌, refl, sym, ap, ◌∙◌, subst}
use mir.Syntax.{a_type}
use mir.Val.{Val, vptr}
use mir.MapTy.{inst_fn}
use base.Logic.{SProp, ent, emp, id⊢}
use base.Fml.{Lft, Share, ftrue, fsep, flft, fhide}
use prog.Wp.{WpFn}
use types.Kit.{‵, raw, ◌⊛◌, at_ret, ◌$◌, ◌∵◌, !, qed, by, move, keep, drop, split, join, fsplit, fjoin, suffices, use0, use1, feq_i}
use types.Run.{stop, addr, of_opd, first, blocks, exec, returns, enter}
use types.ByLocal.{alloc_all, pass_all, free_all, look_at, get, through, sets, sets_last, env}
use contract.Monad.{fact, fact_i}
use contract.BorrowLft.{◌⊑◌}
use contract.Running.{tables}
use denote.Exit.{yes}
use denote.RattleType.{RattleType, owns}
use denote.Signature.{types_at, type_at, plain}
use denote.Steps.{nothing, heard}
use denote.Memory.{hidden_shr}
use denote.Opens.{unhide, hide}
use denote.Builtin.{RefOf, RawPtr}
use denote.RawPtr.{Ptr, ptr_val, in_a_block}
use denote.Param.{param, layouts}
use denote.Param.Laws.{param_laws}
use denote.Struct.Struct.{Struct}
use denote.Struct.Owning.{shape}
use denote.Struct.Lending.{lent_at}
use denote.Triple.Walked.{Stays, stay_dropped, walk_of, Goes-dropped}
use Rattle.core.proofs.alloc.Shapes.{after}
use Rattle.lend.specs.Parts.{hold_shares}
use Rattle.std.proofs.raw_atomic.Walks.{proved_at, leaves}
use Rattle.lend.proofs.Shown.{sees, nowhere}
use Rattle.lend.proofs.Holds.{Hold}
use Rattle.lend.specs.contracts.hold.Hold as hold
use Rattle.lend.specs.contracts.hold.Hold.show.{ended, clauses}
use Rattle.lend.specs.contracts.hold.Hold.show.Key.{name as #self}
use Rattle.lend.proofs.hold.Hold.show.Statement.{statement}
use Rattle.lend.proofs.hold.Hold.show.Code as code

pub show_spec : {M : Type 1} → statement M
show_spec 𝓤 𝓛 𝓜 𝓡 wired T L =
    let H = 𝓛.H in let 𝓣 = tables 𝓤 H 𝓜 𝓡 𝓡.env in let R : RattleType = param 0 T in let LR = param_laws 0 T L in let En = ended T in
    let c = clauses T 𝓛 𝓜.mem 𝓡.returns in
    let inst = layouts (a_type ∷ []) (T, tt) in let fn = inst_fn inst code.function in let self = RefOf (0 ∷ []) tt (plain (λ _. Hold 𝓛 R)) (λ _. tt) in
    let hs : Stays En.signature.params En.kept = (stay_dropped self yes, (stay_dropped (plain (λ _. RawPtr)) yes, tt)) in
    proved_at 𝓛 En hs c 𝓜 𝓡 (Goes-dropped 𝓛 2 self yes (λ κs x f. refl), (Goes-dropped 𝓛 2 (plain (λ _. RawPtr)) yes (λ κs x f. refl), tt)) (#self inst) fn
    (code.unfolded 𝓤 H 𝓜 𝓡 wired (T, tt)) (λ z are.
    let κs = z.0.0 in let qs = z.0.1 in let Post : Val → SProp 𝓤 = (walk_of 𝓛 En hs c).post z in
    let Run : List Val → SProp 𝓤 = λ ws. WpFn 𝓤 H 𝓣.C 𝓣.Λ fn ws Post in let Out : RattleType = type_at En.signature.result κs in
    let κ : Lft = κs.0 in let q : Share = qs.0 in let b : ℕ = z.0.3.0.ref_ptr.0 in let o : ℕ = z.0.3.0.ref_ptr.1 in let n = z.0.3.0.now in
    let at : Ptr = z.0.3.1.0 in
    let Asked : Type 0 = (at ≡ n.at) × (0 < n.parts) in let Told : Type 0 = n.value ≡ n.value in
    qed 𝓛 (((‵ (flft κ q) ⊛ ‵ (fsep (flft κs.1.0 qs.1.0) ftrue)) ⊛ ‵ (owns (types_at En.signature.params κs) z.0.3 z.0.4)) ∷ raw
    (fact 𝓤 (κs.1.0 ⊑ T.lives)) ∷ raw (fact 𝓤 Asked) ∷ []) ∵
    move ! (2 ∷ []) $ heard ! Asked (λ asked. split ! $ split ! $ move ! (2 ∷ []) $ fsplit ! $ fsplit ! $ keep ! (1 ∷ 3 ∷ 4 ∷ []) $
    use1 𝓛 (‵ (hidden_shr (Struct (shape (hold.the_type R))) κ (tt, tt) b o) ⊛ ‵ (fhide (hold_shares R n.at n.value n.age n.parts κ))) (id⊢ 𝓤 _) $ split ! $
    drop ! $ unhide ! $
    use1 𝓛 (‵ (lent_at R n.at n.value κ)) (sees R LR n.at n.value n.age 𝓛 [] n.parts κ asked.1) $
    in_a_block ! n.at (λ (p : Ptr). lent_at R p n.value κ) (nowhere 𝓛 R n.value κ) (λ pb po e. fsplit ! $ drop ! $ hide ! $
    let Vs : List Val = vptr b o ∷ vptr pb po ∷ [] in let second : z.0.4.1.0 ≡ vptr pb po ∷ [] = are.1.0 ∙ ap (λ (p : Ptr). ptr_val p ∷ []) (asked.0 ∙ e) in
    suffices ! (Run Vs) (subst (λ (us : List Val). ent 𝓤 (Run Vs) (Run us)) (sym (λ i. are.0.0 i ++ (second i ++ []))) (id⊢ 𝓤 (Run Vs))) $
    enter ! 𝓣.C 𝓣.Λ fn Vs Post $ alloc_all ! (λ l. pass_all ! refl ((tt, tt), ((tt, tt), tt)) $ let Ev = env fn.locals l in
    first ! $ blocks ! $ sets_last ! (addr ! (through ! refl (stop !))) refl (tt, tt) $ exec ! 𝓣.C 𝓣.Λ Ev (after 1 fn.body) (at_ret Ev Post) $
    sets ! (of_opd ! (get ! refl)) refl (tt, tt) $
    feq_i ! (List Val) (vptr pb po ∷ []) (vptr pb po ∷ []) refl $ fjoin ! $ move ! (1 ∷ 2 ∷ []) $ join ! $ nothing ! $ nothing ! $ fjoin ! $ nothing ! $
    fjoin ! $
    use0 𝓛 (raw (fact 𝓤 Told)) (fact_i 𝓤 Told (emp 𝓤) refl) $ returns ! (look_at ! 0 refl) $ free_all ! refl $ keep ! (2 ∷ 1 ∷ 3 ∷ 0 ∷ []) $
    by ! (leaves 𝓛 En hs c z (vptr pb po) (record { ref_ptr = (pb, po); now = n.value }) (tt, (tt, tt)) (tt, (tt, tt)))))))
