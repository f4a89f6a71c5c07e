-- All parts end the age, and the box is there again.
use Rattle.std.proofs.Common.{◌≡◌, ℕ, List, [], ◌∷◌, ◌++◌, refl, sym, subst}
use mir.Syntax.{a_type, dcons, dnil}
use mir.Val.{Val, vptr}
use mir.MapTy.{inst_fn}
use base.Logic.{SProp, ent, emp, id⊢}
use base.Fml.{ftrue, flft, flent}
use prog.Wp.{WpFn}
use types.Kit.{‵, raw, ◌⊛◌, later, ◌$◌, ◌∵◌, !, qed, by, move, keep, drop, split, fsplit, fsplit3, rewrite, fjoin, suffices, use0, use2, await}
use types.Run.{stop, fld, of_opd, no_more, and_then, returns, enter}
use types.ByLocal.{alloc_all, pass_all, free_all, look_at, get, get_in, sets}
use types.Part.{agg, sub, whole}
use contract.Monad.{fact, fact_i}
use contract.BorrowLft.{◌⊑◌}
use contract.Running.{tables}
use denote.Exit.{no}
use denote.RattleType.{RattleType, owns}
use denote.Signature.{types_at, plain}
use denote.RawPtr.{Ptr, block_ptr}
use denote.Steps.{nothing, heard}
use denote.Param.{param, layout, bounded}
use Rattle.core.proofs.cell.Inside.{one}
use Rattle.lend.proofs.hold.Hold.TheLaws as hold_laws
use denote.Param.Laws.{param_laws}
use denote.Triple.Walked.{Stays, stay_dropped, walk_of, Goes-dropped}
use Rattle.core.proofs.alloc.Calls.{Goes-blank}
use Rattle.std_alloc.specs.Box.Ownership.{box_owns}
use Rattle.std.proofs.raw_atomic.Walks.{proved_at, leaves}
use Rattle.lend.specs.Parts.{hold_owns}
use Rattle.lend.proofs.Begins.{ends}
use Rattle.lend.proofs.Holds.{Hold}
use Rattle.lend.proofs.Values.{both, Loose, Lent, loose_good, loose_in, lent_out}
use Rattle.lend.specs.contracts.hold.Hold.end.{ended, clauses}
use Rattle.lend.specs.contracts.hold.Hold.end.Key.{name as #self}
use Rattle.lend.proofs.hold.Hold.end.Statement.{statement}
use Rattle.lend.proofs.hold.Hold.end.Code as code
use Rattle.lend.specs.declared.limits.TheConstants.{WHOLE}

pub end_spec : {M : Type 1} → statement M
end_spec 𝓤 𝓛 𝓜 𝓡 wired T A L LA dx g d dd glue allocator glued =
    let H = 𝓛.H in let 𝓣 = tables 𝓤 H 𝓜 𝓡 𝓡.env in let R : RattleType = param 0 T in let LR = param_laws 0 T L in let Z : RattleType = param 1 A in
    let LZ = param_laws 1 A LA in let En = ended T A dx g d dd in let c = clauses T A dx g d dd 𝓛 𝓜.mem 𝓡.returns in
    let inst = bounded (a_type ∷ a_type ∷ []) (T, (A, tt)) (dcons dx (dcons d (dcons dd dnil))) in let fn = inst_fn inst code.function in
    let hs : Stays En.signature.params En.kept = (stay_dropped (plain (λ _. Hold 𝓛 R)) no, (stay_dropped (plain (λ _. Lent R Z LZ g)) no, tt)) in
    proved_at 𝓛 En hs c 𝓜 𝓡 (Goes-dropped 𝓛 2 (plain (λ _. Hold 𝓛 R)) no (λ κs x f. refl), (Goes-blank 𝓛 2 (plain (λ _. Lent R Z LZ g)) no (λ κs x f. tt), tt))
    (#self inst) fn (code.unfolded 𝓤 H 𝓜 𝓡 wired (T, (A, tt)) dx d dd) (λ z are.
    let κs = z.0.0 in let qs = z.0.1 in let m = z.0.3.0 in let v = z.0.3.1.0 in let a = v.alloc in let x = v.value in
    let Post : Val → SProp 𝓤 = (walk_of 𝓛 En hs c).post z in let Run : List Val → SProp 𝓤 = λ ws. WpFn 𝓤 H 𝓣.C 𝓣.Λ fn ws Post in
    let toks = ‵ (flft κs.0 qs.0) ⊛ ‵ (flft κs.1.0 qs.1.0) ⊛ ‵ ftrue in
    let Asked : Type 0 = (v.age ≡ m.age) × (m.parts ≡ WHOLE) in let Told : Type 0 = x ≡ x in
    let k = one (layout (Hold 𝓛 R)) z.0.4.0 (((hold_laws.the_row_laws R LR).lawful 𝓛).typed m z.0.4.0 are.0) in
    qed 𝓛 ((toks ⊛ ‵ (owns (types_at En.signature.params κs) z.0.3 z.0.4)) ∷ raw (fact 𝓤 (κs.0 ⊑ T.lives)) ∷ raw (fact 𝓤 (κs.1.0 ⊑ A.lives)) ∷ raw
    (fact 𝓤 Asked) ∷ []) ∵
    move ! (3 ∷ []) $ heard ! Asked (λ asked. keep ! (0 ∷ []) $ split ! $ move ! (1 ∷ []) $ fsplit3 ! $ fsplit ! $ move ! (2 ∷ []) $
    lent_out R Z LZ g ! v z.0.4.1.0 (λ b o h e ws fits.
    let w : Val = both (vptr b o) h in let typed = loose_good R Z LZ g b o h fits in let p : Ptr = block_ptr b o in
    let B = box_owns (g.dealloc_token a) R p x in let r : (Loose R Z LZ g).Denot = record { at = p; alloc = a; value = x } in
    let Vs : List Val = k.0 ∷ w ∷ [] in
    -- [the right; the handle; the hold's data and parts; true; the tokens]
    keep ! (0 ∷ 1 ∷ 3 ∷ 5 ∷ []) $ fsplit ! $ drop ! $ rewrite ! 0 (λ (j : ℕ). ‵ (flent (j ∷ []) B)) asked.0 refl $
    rewrite ! 2 (λ (j : ℕ). ‵ (hold_owns R m.at m.value m.age j)) asked.1 refl $
    suffices ! (Run Vs) (subst (λ (us : List Val). ent 𝓤 (Run Vs) (Run us)) (sym (λ i. k.1 i ++ (ws i ++ []))) (id⊢ 𝓤 (Run Vs))) $
    enter ! 𝓣.C 𝓣.Λ fn Vs Post $ alloc_all ! (λ l. pass_all ! refl (k.2, (typed, tt)) $
    move ! (2 ∷ 0 ∷ []) $ use2 𝓛 (later (‵ B)) (ends 𝓛 R LR (g.dealloc_token a) p x m.at m.value m.age) $ await ! tt $
    sets ! (of_opd ! (get_in ! (fld ! refl (stop !)) (sub ! 0 refl (whole !)))) refl (tt, tt) $
    sets ! (of_opd ! (get_in ! (fld ! refl (stop !)) (sub ! 1 refl (whole !)))) refl fits $
    sets ! (of_opd ! (get ! refl)) refl fits $ sets ! (agg ! (and_then ! (get ! refl) (and_then ! (get ! refl) (no_more !)))) refl typed $
    loose_in R Z LZ g ! b o h a x $ nothing ! $ nothing ! $ fjoin ! $ nothing ! $ fjoin ! $ use0 𝓛 (raw (fact 𝓤 Told)) (fact_i 𝓤 Told (emp 𝓤) refl) $
    returns ! (look_at ! 0 refl) $ free_all ! refl $ keep ! (3 ∷ 1 ∷ 2 ∷ 0 ∷ []) $ by ! (leaves 𝓛 En hs c z w r (tt, ((tt, (tt, tt)), tt)) (tt, (tt, tt)))))))
