-- `begin` starts an age, and hands out all its parts.
use Rattle.std.proofs.Common.{◌≡◌, ℕ, List, [], ◌∷◌, ◌++◌, refl, sym, subst}
use mir.Syntax.{a_type, dcons, dnil}
use mathlib.Core.Bool.{true, ◌&&◌}
use mir.Val.{Val, vptr, vstruct, vcons, vnil, of_list, has_ty}
use denote.Builtin.{RawPtr}
use Rattle.std_alloc.proofs.ResultValues.{and_tt}
use mir.MapTy.{inst_fn}
use base.Logic.{SProp, ent, emp, id⊢}
use base.Fml.{Lft, ftrue, fsep, flft, flent}
use prog.Wp.{WpFn}
use types.Kit.{‵, raw, ◌⊛◌, some, later, ◌$◌, ◌∵◌, !, qed, by, move, keep, split, split3, join, fsplit, fjoin, fjoin3, fpack, pick, suffices, use0, use1, use2}
use types.Kit.{await, feq_i}
use types.Run.{stop, fld, of_opd, no_more, and_then, returns, enter}
use types.ByLocal.{alloc_all, pass_all, free_all, look_at, get, get_in, sets}
use types.Part.{agg, sub, whole}
use contract.Monad.{fact, fact_i}
use contract.BorrowLft.{◌⊑◌}
use contract.Running.{tables}
use denote.Exit.{no}
use denote.RattleType.{RattleType, owns, Valss}
use denote.Signature.{types_at, plain}
use denote.RawPtr.{Ptr, block_ptr}
use denote.Steps.{nothing, heard}
use denote.Param.{param, layout, bounded}
use denote.Param.Laws.{param_laws}
use denote.Triple.Walked.{Stays, stay_dropped, walk_of}
use Rattle.core.proofs.alloc.Calls.{Goes-blank}
use Rattle.std_alloc.specs.Box.Ownership.{box_owns}
use Rattle.std.proofs.raw_atomic.Walks.{proved_at, leaves}
use Rattle.lend.specs.Parts.{hold_owns}
use Rattle.lend.proofs.Begins.{begins}
use Rattle.lend.proofs.Holds as holdings
use Rattle.lend.proofs.Holds.{Hold, token}
use Rattle.lend.proofs.Values.{both, Loose, Lent, loose_good, loose_out, lent_in}
use Rattle.lend.specs.contracts.lent.Lent.begin.{ended, clauses}
use Rattle.lend.specs.contracts.lent.Lent.begin.Key.{name as #self}
use Rattle.lend.proofs.lent.Lent.begin.Statement.{statement}
use Rattle.lend.proofs.lent.Lent.begin.Code as code
use Rattle.lend.specs.declared.limits.TheConstants.{WHOLE}

pub begin_spec : {M : Type 1} → statement M
begin_spec 𝓤 𝓛 𝓜 𝓡 wired T A L LA g d dx dd allocator glue glued =
    let H = 𝓛.H in let 𝓣 = tables 𝓤 H 𝓜 𝓡 𝓡.env in let R : RattleType = param 0 T in let LR = param_laws 0 T L in let Z : RattleType = param 1 A in
    let LZ = param_laws 1 A LA in let En = ended T A g d dx dd in let c = clauses T A g d dx dd 𝓛 𝓜.mem 𝓡.returns in
    let inst = bounded (a_type ∷ a_type ∷ []) (T, (A, tt)) (dcons d (dcons dx (dcons dd dnil))) in let fn = inst_fn inst code.function in
    let hs : Stays En.signature.params En.kept = (stay_dropped (plain (λ _. Loose R Z LZ g)) no, tt) in
    proved_at 𝓛 En hs c 𝓜 𝓡 (Goes-blank 𝓛 2 (plain (λ _. Loose R Z LZ g)) no (λ κs x f. tt), tt) (#self inst) fn
    (code.unfolded 𝓤 H 𝓜 𝓡 wired (T, (A, tt)) d dx dd) (λ z are.
    let κs = z.0.0 in let qs = z.0.1 in let v = z.0.3.0 in let a = v.alloc in let x = v.value in let Post : Val → SProp 𝓤 = (walk_of 𝓛 En hs c).post z in
    let Run : List Val → SProp 𝓤 = λ ws. WpFn 𝓤 H 𝓣.C 𝓣.Λ fn ws Post in
    let toks = ‵ (flft κs.0 qs.0) ⊛ ‵ (flft κs.1.0 qs.1.0) ⊛ ‵ ftrue in let asked = raw ((c κs z.0.3).requires z.1) in
    let Row : RattleType = Lent R Z LZ g in let Pr : RattleType = Hold 𝓛 R in
    qed 𝓛 ((toks ⊛ ‵ (owns (types_at En.signature.params κs) z.0.3 z.0.4)) ∷ asked ∷ []) ∵ split ! $ move ! (1 ∷ []) $ fsplit ! $
    loose_out R Z LZ g ! v z.0.4.0 (λ b o h e ws fits.
    let w : Val = both (vptr b o) h in let typed = loose_good R Z LZ g b o h fits in let p : Ptr = block_ptr b o in
    let B = box_owns (g.dealloc_token a) R p x in
    move ! (4 ∷ []) $ use1 𝓛 (raw (fact 𝓤 (κs.0 ⊑ T.lives)) ⊛ raw (fact 𝓤 (κs.1.0 ⊑ A.lives)) ⊛ ‵ ftrue) (id⊢ 𝓤 _) $ split3 ! $
    heard ! (κs.0 ⊑ T.lives) (λ within. keep ! (2 ∷ 3 ∷ 5 ∷ []) $
    suffices ! (Run (w ∷ [])) (subst (λ (us : List Val). ent 𝓤 (Run (w ∷ [])) (Run us)) (sym (λ i. ws i ++ [])) (id⊢ 𝓤 (Run (w ∷ [])))) $
    enter ! 𝓣.C 𝓣.Λ fn (w ∷ []) Post $ alloc_all ! (λ l. pass_all ! refl (typed, tt) $
    move ! (2 ∷ []) $ split3 ! $ move ! (3 ∷ 0 ∷ []) $ use2 𝓛
    (later (some (λ (ν : ℕ). ‵ (hold_owns R p x ν WHOLE) ⊛ ‵ (flent (ν ∷ []) B) ⊛ ‵ (flft κs.0 qs.0))))
    (begins 𝓛 R LR (g.dealloc_token a) p x κs.0 qs.0 within) $ await ! tt $ pick ! (λ ν. split3 ! $
    -- [the parts; the right; t0; t1; true; the handle]
    let r : Row.Denot = record { at = p; alloc = a; value = x; age = ν } in let s : Pr.Denot = record {
      marker = record {};
      at = p;
      value = x;
      age = ν;
      parts =
          WHOLE;
    } in let u : Val = vstruct (vcons w (vcons token (vcons (vptr b o) vnil))) in
    let Told : Type 0 = ((p ≡ v.at) × (x ≡ x)) × ((p ≡ v.at) × (x ≡ x) × (ν ≡ ν) × (s.parts ≡ s.parts)) × (p ≡ v.at) in
    sets ! (of_opd ! (get_in ! (fld ! refl (stop !)) (sub ! 0 refl (whole !)))) refl (tt, tt) $
    sets ! (of_opd ! (get_in ! (fld ! refl (stop !)) (sub ! 1 refl (whole !)))) refl fits $
    sets ! (of_opd ! (get ! refl)) refl fits $ sets ! (agg ! (and_then ! (get ! refl) (and_then ! (get ! refl) (no_more !)))) refl typed $
    nothing ! $ move ! (0 ∷ 2 ∷ []) $ fjoin ! $ move ! (0 ∷ 5 ∷ []) $ lent_in R Z LZ g ! b o h a x ν $
    use0 𝓛 (‵ (holdings.Data 𝓛 R)) (holdings.hold_made 𝓛 R) $ move ! (0 ∷ 2 ∷ []) $ fjoin ! $ nothing ! $
    feq_i ! (List Val) (vptr b o ∷ []) (vptr b o ∷ []) refl $ fjoin ! $ move ! (2 ∷ 1 ∷ 0 ∷ []) $ fjoin3 ! $ feq_i ! (List Val) (u ∷ []) (u ∷ []) refl $
    fjoin ! $
    fpack ! (Valss (Row ∷ Pr ∷ RawPtr ∷ [])) (λ vss. fsep (base.Fml.feq (List Val) (u ∷ []) (vstruct (of_list (vss.0 ++ (vss.1.0 ++ (vss.1.1.0 ++ [])))) ∷ []))
    (owns (Row ∷ Pr ∷ RawPtr ∷ []) (r, (s, (p, tt))) vss)) (w ∷ [], (token ∷ [], (vptr b o ∷ [], tt))) $
    sets ! (agg ! (no_more !)) refl (tt, tt) $ sets ! (agg ! (and_then ! (get ! refl) (no_more !))) refl (tt, (tt, tt)) $
    sets ! (agg ! (and_then ! (get ! refl) (and_then ! (get ! refl) (and_then ! (get ! refl) (no_more !))))) refl (
      and_tt (has_ty (layout Z) h && true) typed.0,
      (typed.1, ((tt, tt), (tt, tt))),
    ) $
    -- [the pair; t0; t1; true]
    move ! (2 ∷ 3 ∷ []) $ join ! $ move ! (2 ∷ 0 ∷ []) $ join ! $ nothing ! $ nothing ! $ fjoin ! $
    use0 𝓛 (raw (fact 𝓤 Told)) (fact_i 𝓤 Told (emp 𝓤) ((sym e, refl), (sym e, refl, refl, refl), sym e)) $
    returns ! (look_at ! 0 refl) $ free_all ! refl $ keep ! (2 ∷ 1 ∷ 3 ∷ 0 ∷ []) $ by ! (leaves 𝓛 En hs c z u (r, s, p) ((tt, (tt, tt)), tt) (tt, tt)))))))
