use Rattle.std.proofs.Common.{List, inl, inr, Contains, refl, sym, subst}
use Rattle.std.proofs.lemmas.Bool.{both_ways}
use Rattle.gss.specs.declared.paths.Path.{Path}
use Rattle.gss.proofs.PathTrails.{has_path}
use Rattle.gss.proofs.paths.add_new.Goals as goal

pub returns-in_ok-push : goal.returns-in_ok-push
returns-in_ok-push c =
    let has = has_path c.deref.result.now c.args.path c.contains.result c.contains.ensures.value in
    let none : Contains c.args.found.now.items c.args.path → ⊥ =
    λ there. both_ways c.contains.result c.if-not-contains.true (has.1 (subst (λ (ps : List Path). Contains ps c.args.path)
    (sym c.deref.ensures.value) there)) in
    inr (none, c.in_ok-push.ensures.items)

pub returns-else-not-contains : goal.returns-else-not-contains
returns-else-not-contains c =
    let has = has_path c.deref.result.now c.args.path c.contains.result c.contains.ensures.value in
    let there : Contains c.args.found.now.items c.args.path =
    subst (λ (ps : List Path). Contains ps c.args.path) c.deref.ensures.value (has.0 c.if-not-contains.false) in
    inl (there, refl)
