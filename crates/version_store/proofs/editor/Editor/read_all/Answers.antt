use Rattle.std.proofs.Common.{◌<◌, ℕ, inl, refl, sym, ap, subst, arith}
use Rattle.std.specs.Prelude.{Some}
use Rattle.atomic_table.specs.Seated.{TableId}
use Rattle.pin_rule.specs.declared.sizes.Sizes.{Sizes}
use Rattle.pin_rule.specs.declared.view.KnownPlace.{KnownPlace}
use Rattle.pin_rule.specs.Lists.{In}
use Rattle.version_store.specs.Rows.{Found, IsWholeRow}
use Rattle.version_store.specs.Stages.{IsFoundAt}
use Rattle.version_store.proofs.GraphRows.{whole_known, known_found, found_known}
use Rattle.pin_rule.specs.Hands.{view_of, table_of}
use Rattle.pin_rule.proofs.Lists.{in_at}
use Rattle.version_store.specs.declared.live_version.LiveVersion.{LiveVersion}
use Rattle.version_store.specs.Meaning.{editor_meaning}
use Rattle.version_store.specs.Gathering.{ReadsPage}
use Rattle.version_store.proofs.TakenIn.{reads}
use Rattle.version_store.proofs.editor.Editor.read_all.Goals as goal

pub invariant_of-current : goal.invariant_of-current
invariant_of-current g c = let e = c.args.self.now in
    let lt = subst (λ (z : Sizes). e.lives.newest.page < z.versions) e.lives_measured (e.lives.pages_in e.lives.newest.page (inl refl)) in
    record { version_in = e.log_in; page_in = lt; next_in = lt }

pub returns : goal.returns
returns g c = let e = c.args.self.now in let f = c.read_page.ensures.found in let v = view_of e.hand in let w = view_of c.read_page.new.hand in
    let wholes : (o : ℕ) (x : Found) → IsFoundAt f.0 o x → IsWholeRow x.words = λ o x a. (f.2.known o x a).is_whole in (
      f.0,
      subst (λ (t : TableId × ℕ). ReadsPage (editor_meaning v (table_of e.hand)) (editor_meaning w t) f.0) (sym c.read_page.ensures.table)
          (reads v w (table_of e.hand) e.sizes e.lives.newest.page f.0 e.measured (ap (λ (y : LiveVersion). y.page) e.noted.newest_is) f.1
          (λ x i. let a = in_at (Some x) f.0 i in wholes a.0 x a.1) f.2.goes f.2.role),
      λ all. let within : (l : KnownPlace) → In l w.known → l.place < e.sizes.places
          = f.2.inside all (let n = f.1 in let p = e.sizes.places_in in omega arith) in record {
            all_known = whole_known e.sizes v.known w.known f.0 f.1 (f.2.learns all) wholes (f.2.alike all) within;
            known = known_found e.sizes v.known w.known f.0 f.1 (f.2.learns all) wholes (f.2.alike all) within;
            every = found_known e.sizes v.known w.known f.0 f.1 (f.2.learns all) wholes (f.2.alike all) within;
          },
    )
