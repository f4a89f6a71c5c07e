use Rattle.std.proofs.Common.{◌≡◌, ◌≤◌, ◌<◌, ℕ, List, take, length, refl, sym, ap, ◌∙◌, subst}
use Rattle.std.specs.Prelude.{Option, Some, None, IfNone, IfSome}
use Rattle.atomic_table.specs.Seated.{TableId}
use Rattle.pin_rule.specs.declared.content.Entry.{Entry}
use Rattle.pin_rule.specs.declared.sizes.Sizes.{Sizes}
use Rattle.pin_rule.specs.declared.view.View.{View}
use Rattle.pin_rule.specs.declared.view.Role.{Role}
use Rattle.pin_rule.specs.Hands.{view_of, table_of}
use Rattle.pin_rule.specs.Lists.{In}
use Rattle.version_store.specs.declared.current.Current.{Current}
use Rattle.version_store.specs.declared.live_version.LiveVersion.{LiveVersion}
use Rattle.version_store.specs.Roles.{role_of, role_or_first}
use Rattle.version_store.specs.Rows.{Found, IsWholeRow}
use Rattle.version_store.specs.Graphs.{rows_known, IsWholeKnown}
use Rattle.version_store.specs.Meaning.{bench_meaning}
use Rattle.version_store.specs.BenchRows.{LoadsPlace}
use Rattle.version_store.specs.Placed.{StandsKnownAt}
use Rattle.version_store.specs.PlaceReading.{ReadsPlace}
use Rattle.version_store.proofs.BenchPlace.{once_told, still_known, loads_place, row_stands, none_stands, row_there}
use Rattle.version_store.proofs.PlacedRows.{reads_at}
use Rattle.version_store.proofs.KnownAgain.{known_again}
use Rattle.version_store.proofs.bench.Bench.row.Goals as goal

-- whatever the answer, a place was read
place_read : (r : Option ℕ) (v w : View) (z : Sizes) (place : ℕ) (items : List ℕ) → IfNone r ((c : Current) × (c.sizes ≡ z) × ReadsPlace c v w place None)
    → IfSome r (λ count. (count ≤ length items) × ((c : Current) × (row : ℕ) × (c.sizes ≡ z)
    × ReadsPlace c v w place (Some record { row = row; words = take count items })))
    → (x : Option Found) × (c : Current) × (c.sizes ≡ z) × ReadsPlace c v w place x
place_read None v w z place items none some = (None, none.0, none.1, none.2)
place_read (Some n) v w z place items none some = (Some record { row = some.1.1; words = take n items }, some.1.0, some.1.2, some.1.3)

pub invariant_of-self : goal.invariant_of-self
invariant_of-self g c = let b = c.args.self.now in let e = b.editor in let n = c.read_at.new.self in let v = view_of e.hand in let w = view_of n.hand in
    let q = place_read c.read_at.result v w e.sizes c.args.place n.row.items c.read_at.ensures.none c.read_at.ensures.some in let all = b.has_all in
    let newest = ap (λ (y : LiveVersion). y.version) n.noted.newest_is ∙ n.current in
    let lt = subst (λ (z : Sizes). c.args.place < z.places) e.measured c.requires in
    let once = once_told g.C.Content.lawful g.C.Content.fits w (role_of w) n.editor newest (q.3.goes.stays.share ∙ all) c.read_at.ensures.told in record {
      has_all = q.3.goes.stays.share ∙ all;
      one_version = ap (λ (o : Option Role). (role_or_first o).older) q.3.role ∙ b.one_version;
      all_known = ∣ subst (λ (z : Sizes). IsWholeKnown z w.known) (sym c.read_at.ensures.sizes)
          (still_known v w (table_of e.hand) e.sizes c.args.place q.0 q.1 q.2 e.measured q.3 all (known_again e.sizes v.known b.all_known) lt once) ∣₁;
    }

pub returns-in-Some : goal.returns-in-Some
returns-in-Some g c = let b = c.args.self.now in let e = b.editor in let n = c.read_at.new.self in let v = view_of e.hand in let w = view_of n.hand in
    let q = c.in-Some.ensures.some.1 in let all = b.has_all in let count : ℕ = c.in-Some.count in
    let newest = ap (λ (y : LiveVersion). y.version) n.noted.newest_is ∙ n.current in
    let lt = subst (λ (z : Sizes). c.args.place < z.places) e.measured c.requires in
    let once = once_told g.C.Content.lawful g.C.Content.fits w (role_of w) n.editor newest (q.3.goes.stays.share ∙ all) c.read_at.ensures.told in
    let known = known_again e.sizes v.known b.all_known in let f : Found = record { row = q.1; words = take count n.row.items } in
    let same : take count n.row.items ≡ take count c.as_slice.result.now = ap (take count) (sym c.as_slice.ensures.value) in
    let there = subst (λ (l : List ℕ). In l (rows_known v.known)) same
    (row_there v w (table_of e.hand) e.sizes c.args.place (Some f) q.0 q.2 e.measured q.3 all known lt once f refl) in
    let stands = subst (StandsKnownAt v.known c.args.place) same
    (row_stands v w (table_of e.hand) e.sizes c.args.place (Some f) q.0 q.2 e.measured q.3 all known lt once f refl) in
    let F = g.C.Content.fits in
    let fits = subst (λ (l : List ℕ). F v.log l) same (subst (λ (l : List Entry). F l (take count n.row.items)) q.3.goes.log c.in-Some.ensures.fits) in (
      (
        refl,
        (λ _. tt),
        (
          (
            f,
            subst (λ (t : TableId × ℕ). LoadsPlace (bench_meaning v (table_of e.hand)) (bench_meaning w t) c.args.place (Some f)) (sym c.read_at.ensures.table)
                (loads_place v w (table_of e.hand) e.sizes c.args.place (Some f) q.0 q.2 e.measured q.3 all known lt once),
            same,
            subst IsWholeRow same (q.3.is_whole f refl),
            there,
          ),
          reads_at g.C.Content.lawful F v w (table_of e.hand) (table_of n.hand) e.sizes c.args.place (Some f) q.0 q.2 e.measured q.3 all known lt once _
              (stands, fits) c.read_at.ensures.told n.editor,
        ),
      ),
      record { lent = there; told = tt },
    )

pub returns-in-None : goal.returns-in-None
returns-in-None g c = let b = c.args.self.now in let e = b.editor in let n = c.read_at.new.self in let v = view_of e.hand in let w = view_of n.hand in
    let q = c.in-None.ensures.none in let all = b.has_all in
    let newest = ap (λ (y : LiveVersion). y.version) n.noted.newest_is ∙ n.current in
    let lt = subst (λ (z : Sizes). c.args.place < z.places) e.measured c.requires in
    let once = once_told g.C.Content.lawful g.C.Content.fits w (role_of w) n.editor newest (q.2.goes.stays.share ∙ all) c.read_at.ensures.told in
    let known = known_again e.sizes v.known b.all_known in (
      (
        refl,
        (λ _. tt),
        (
          subst (λ (t : TableId × ℕ). LoadsPlace (bench_meaning v (table_of e.hand)) (bench_meaning w t) c.args.place None) (sym c.read_at.ensures.table)
              (loads_place v w (table_of e.hand) e.sizes c.args.place None q.0 q.1 e.measured q.2 all known lt once),
          reads_at g.C.Content.lawful g.C.Content.fits v w (table_of e.hand) (table_of n.hand) e.sizes c.args.place None q.0 q.1 e.measured q.2 all known
              lt once _ (none_stands v w (table_of e.hand) e.sizes c.args.place None q.0 q.1 e.measured q.2 all known lt once refl)
              c.read_at.ensures.told n.editor,
        ),
      ),
      record { lent = tt; told = tt },
    )
