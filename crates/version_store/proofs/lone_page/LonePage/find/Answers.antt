use Rattle.std.proofs.Common.{◌≡◌, ℕ, List, replicate, refl, sym, ap, ◌∙◌, subst}
use Rattle.std.specs.Prelude.{Option, Some}
use Rattle.pin_rule.specs.declared.sizes.Sizes.{Sizes}
use Rattle.pin_rule.specs.declared.view.Role.{Role}
use Rattle.pin_rule.specs.Lists.{In}
use Rattle.pin_rule.specs.Told.{IsTold}
use Rattle.slot_store.specs.declared.site.Site.{Site}
use Rattle.slot_store.specs.declared.finding.Glance.TheVariants as glance
use Rattle.slot_store.specs.declared.page.Look.TheVariants as look
use Rattle.slot_store.specs.Keys.{row_of}
use Rattle.slot_store.specs.Answers.{IsFound, Finds}
use Rattle.slot_store.specs.Meaning.{meaning_of}
use Rattle.slot_store.specs.PinnedHands.{view_in, site_in, place_in, meaning_in}
use Rattle.slot_store.proofs.Extending.{finds}
use Rattle.version_store.specs.Roles.{role_or_first}
use Rattle.version_store.specs.Notes.{IsNotedIn}
use Rattle.version_store.specs.Graphs.{rows_known, IsWholeKnown}
use Rattle.version_store.proofs.KnownAgain.{known_again}
use Rattle.version_store.proofs.LoneAnswers.{finds_graph}
use Rattle.version_store.proofs.LoneHands.{sole, whole_after, same_graph, found_row, no_row, all_rows}
use Rattle.version_store.proofs.lone_page.LonePage.find.Goals as goal

pub invariant_of-self : goal.invariant_of-self
invariant_of-self g c = let p = c.args.self.now in let h = p.hand in let q = c.look.new.self in let z = site_in h in let v = view_in h in let w = view_in q in
    let known = known_again z.sizes v.known p.all_known in
    let alone = sole z v h.measured p.has_all p.editor p.one_version p.at_version p.at_page known in
    let e = c.look.ensures in let k = e.look in let same = e.same in let role = k.moves.role in let sizes = sym (ap (λ (y : Site). y.sizes) same.1) in
    let told = subst (λ (y : Site). IsTold (g.C.Content.fits w.log) w y.version) same.1 e.told in
    let whole_known = whole_after _ _ z v w c.args.key.now _ c.look.result k told h.measured alone known in record {
      has_all = k.moves.share ∙ p.has_all;
      editor = subst (λ (o : Option Role). o ≡ Some (role_or_first o)) (sym role) p.editor;
      one_version = ap (λ (o : Option Role). (role_or_first o).older) role ∙ p.one_version;
      idle = ap (λ (o : Option Role). (role_or_first o).making) role ∙ p.idle;
      keeps_all = ap (λ (o : Option Role). (role_or_first o).giving_up) role ∙ p.keeps_all;
      noted = subst (λ (o : Option Role). IsNotedIn (role_or_first o) p.lives) (sym role) p.noted;
      lives_measured = p.lives_measured ∙ sizes;
      at_version = ap (λ (o : Option Role). (role_or_first o).newest.version) role ∙ p.at_version ∙ sym (ap (λ (y : Site). y.version) same.1);
      at_page = ap (λ (o : Option Role). (role_or_first o).newest.page) role ∙ p.at_page ∙ sym (ap (λ (y : Site). y.page) same.1);
      row_room = e.room ∙ p.row_room ∙ ap (λ (y : Sizes). y.width) sizes;
      places_empty = p.places_empty ∙ ap (λ (y : Sizes). replicate y.places (let z : ℕ = 0 in z)) sizes;
      all_known = ∣ subst (λ (y : Sizes). IsWholeKnown y w.known) sizes whole_known ∣₁;
    }

pub returns-in-PageFull : goal.returns-in-PageFull
returns-in-PageFull g c = let p = c.args.self.now in let h = p.hand in let q = c.look.new.self in let z = site_in h in let v = view_in h in let w = view_in q in
    let known = known_again z.sizes v.known p.all_known in
    let alone = sole z v h.measured p.has_all p.editor p.one_version p.at_version p.at_page known in
    let e = c.in-PageFull.ensures in let k = e.look in let same = e.same in let F = g.C.Content.fits in let key = c.args.key.now in
    let told = subst (λ (y : Site). IsTold (F w.log) w y.version) same.1 e.told in
    let graph = same_graph _ _ z v w key _ glance.PageFull k told h.measured alone known in
    let all = subst (λ (y : Site). Finds F (meaning_of v z.page (place_in h)) (meaning_of w y.page (place_in q)) key look.PageFull) (sym same.1)
    (finds z v w (place_in h) (place_in q) k.added k.moves k.own same.0 F key look.PageFull h.measured k.is) in (
      (
        refl,
        (λ _. tt),
        finds_graph F (meaning_in h) (meaning_in q) key look.PageFull (Some (rows_known v.known)) (Some (rows_known w.known)) (ap (λ (x : List
            (List ℕ)). Some x) graph) all,
      ),
      record {
        lent = tt;
        graph = (
          no_row _ _ z v w key _ glance.PageFull k told h.measured alone known (k.knows alone).0,
          all_rows _ _ z v w key _ glance.PageFull k told h.measured alone known (k.knows alone).1,
        );
        found = tt;
      },
    )

pub returns-in-Initial : goal.returns-in-Initial
returns-in-Initial g c = let p = c.args.self.now in let h = p.hand in let q = c.look.new.self in let z = site_in h in let v = view_in h in let w = view_in q in
    let known = known_again z.sizes v.known p.all_known in
    let alone = sole z v h.measured p.has_all p.editor p.one_version p.at_version p.at_page known in
    let e = c.in-Initial.ensures in let k = e.look in let same = e.same in let F = g.C.Content.fits in let key = c.args.key.now in
    let told = subst (λ (y : Site). IsTold (F w.log) w y.version) same.1 e.told in
    let graph = same_graph _ _ z v w key _ (glance.Initial c.in-Initial.place) k told h.measured alone known in
    let all = subst (λ (y : Site). Finds F (meaning_of v z.page (place_in h)) (meaning_of w y.page (place_in q)) key (look.Initial c.in-Initial.place))
    (sym same.1)
    (finds z v w (place_in h) (place_in q) k.added k.moves k.own same.0 F key (look.Initial c.in-Initial.place) h.measured k.is) in (
      (
        refl,
        (λ _. tt),
        finds_graph F (meaning_in h) (meaning_in q) key (look.Initial c.in-Initial.place) (Some (rows_known v.known)) (Some (rows_known w.known)) (ap (λ
            (x : List (List ℕ)). Some x) graph) all,
      ),
      record { lent = tt; graph = no_row _ _ z v w key _ (glance.Initial c.in-Initial.place) k told h.measured alone known (k.knows alone); found = tt },
    )

pub returns-in-Found : goal.returns-in-Found
returns-in-Found g c = let p = c.args.self.now in let h = p.hand in let q = c.look.new.self in let z = site_in h in let v = view_in h in let w = view_in q in
    let known = known_again z.sizes v.known p.all_known in
    let alone = sole z v h.measured p.has_all p.editor p.one_version p.at_version p.at_page known in
    let e = c.in-Found.ensures in let k = e.look in let same = e.same in let F = g.C.Content.fits in let key = c.args.key.now in
    let told = subst (λ (y : Site). IsTold (F w.log) w y.version) same.1 e.told in
    let found = subst (λ (l : List ℕ). IsFound z.sizes z.page k.added (F v.log) key l) (sym c.payload.ensures) k.is.1 in
    let graph = same_graph _ _ z v w key _ (glance.Found c.in-Found.count) k told h.measured alone known in
    let all = subst (λ (y : Site). Finds F (meaning_of v z.page (place_in h)) (meaning_of w y.page (place_in q)) key (look.Found c.payload.result)) (sym same.1)
    (finds z v w (place_in h) (place_in q) k.added k.moves k.own same.0 F key (look.Found c.payload.result) h.measured found) in (
      (
        refl,
        (λ _. tt),
        finds_graph F (meaning_in h) (meaning_in q) key (look.Found c.payload.result) (Some (rows_known v.known)) (Some (rows_known w.known)) (ap (λ
            (x : List (List ℕ)). Some x) graph) all,
      ),
      record {
        lent = found.fitting;
        graph = subst (λ (l : List ℕ). In (row_of key l) (rows_known v.known)) (sym c.payload.ensures)
            (found_row _ _ z v w key _ (glance.Found c.in-Found.count) k told h.measured alone known _ (k.knows alone));
        found = tt;
      },
    )
