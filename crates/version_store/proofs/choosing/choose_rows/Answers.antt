use Rattle.std.proofs.Common.{◌-◌, ◌<◌, ◌++◌, ◌∷◌, [], ℕ, List, length-append, refl, sym, ◌∙◌, subst, arith}
use Rattle.std.specs.Prelude.{Some, None}
use Rattle.pin_rule.specs.declared.sizes.Sizes.{Sizes}
use Rattle.pin_rule.specs.declared.content.Entry.{Entry}
use Rattle.pin_rule.specs.Hands.{view_of}
use Rattle.pin_rule.proofs.KindLoads.{keeps_load_place}
use Rattle.slot_store.proofs.Passing.{row_met}
use Rattle.version_store.specs.Rows.{Found}
use Rattle.version_store.specs.Stages.{next_log_of}
use Rattle.version_store.proofs.PageRows as finds
use Rattle.version_store.proofs.AskedRows as asked
use Rattle.version_store.proofs.Chosen as chosen
use Rattle.version_store.proofs.choosing.choose_rows.Goals as goal

pub loop-place-init : goal.loop-place-init
loop-place-init g c = record {
  table = refl;
  buffer = c.requires.buffer;
  chosen = (
    [],
    refl,
    finds.begins c.args.current (view_of c.args.hand.now),
    chosen.begins (g.H.Chooser.keeps c.args.chooser.now) (g.C.Content.fits (next_log_of (view_of c.args.hand.now))) c.args.current.sizes c.args.places.now
        c.requires.places,
    refl,
  );
  same_leads = λ _ _. ((λ h. h), (λ h. h));
  same_keeps = λ _. ((λ h. h), (λ h. h));
}

pub load_place_at-met-requires-clause-keeps : goal.load_place_at-met-requires-clause-keeps
load_place_at-met-requires-clause-keeps g c = let k = c.args.current in let v = view_of c.args.hand.now in let w = view_of c.loop-place.hand in
    let ch = c.loop-place.invariant.chosen in let e = finds.editor_then k v w c.requires.editor ch.0 ch.2 in
    keeps_load_place g.C.Content.lawful g.C.Content.fits w k.page c.loop-place.place (subst (λ (z : Sizes). c.loop-place.place < z.places) (sym e.sizes)
    c.loop-place-test.true)

pub loop-place-preserved-then-met-eq0 : goal.loop-place-preserved-then-met-eq0
loop-place-preserved-then-met-eq0 g c =
    let k = c.args.current in let v = view_of c.args.hand.now in let w = view_of c.loop-place.hand in let u = view_of c.load_place_at-met.new.self in
    let i = c.loop-place.invariant in let ch = i.chosen in let met : ℕ = c.load_place_at-met.result in record {
      table = c.load_place_at-met.ensures.table ∙ i.table;
      buffer = i.buffer;
      chosen = (
        ch.0 ++ None ∷ [],
        (let n = length-append ch.0 (None ∷ []) in let m = ch.1 in omega arith),
        finds.empty k v w c.requires.editor ch.0 ch.2 c.loop-place.place met (sym ch.1) u c.load_place_at-met.ensures.view g.C.Content.lawful g.C.Content.fits
            c.load_place_at-met.ensures.told c.load_place_at-met.ensures.met.0 c.if-met-eq0.true,
        chosen.empty (g.H.Chooser.keeps c.args.chooser.now) (g.C.Content.fits (next_log_of v)) k.sizes ch.0 c.loop-place.places ch.3,
        asked.asks_none g.H.Chooser.moves c.args.chooser.now c.loop-place.chooser ch.0 ch.4,
      );
      same_leads = i.same_leads;
      same_keeps = i.same_keeps;
    }

pub overflow_cast-met : goal.overflow_cast-met
overflow_cast-met g c =
    let k = c.args.current in let v = view_of c.args.hand.now in let w = view_of c.loop-place.hand in let u = view_of c.load_place_at-met.new.self in
    let ch = c.loop-place.invariant.chosen in let met : ℕ = c.load_place_at-met.result in
    let inside : met - 1 < k.sizes.rows = finds.row_in k v w c.requires.editor ch.0 ch.2 c.loop-place.place met (sym ch.1) u c.load_place_at-met.ensures.view
    (met - 1) (row_met met c.if-met-eq0.false) g.C.Content.lawful g.C.Content.fits c.load_place_at-met.ensures.told in
    let few = k.sizes.rows_in in record { fits = omega arith }

pub choose_row-requires-clause-row : goal.choose_row-requires-clause-row
choose_row-requires-clause-row g c =
    let k = c.args.current in let v = view_of c.args.hand.now in let w = view_of c.loop-place.hand in let u = view_of c.load_place_at-met.new.self in
    let ch = c.loop-place.invariant.chosen in let met : ℕ = c.load_place_at-met.result in
    finds.row_in k v w c.requires.editor ch.0 ch.2 c.loop-place.place met (sym ch.1) u c.load_place_at-met.ensures.view
    (met - 1) (row_met met c.if-met-eq0.false) g.C.Content.lawful g.C.Content.fits c.load_place_at-met.ensures.told

pub loop-place-preserved : goal.loop-place-preserved
loop-place-preserved g c =
    let k = c.args.current in let v = view_of c.args.hand.now in let w = view_of c.loop-place.hand in let u = view_of c.load_place_at-met.new.self in
    let x = view_of c.choose_row.new.hand in let i = c.loop-place.invariant in let ch = i.chosen in let met : ℕ = c.load_place_at-met.result in
    let row : ℕ = met - 1 in let r = c.choose_row.ensures.chosen in let F = g.C.Content.fits in let is = c.load_place_at-met.ensures.view in
    let keeps = g.H.Chooser.keeps c.args.chooser.now in let keeps' = g.H.Chooser.keeps c.loop-place.chooser in
    let new = c.choose_row.new.places in let old = c.loop-place.places in
    let more = finds.found_row k v w c.requires.editor ch.0 ch.2 c.loop-place.place met (sym ch.1) u is row (row_met met c.if-met-eq0.false) x r.words r.reads
    r.is_whole g.C.Content.lawful g.C.Content.fits c.choose_row.ensures.told c.load_place_at-met.ensures.met.0 in
    let f : Found = record { row = row; words = r.words } in
    let same = finds.next_at k v w c.requires.editor ch.0 ch.2 c.loop-place.place met (sym ch.1) u is in record {
      table = c.choose_row.ensures.table ∙ c.load_place_at-met.ensures.table ∙ i.table;
      buffer = c.choose_row.ensures.buffer;
      chosen = (
        ch.0 ++ Some f ∷ [],
        (let n = length-append ch.0 (Some f ∷ []) in let m = ch.1 in omega arith),
        more,
        chosen.chosen keeps (F (next_log_of v)) k.sizes ch.0 old ch.3 f new
            (chosen.choice_as keeps keeps' (F (next_log_of v)) (F (next_log_of u)) r.words _ _ i.same_keeps
            (λ words h. subst (λ (log : List Entry). F log words) same h) r.chosen)
            more.rows_once,
        asked.asks_row g.H.Chooser.moves c.args.chooser.now c.loop-place.chooser c.choose_row.new.chooser ch.0 f ch.4 r.asked,
      );
      same_leads = λ a b. (
        (λ h. (i.same_leads a b).0 ((c.choose_row.ensures.same_leads a b).0 h)),
        (λ h. (c.choose_row.ensures.same_leads a b).1 ((i.same_leads a b).1 h)),
      );
      same_keeps = λ a. (
        (λ h. (i.same_keeps a).0 ((c.choose_row.ensures.same_keeps a).0 h)),
        (λ h. (c.choose_row.ensures.same_keeps a).1 ((i.same_keeps a).1 h)),
      );
    }
