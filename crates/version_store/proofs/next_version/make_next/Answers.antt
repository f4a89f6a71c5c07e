use Rattle.std.proofs.Common.{◌≡◌, ◌++◌, ◌∷◌, [], List, length, refl, sym, ap, ◌∙◌}
use Rattle.pin_rule.specs.declared.content.Entry.{Entry}
use Rattle.pin_rule.specs.declared.view.Making.{Making}
use Rattle.pin_rule.specs.Hands.{view_of}
use Rattle.version_store.specs.Stages.{next_log_of}
use Rattle.version_store.proofs.AskedRows.{asks_rows}
use Rattle.version_store.proofs.NextVersions as next
use Rattle.version_store.proofs.next_version.make_next.Goals as goal

pub write_page-requires-clause-making : goal.write_page-requires-clause-making
write_page-requires-clause-making g c =
    let k = c.args.current in let v = view_of c.args.hand.now in let v1 = view_of c.write_entry.new.hand in let v2 = view_of c.choose_rows.new.hand in
    let entry = c.args.entry.now in let long : length entry ≡ 32 = c.write_entry.ensures.long in let wrote = c.write_entry.ensures.wrote in
    let ch = c.choose_rows.ensures.chosen in let editor = c.requires.editor in
    let m : Making = record { page = k.next; entry = entry; places = [] } in
    let first = next.editor_written k v v1 entry editor wrote long in let is = next.next_is k v v1 entry editor wrote long in (
      m,
      next.making_chosen k v v1 v2 entry ch.0 wrote ch.2 long,
      long,
      refl,
      refl,
      next.keepable k g.C.Content.fits (g.H.Chooser.keeps c.args.chooser.now) v1 v2 entry ch.0 c.choose_rows.new.places (next_log_of v1) first ch.2 ch.3 m
          (ap (λ (l : List Entry). l ++ record { words = entry } ∷ []) (ch.2.goes.log ∙ wrote.goes.log) ∙ sym is),
    )

pub swap_current-requires-clause-keeps : goal.swap_current-requires-clause-keeps
swap_current-requires-clause-keeps g c =
    let ch = c.choose_rows.ensures.chosen in let long : length c.args.entry.now ≡ 32 = c.write_entry.ensures.long in
    next.may_swap c.args.current g.C.Content.fits (g.H.Chooser.keeps c.args.chooser.now) (view_of c.args.hand.now) (view_of c.write_entry.new.hand)
    (view_of c.choose_rows.new.hand) (view_of c.write_page.new.hand) c.args.entry.now ch.0 c.choose_rows.new.places c.requires.editor long
    c.write_entry.ensures.wrote ch.2 ch.3 c.write_page.ensures.wrote ch.1 g.C.Content.lawful

pub returns-clause-made : goal.returns-clause-made
returns-clause-made g c =
    let ch = c.choose_rows.ensures.chosen in let long : length c.args.entry.now ≡ 32 = c.write_entry.ensures.long in
    next.makes c.args.current g.C.Content.fits (g.H.Chooser.keeps c.args.chooser.now) (view_of c.args.hand.now) (view_of c.write_entry.new.hand)
    (view_of c.choose_rows.new.hand) (view_of c.write_page.new.hand) c.args.entry.now ch.0 c.choose_rows.new.places c.requires.editor long
    c.write_entry.ensures.wrote ch.2 ch.3 c.write_page.ensures.wrote ch.1 (view_of c.swap_current.new.self) c.swap_current.result c.swap_current.ensures.view
    c.swap_current.ensures.met

pub returns-clause-asked : goal.returns-clause-asked
returns-clause-asked g c = let ch = c.choose_rows.ensures.chosen in
    asks_rows g.H.Chooser.moves c.args.chooser.now c.choose_rows.new.chooser c.args.current (view_of c.args.hand.now) (view_of c.write_entry.new.hand)
    (view_of c.choose_rows.new.hand) c.args.entry.now ch.0 c.write_entry.ensures.wrote ch.2 ch.1 ch.4
