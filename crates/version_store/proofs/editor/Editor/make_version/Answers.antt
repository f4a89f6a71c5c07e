use Rattle.std.proofs.Common.{◌≡◌, ◌<◌, ◌+◌, ◌%◌, ◌∷◌, [], ℕ, suc, List, length, length-append, replicate, slice_index, inl, sym, refl, ap, ◌∙◌, subst, arith}
use Rattle.std.proofs.lemmas.List.{with_items_is}
use Rattle.std.specs.Prelude.{Some}
use Rattle.std.specs.Vec.{with_items}
use Rattle.pin_rule.specs.declared.sizes.Sizes.{Sizes}
use Rattle.pin_rule.specs.declared.view.Role.{Role}
use Rattle.pin_rule.specs.Hands.{view_of}
use Rattle.pin_rule.specs.Making.{rows_of}
use Rattle.pin_rule.specs.PartLive.{known_release}
use Rattle.version_store.specs.declared.live_version.LiveVersion.{LiveVersion}
use Rattle.version_store.specs.Roles.{role_of, role_or_first}
use Rattle.version_store.proofs.SparePages.{spare, older_many}
use Rattle.version_store.proofs.OldestNoted.{noted_for}
use Rattle.version_store.proofs.editor.Editor.make_version.Goals as goal

pub spare_page-next-requires : goal.spare_page-next-requires
spare_page-next-requires g c = let e = c.args.self.now in let m = older_many (role_of (view_of e.hand)) e.lives e.noted e.keeps_all in
    let room = c.requires.room.0 in let z = ap (λ (y : Sizes). y.versions) (e.measured ∙ sym e.lives_measured) in omega arith

pub invariant_of-current : goal.invariant_of-current
invariant_of-current g c = let e = c.args.self.now in record {
  version_in = e.log_in;
  page_in = subst (λ (z : Sizes). e.lives.newest.page < z.versions) e.lives_measured (e.lives.pages_in e.lives.newest.page (inl refl));
  next_in = subst (λ (z : Sizes). c.spare_page-next.result < z.versions) e.lives_measured c.spare_page-next.ensures.inside;
}

pub make_next-met-requires-clause-next : goal.make_next-met-requires-clause-next
make_next-met-requires-clause-next g c = let e = c.args.self.now in let s = c.spare_page-next.ensures in
    spare (role_of (view_of e.hand)) e.lives e.noted e.keeps_all c.spare_page-next.result s.spare s.least

pub add-requires-clause-room : goal.add-requires-clause-room
add-requires-clause-room g c = let e = c.args.self.now in let m = older_many (role_of (view_of e.hand)) e.lives e.noted e.keeps_all in
    let room = c.requires.room.0 in let z = ap (λ (y : Sizes). y.versions) (e.measured ∙ sym e.lives_measured) in omega arith

pub add-requires-clause-rows : goal.add-requires-clause-rows
add-requires-clause-rows g c = λ place row is. let e = c.args.self.now in let k = c.make_next-met in
    let same : c.as_mut_slice-3.result.now ≡ k.new.places = c.as_mut_slice-3.ensures.value
    ∙ with_items_is e.places k.new.places (k.auto.places ∙ c.as_mut_slice-2.ensures.len) in
    subst (λ (z : Sizes). row < z.rows) (sym e.lives_measured) (k.ensures.made.rows_in place row (ap (λ (l : List ℕ). slice_index l place) (sym same) ∙ is))

pub invariant_of-self : goal.invariant_of-self
invariant_of-self g c = let e = c.args.self.now in let k = c.make_next-met in let made = k.ensures.made in let v = view_of e.hand in
    let w = view_of k.new.hand in
    let n : ℕ = e.lives.newest.version in let page : ℕ = c.spare_page-next.result in let next : suc n ≡ n + 1 = omega arith in
    let written : c.as_mut_slice-3.result.now ≡ k.new.places = c.as_mut_slice-3.ensures.value
    ∙ with_items_is e.places k.new.places (k.auto.places ∙ c.as_mut_slice-2.ensures.len) in
    let same = ap role_or_first made.role in let r = role_of v in
    let added = c.add.ensures.noted r.newest r.older r.released e.noted c.spare_page-next.ensures.spare in
    let noted = noted_for (record { version = n + 1; page = page; base = known_release r.released page; carried = rows_of c.as_mut_slice-3.result.now })
    (record { live = r.newest; taken = k.result % 4294967296 } ∷ r.older) r.released c.add.new.self added (role_of w)
    (ap (λ (y : Role). y.newest) same
    ∙ (λ i. record { version = next i; page = page; base = known_release r.released page; carried = rows_of (sym written i) }))
    (ap (λ (y : Role). y.older) same) (ap (λ (y : Role). y.released) same) in
    record {
      measured = made.stays.sizes ∙ e.measured;
      shared = λ none. e.shared (sym made.stays.share ∙ none);
      unpinned = made.stays.pinned ∙ e.unpinned;
      free = made.stays.own ∙ e.free;
      editor = made.role ∙ ap (λ (y : Role). Some y) (sym same);
      idle = ap (λ (y : Role). y.making) same;
      keeps_all = ap (λ (y : Role). y.giving_up) same ∙ e.keeps_all;
      current = sym (ap (λ (y : LiveVersion). y.version) added.newest_is) ∙ (let a = ap length made.log in
          let b = length-append v.log (record { words = c.args.entry.now } ∷ []) in let d = e.current in omega arith);
      noted = noted;
      lives_measured = c.add.ensures.sizes ∙ e.lives_measured;
      log_in = (let version = ap (λ (y : LiveVersion). y.version) added.newest_is in let short = c.requires.room.1 in let d = e.current in
          let z = ap (λ (y : Sizes). y.log) e.measured in omega arith);
      counted = e.counted ∙ sym made.stays.pins_left;
      row_room = ap length (with_items_is e.row k.new.buffer (k.auto.buffer ∙ c.as_mut_slice.ensures.len)) ∙ k.ensures.buffer;
      places_empty = with_items_is (with_items e.places k.new.places) c.add.new.places (c.add.auto.places ∙ c.as_mut_slice-3.ensures.len)
          ∙ c.add.ensures.emptied ∙ ap (λ (n : ℕ). replicate n (let z : ℕ = 0 in z)) (ap length written ∙ k.ensures.places);
    }
