use Rattle.std.proofs.Common.{◌≡◌, ◌+◌, ◌∷◌, [], ◌++◌, ℕ, List, length, get_or, inl, inr, sym, ap, ◌∙◌, subst, arith}
use Rattle.pin_rule.specs.declared.content.Entry.{Entry}
use Rattle.pin_rule.specs.declared.sizes.Sizes.{Sizes}
use Rattle.pin_rule.specs.Hands.{view_of}
use Rattle.version_store.specs.declared.live_version.OlderVersion.{OlderVersion}
use Rattle.version_store.specs.LivePages.{oldest_first}
use Rattle.version_store.specs.Roles.{role_of}
use Rattle.version_store.specs.Means.{editor_of}
use Rattle.version_store.specs.Meaning.{EditorMeaning}
use Rattle.version_store.specs.GivingUp.{GivesUp, Stops, KeepsOldest}
use Rattle.version_store.specs.Edits.{IsSameEditor, IsSameVersion, IsFullOf}
use Rattle.version_store.proofs.GivenUp.{IsAlike, alike, alike_stops}
use Rattle.version_store.proofs.SparePages.{older_many}
use Rattle.version_store.proofs.OldestNoted.{noted_last}
use Rattle.version_store.proofs.editor.Editor.edit.Goals as goal

alike_given : (m l n : EditorMeaning) (count released : ℕ) → GivesUp count m l → Stops l n released → IsAlike m n
alike_given m l n count released g s = alike_stops l n released s m (alike count m l g)

same_editor : (m n : EditorMeaning) → IsAlike m n → IsSameEditor m n
same_editor m n h = record { sizes = h.sizes; table = h.table; share = h.share; pins_left = h.pins_left }

same_on : (l m n : EditorMeaning) → IsSameEditor l m → IsSameEditor m n → IsSameEditor l n
same_on l m n a b = record {
  sizes = b.sizes ∙ a.sizes;
  table = b.table ∙ a.table;
  share = b.share ∙ a.share;
  pins_left = b.pins_left ∙ a.pins_left;
}

same_version : (m n : EditorMeaning) → IsAlike m n → IsSameVersion m n
same_version m n h = record { log = h.log; newest = h.newest }

-- the oldest version that is noted is the one that stays
full_of : (m l n : EditorMeaning) (count released : ℕ) (xs : List OlderVersion) (x : OlderVersion) → GivesUp count m l → KeepsOldest l n released
    → (oldest_first n.older) ≡ xs → x ≡ get_or xs 0 x → length n.older + 1 ≡ n.sizes.versions
    → IsFullOf x.live.version x.taken released m n
full_of m l n count released xs x g k is first all = let e = noted_last n.older k.rest k.oldest xs x
    (ap (λ (y : EditorMeaning). y.older) k.is ∙ k.older) is first in record {
      count = count;
      before = l;
      gave_up = g;
      stays = k;
      version_is = sym (ap (λ (o : OlderVersion). o.live.version) e);
      taken_is = sym (ap (λ (o : OlderVersion). o.taken) e);
      all_live = all;
    }

-- all versions are live, so an older one stays
is_full : (m l n : EditorMeaning) (count released : ℕ) (xs : List OlderVersion) (x : OlderVersion) → GivesUp count m l → Stops l n released
    → (oldest_first n.older) ≡ xs → x ≡ get_or xs 0 x → length n.older + 1 ≡ n.sizes.versions
    → IsFullOf x.live.version x.taken released m n
is_full m l n count released xs x g s is first all = elim s [
  | inl t ↦ let none : length n.older ≡ 0 = ap (λ (y : EditorMeaning). length y.older) t.1 ∙ ap length t.0 in let some = n.sizes.versions_in in
      absurd (omega arith)
  | inr k ↦ full_of m l n count released xs x g k is first all
]

pub returns-then-count-self-clause-same : goal.returns-then-count-self-clause-same
returns-then-count-self-clause-same g c = let q = c.give_up_dropped-given in let m = editor_of c.args.self.now in let n = editor_of q.new.self in
    same_editor m n (alike_given m q.ensures.given.0 n q.result.count q.result.released q.ensures.given.1 q.ensures.given.2)

pub returns-then-count-self-clause-cause : goal.returns-then-count-self-clause-cause
returns-then-count-self-clause-cause g c = let q = c.give_up_dropped-given in let e = q.new.self in
    is_full (editor_of c.args.self.now) q.ensures.given.0 (editor_of e) q.result.count q.result.released e.lives.older.items c.index-oldest.result.now
    q.ensures.given.1 q.ensures.given.2 e.noted.older_is c.index-oldest.ensures
    (ap (λ (n : ℕ). n + 1) (sym (older_many (role_of (view_of e.hand)) e.lives e.noted e.keeps_all)) ∙ sym c.count.ensures ∙ c.if-count-self.true
    ∙ ap (λ (z : Sizes). z.versions) (sym e.measured))

pub returns-then-count-self-clause-unchanged : goal.returns-then-count-self-clause-unchanged
returns-then-count-self-clause-unchanged g c = let q = c.give_up_dropped-given in let m = editor_of c.args.self.now in let n = editor_of q.new.self in
    same_version m n (alike_given m q.ensures.given.0 n q.result.count q.result.released q.ensures.given.1 q.ensures.given.2)

pub returns-then-self-clause-same : goal.returns-then-self-clause-same
returns-then-self-clause-same g c = let q = c.give_up_dropped-given in let m = editor_of c.args.self.now in let n = editor_of q.new.self in
    same_editor m n (alike_given m q.ensures.given.0 n q.result.count q.result.released q.ensures.given.1 q.ensures.given.2)

pub returns-then-self-clause-cause : goal.returns-then-self-clause-cause
returns-then-self-clause-cause g c = let q = c.give_up_dropped-given in let e = q.new.self in record {
  count = q.result.count;
  gave_up = (q.ensures.given.0, q.result.released, q.ensures.given.1, q.ensures.given.2);
  some_left = λ all. c.if-count-self.false (c.count.ensures ∙ ap (λ (n : ℕ). n + 1) (older_many (role_of (view_of e.hand)) e.lives e.noted e.keeps_all) ∙ all
      ∙ ap (λ (z : Sizes). z.versions) e.measured);
  whole_log = sym e.current ∙ c.if-self.true ∙ ap (λ (z : Sizes). z.log) (sym e.measured);
  entries_are = e.current;
}

pub returns-then-self-clause-unchanged : goal.returns-then-self-clause-unchanged
returns-then-self-clause-unchanged g c = let q = c.give_up_dropped-given in let m = editor_of c.args.self.now in let n = editor_of q.new.self in
    same_version m n (alike_given m q.ensures.given.0 n q.result.count q.result.released q.ensures.given.1 q.ensures.given.2)

pub make_version-requires-clause-room : goal.make_version-requires-clause-room
make_version-requires-clause-room g c = let e = c.give_up_dropped-given.new.self in
    let n = older_many (role_of (view_of e.hand)) e.lives e.noted e.keeps_all in let count = c.count.ensures in
    let versions = ap (λ (z : Sizes). z.versions) (e.lives_measured ∙ sym e.measured) in let some = e.lives.few in let not = c.if-count-self.false in
    let z = ap (λ (z : Sizes). z.versions) e.measured in let log = ap (λ (z : Sizes). z.log) e.measured in let le = e.log_in in let short = c.if-self.false in
    let at = e.current in (omega arith, omega arith)

same_log : (m l n : EditorMeaning) (count released : ℕ) → GivesUp count m l → Stops l n released → n.log ≡ m.log
same_log m l n count released g s = (alike_given m l n count released g s).log

pub make_version-requires-clause-lawful : goal.make_version-requires-clause-lawful
make_version-requires-clause-lawful g c = let q = c.give_up_dropped-given in
    subst (λ (log : List Entry). g.C.Content.lawful (log ++ record { words = c.args.entry.now } ∷ []))
    (sym (same_log (editor_of c.args.self.now) q.ensures.given.0 (editor_of q.new.self) q.result.count q.result.released q.ensures.given.1 q.ensures.given.2))
    c.requires.lawful

pub make_version-requires-clause-leads : goal.make_version-requires-clause-leads
make_version-requires-clause-leads g c = let q = c.give_up_dropped-given in
    subst (λ (log : List Entry). g.H.Chooser.leads c.args.chooser.now log (log ++ record { words = c.args.entry.now } ∷ []))
    (sym (same_log (editor_of c.args.self.now) q.ensures.given.0 (editor_of q.new.self) q.result.count q.result.released q.ensures.given.1 q.ensures.given.2))
    c.requires.leads

pub returns-clause-made : goal.returns-clause-made
returns-clause-made g c = let q = c.give_up_dropped-given in let e = q.new.self in
    let n = older_many (role_of (view_of e.hand)) e.lives e.noted e.keeps_all in let count = c.count.ensures in
    let versions = ap (λ (z : Sizes). z.versions) (e.lives_measured ∙ sym e.measured) in let some = e.lives.few in let not = c.if-count-self.false in
    let z = ap (λ (z : Sizes). z.versions) e.measured in let log = ap (λ (z : Sizes). z.log) e.measured in let le = e.log_in in let short = c.if-self.false in
    let at = e.current in (
      q.result.count,
      editor_of e,
      (q.ensures.given.0, q.result.released, q.ensures.given.1, q.ensures.given.2),
      (omega arith, omega arith),
      c.make_version.ensures.made,
    )

pub returns-clause-same : goal.returns-clause-same
returns-clause-same g c = let q = c.give_up_dropped-given in let m = editor_of c.args.self.now in let n = editor_of q.new.self in
    same_on m n (editor_of c.make_version.new.self)
    (same_editor m n (alike_given m q.ensures.given.0 n q.result.count q.result.released q.ensures.given.1 q.ensures.given.2)) c.make_version.ensures.same
