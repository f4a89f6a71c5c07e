-- A seat that is split, and one that takes in another, keep the rule.
use Rattle.std.proofs.Common.{◌≡◌, ◌≢◌, ℕ, ◌≤◌, List, [], ◌∷◌, ◌++◌, inl, inr, set, sym, refl, ap, ◌∙◌, subst, arith}
use mathlib.Core.Option as maybe
use lib.ListN.{get_elem?}
use Rattle.std.specs.Prelude.{None}
use Rattle.atomic_table.proofs.Lists.{at_snoc, at_longer, at_set, set_else}
use Rattle.pin_rule.specs.declared.content.Entry.{Entry}
use Rattle.pin_rule.specs.declared.view.View.{View}
use Rattle.pin_rule.specs.declared.view.OwnRow.{OwnRow}
use Rattle.pin_rule.specs.Views.{OwnsAt, EachView}
use Rattle.pin_rule.specs.PartCurrent.{KnowsLog}
use Rattle.pin_rule.specs.PartLive.{PinsLive, pins_on, one_pin, pins_of}
use Rattle.pin_rule.specs.PartFacts.{EntryStands, WordStands, Knows, KnowsWhole}
use Rattle.pin_rule.specs.PartShares.{IsRightful}
use Rattle.pin_rule.specs.Lawful.{IsMeasured}
use Rattle.pin_rule.specs.Steps.{after_split, split_off, after_join, spent_view}
use Rattle.pin_rule.specs.Keeps.{KeepsSplit, KeepsJoin}
use Rattle.pin_rule.proofs.Lists.{total_set, total_alike, total_append, each_append}
use Rattle.pin_rule.proofs.Seats.{none_some, each_set, owns_cases, owns_else, owned_before, owned_after, claims_by, editor_on}

module _ (L : List Entry → Type 0) (F : List Entry → List ℕ → Type 0) (v : View) where
  pub keeps_split : (pins : ℕ) → pins ≤ v.pins_left → KeepsSplit L F v pins
  keeps_split pins enough id s h at =
      let z = v.sizes in let words = s.words in let views = s.views in let w = after_split v pins in let new = split_off v pins in let vs = set views id w in
      let views' = vs ++ new ∷ [] in
      let each : (P : View → Type 0) → P w → P new → EachView views P → EachView views' P = λ P kept mine others j u e. elim (at_snoc vs new u j e) [
        | inl x ↦
            each_set views id v w at P kept others j u x
        | inr x ↦ subst P x mine
      ] in
      let back : (i : ℕ) (o : OwnRow) → OwnsAt views' i o → OwnsAt views i o = λ i o x. elim (at_snoc vs new x.0 i x.1) [
        | inl t ↦ owned_before views id v w at refl i o (x.0, t, x.2)
        | inr t ↦ absurd (none_some o (ap (λ (u : View). u.own) t ∙ x.2))
      ] in
      let on : (i : ℕ) (o : OwnRow) → OwnsAt views i o → OwnsAt views' i o = λ i o x. let y = owned_after views id v w at refl i o x in
      (y.0, at_longer vs (new ∷ []) i y.0 y.1, y.2) in
      let my = h.logs id v at in let known = h.facts id v at in let right = h.shares.rightful id v at in
      let editor = editor_on views id v w at h.log h.role (λ _ _. refl) refl h.editor in
      record {
        long = h.long;
        sizes = each (IsMeasured z) (λ _. refl) (λ _. refl) h.sizes;
        log = h.log;
        role = h.role;
        taken = h.taken;
        editor = record {
          seat = editor.seat;
          view = editor.view;
          at = at_longer vs (new ∷ []) editor.seat editor.view editor.at;
          has = editor.has;
          log_is = editor.log_is;
          one = λ i u r e is. elim (at_snoc vs new u i e) [ inl t ↦ editor.one i u r t is | inr t ↦ absurd (none_some r (ap (λ (x : View). x.role) t ∙ is)) ];
        };
        current = h.current;
        logs = each (KnowsLog h.log) (record { prefix = my.prefix; few = my.few; words = my.words }) (record {
          prefix = my.prefix;
          few = omega arith;
          words =
              λ i lt. absurd (omega arith);
        }) h.logs;
        live = h.live;
        pinned = each (PinsLive h.role) (h.pinned id v at) (λ p e. absurd (none_some p e)) h.pinned;
        pins = record {
          counted = λ l t k. let c = h.pins.counted l t k in let f : View → ℕ = λ u. pins_on l.version u.pinned in let a = total_append f vs new in
              let b = total_alike f views id v w at refl in omega arith;
          from_base = h.pins.from_base;
          released = h.pins.released;
        };
        budget = (let b = h.budget in let a = total_append pins_of vs new in let t = total_set pins_of views id v w at in omega arith);
        pages = h.pages;
        claims = claims_by z words h.role views views' back on h.claims;
        carried = h.carried;
        facts = each (Knows z words h.role) known (tt, tt) h.facts;
        shares = record {
          sum = (let t = total_set (λ (u : View). u.share) views id v w at in let s = h.shares.sum in let a =
              total_append (λ (u : View). u.share) vs new in omega arith);
          rightful = each IsRightful (λ e. right.0 (omega arith), right.1) (λ _. (refl, refl, refl), λ _. refl) h.shares.rightful;
        };
        known = each (KnowsWhole z words h.role) (λ _. tt) (λ _. tt) h.known;
      }

  -- the other seat has a share, and no row, no pin and no role
  pub keeps_join : (o : View) → v.share ≢ 0 → o.own ≡ None → o.pinned ≡ None → o.role ≡ None → KeepsJoin L F v o
  keeps_join o mine none unpinned plain id other s h at apart at' =
      let z = v.sizes in let words = s.words in let views = s.views in let w = after_join v o in let vs = set views id w in
      let views' = set vs other spent_view in
      let was : get_elem? views other ≡ maybe.some o = sym (set_else views id other w apart) ∙ at' in
      let knows = h.facts id v at in let known = h.facts other o was in let right = h.shares.rightful id v at in
      let each : (P : View → Type 0) → P w → P spent_view → EachView views P
      → EachView views' P = λ P kept gone others. each_set vs other o spent_view at' P gone (each_set views id v w at P kept others) in
      let back : (i : ℕ) (p : OwnRow) → OwnsAt views' i p → OwnsAt views i p = λ i p x. elim (owns_cases vs other o spent_view at' i p x) [
        | inl t ↦ absurd (none_some p t.1)
        | inr t ↦ owned_before views id v w at refl i p t.1
      ] in
      let on : (i : ℕ) (p : OwnRow) → OwnsAt views i p → OwnsAt views' i p = λ i p x. let n : i ≢ other =
      λ e. none_some p (sym none ∙ ap (λ (u : View). u.own) (maybe.some-injective o x.0 (sym was ∙ ap (get_elem? views) (sym e) ∙ x.1)) ∙ x.2) in
      owns_else vs other o spent_view at' i p n (owned_after views id v w at refl i p x) in
      let editor = editor_on views id v w at h.log h.role (λ _ _. refl) refl h.editor in
      record {
        long = h.long;
        sizes = each (IsMeasured z) (λ _. refl) (λ n. absurd (n refl)) h.sizes;
        log = h.log;
        role = h.role;
        taken = h.taken;
        editor = record {
          seat = editor.seat;
          view = editor.view;
          at = set_else vs other editor.seat spent_view (λ e. none_some h.role (sym plain ∙ ap (λ (u : View). u.role) (maybe.some-injective o editor.view
              (sym at' ∙ ap (get_elem? vs) (sym e) ∙ editor.at)) ∙ editor.has)) ∙ editor.at;
          has = editor.has;
          log_is = editor.log_is;
          one = λ i u r e is. elim (at_set vs other i spent_view u e) [
            | inl t ↦ absurd (none_some r (ap (λ (x : View). x.role) t.1 ∙ is))
            | inr t ↦
                editor.one i u r t.1 is
          ];
        };
        current = h.current;
        logs = each (KnowsLog h.log) (let my = h.logs id v at in record { prefix = my.prefix; few = my.few; words = my.words }) (record {
          prefix =
              (h.log, refl);
          few = omega arith;
          words = λ i lt. absurd (omega arith);
        }) h.logs;
        live = h.live;
        pinned = each (PinsLive h.role) (h.pinned id v at) (λ p e. absurd (none_some p e)) h.pinned;
        pins = record {
          counted = λ l t k. let c = h.pins.counted l t k in let f : View → ℕ = λ u. pins_on l.version u.pinned in
              let a = total_set f vs other o spent_view at' in let b = total_alike f views id v w at refl in let n = ap (pins_on l.version) unpinned in
              omega arith;
          from_base = h.pins.from_base;
          released = h.pins.released;
        };
        budget = (let b = h.budget in let a = total_set pins_of vs other o spent_view at' in let t = total_set pins_of views id v w at in let n =
            ap one_pin unpinned in omega arith);
        pages = h.pages;
        claims = claims_by z words h.role views views' back on h.claims;
        carried = h.carried;
        facts = each (Knows z words h.role) (
          each_append (EntryStands z words h.role) v.entries o.entries knows.0 known.0,
          each_append (WordStands z words h.role) v.words o.words knows.1 known.1,
        ) (tt, tt) h.facts;
        shares = record {
          sum = (let t = total_set (λ (u : View). u.share) views id v w at in let s = h.shares.sum in let a =
              total_set (λ (u : View). u.share) vs other o spent_view at' in omega arith);
          rightful = each IsRightful (λ e. absurd (mine (omega arith)), right.1) (λ _. (refl, refl, refl), λ _. refl) h.shares.rightful;
        };
        known = each (KnowsWhole z words h.role) (λ _. tt) (λ _. tt) h.known;
      }
