-- Passes that come back from their work are all of the editor's table.
use Rattle.std.proofs.Common.{◌≡◌, ℕ, ◌*◌, ◌/◌, ◌≤◌, List, [], ◌∷◌, ◌++◌, map, length, refl, sym, ap, ◌∙◌, subst, arith}
use Rattle.std.proofs.lemmas.List.{map-append}
use Rattle.atomic_table.specs.Seated.{TableId}
use Rattle.pin_rule.specs.Lists.{Each, total}
use Rattle.pin_rule.proofs.Lists.{each_append, each_mapped, total_append}
use Rattle.slot_store.specs.declared.pass.Pass.{Pass}
use Rattle.slot_store.specs.Meaning.{Meaning, PassMeaning}
use Rattle.slot_store.specs.Means.{pass_of}
use Rattle.slot_store.specs.Pinning.{TakesPin, DropsPin}
use Rattle.version_store.specs.Meaning.{BenchMeaning, EditorMeaning}
use Rattle.version_store.specs.Edits.{IsSameEditor}
use Rattle.version_store.specs.Parts.{IsNewPass, Parts}
use Rattle.version_store.specs.Gathering.{AreAllOf, Gathers}
use Rattle.version_store_soak.specs.Working.{StaysSeated, IsBack, AreBack, HasPinsOfTable}

-- One pass

pub stays_back : (p : PassMeaning) → IsBack p p
stays_back p = record { table = refl; share = refl; pins_left = omega arith }

pub back_on : (p q r : PassMeaning) → IsBack p q → IsBack q r → IsBack p r
back_on p q r a b = record {
  table = b.table ∙ a.table;
  share = b.share ∙ a.share;
  pins_left = (let c = a.pins_left in let d = b.pins_left in omega arith);
}

-- a pass that pinned, worked and unpinned
pub visited : (p : PassMeaning) (m n : Meaning) (q : PassMeaning) → TakesPin p m → StaysSeated m n → DropsPin n q → IsBack p q
visited p m n q pins stays drops = record {
  table = sym drops.user.table ∙ stays.table ∙ pins.user.table;
  share = sym drops.user.share ∙ stays.share ∙ pins.user.share;
  pins_left = (let a = pins.left in let b = stays.pins_left in let c = drops.left in omega arith);
}

-- Some passes

pub none_back : AreBack [] []
none_back = record { tables = λ t h. h; shares = refl; pins_left = omega arith }

module _ (p q : PassMeaning) (ps qs : List PassMeaning) (one : IsBack p q) (others : AreBack ps qs) where
  tables_back : (t : TableId × ℕ) → (ks : List PassMeaning) → Each (λ (k : PassMeaning). k.table ≡ t) (ks ++ p ∷ [])
      → Each (λ (k : PassMeaning). k.table ≡ t) ks × (p.table ≡ t)
  tables_back t [] h = (tt, h.0)
  tables_back t (k ∷ ks) h = let r = tables_back t ks h.1 in ((h.0, r.0), r.1)

  -- those before it and the last one
  pub last_back : AreBack (ps ++ p ∷ []) (qs ++ q ∷ [])
  last_back = record {
    tables = λ t h. let r = tables_back t ps h in
        each_append (λ (k : PassMeaning). k.table ≡ t) qs (q ∷ []) (others.tables t r.0) (one.table ∙ r.1, tt);
    shares = (let a = total_append (λ (k : PassMeaning). k.share) ps p in let b = total_append (λ (k : PassMeaning). k.share) qs q in
        let c = others.shares in let d = one.share in omega arith);
    pins_left = (let a = total_append (λ (k : PassMeaning). k.pins_left) ps p in
        let b = total_append (λ (k : PassMeaning). k.pins_left) qs q in let c = others.pins_left in let d = one.pins_left in omega arith);
  }

module _ {C : Type 0} where
  -- the same of the passes themselves
  pub passes_back : (p q : Pass C) (all ps qs back : List (Pass C)) → all ≡ ps ++ p ∷ [] → back ≡ qs ++ q ∷ [] → IsBack (pass_of p) (pass_of q)
      → AreBack (map pass_of ps) (map pass_of qs) → AreBack (map pass_of all) (map pass_of back)
  passes_back p q all ps qs back is are one others =
      let before = ap (map pass_of) is ∙ map-append pass_of ps (p ∷ []) in
      let after = ap (map pass_of) are ∙ map-append pass_of qs (q ∷ []) in
      subst (λ ks. AreBack ks (map pass_of back)) (sym before) (subst (AreBack (map pass_of ps ++ pass_of p ∷ [])) (sym after)
      (last_back (pass_of p) (pass_of q) (map pass_of ps) (map pass_of qs) one others))

  -- All of one part

  total_shares : (ps : List (Pass C)) → total (λ (p : PassMeaning). p.share) (map pass_of ps) ≡ total (λ (p : Pass C). (pass_of p).share) ps
  total_shares [] = refl
  total_shares (p ∷ ps) = let h = total_shares ps in omega arith

  total_pins : (m : BenchMeaning) (pins : ℕ) (ps : List (Pass C)) → Each (λ (p : Pass C). IsNewPass m pins (pass_of p)) ps
      → total (λ (p : PassMeaning). p.pins_left) (map pass_of ps) ≡ length ps * pins
  total_pins m pins [] h = omega arith
  total_pins m pins (p ∷ ps) h = let a = total_pins m pins ps h.1 in let b = h.0.pins_left in omega arith

  pub all_back : (m : BenchMeaning) (count : ℕ) (e f : EditorMeaning) (ps qs : List (Pass C)) → m.pins_left ≤ m.sizes.pins → Parts m count e ps
      → IsSameEditor e f → AreBack (map pass_of ps) (map pass_of qs) → AreAllOf f (map pass_of qs)
  all_back m count e f ps qs few parts same back =
      let table : f.table ≡ m.table = same.table ∙ parts.table in
      let tables : Each (λ (k : PassMeaning). k.table ≡ f.table) (map pass_of ps) =
      each_mapped (λ (p : Pass C). IsNewPass m (m.pins_left / count) (pass_of p)) (λ (k : PassMeaning). k.table ≡ f.table) pass_of
      (λ p new. new.table ∙ sym table) ps parts.each in
      let sizes : f.sizes.pins ≡ m.sizes.pins = ap (λ z. z.pins) (same.sizes ∙ parts.sizes) in
      let taken : length ps * (m.pins_left / count) ≡ count * (m.pins_left / count) = ap (λ n. n * (m.pins_left / count)) parts.many in
      record {
        of_table = record {
          tables = back.tables f.table tables;
          pins = (let a = total_pins m (m.pins_left / count) ps parts.each in let b = back.pins_left in let c = same.pins_left in
              let d = parts.pins_left in omega arith);
        };
        shares = (let a = total_shares ps in let b = back.shares in let c = same.share in let d = parts.shares in omega arith);
      }

-- The bench that they are gathered into

pub gathered_pins : (m : EditorMeaning) (ps : List PassMeaning) (b : BenchMeaning) → AreAllOf m ps → Gathers m ps b → HasPinsOfTable b
gathered_pins m ps b all g = let a = all.of_table.pins in let p = g.pins_left in let z : b.sizes.pins ≡ m.sizes.pins = ap (λ z. z.pins) g.sizes in
    omega arith
