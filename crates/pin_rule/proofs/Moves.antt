-- A page after a write that leaves its entries and the rows that they name.
use Rattle.std.proofs.Common.{◌≡◌, ◌≢◌, ℕ, suc, ◌<◌, List, sym, ◌∙◌, subst, arith}
use Rattle.pin_rule.specs.declared.sizes.Sizes.{Sizes}
use Rattle.pin_rule.specs.Layout.{claim, entry, row_at}
use Rattle.pin_rule.specs.Rows.{key_of, on_path}
use Rattle.pin_rule.specs.Pages.{StandsOnPath, IsEntry, IsPage, IsHeld}
use Rattle.pin_rule.proofs.Frames.{Same, key_same, content_same}
use Rattle.pin_rule.proofs.Paths.{on_page}

module _ (F : List ℕ → Type 0) (z : Sizes) (words words' : List ℕ) (page : ℕ) where
  -- an entry stands where its row is in use and the same, and where no place was emptied
  pub entry_moves : (p r : ℕ) → p < z.places → IsEntry z words F page p r → claim z words' r ≡ 1 → Same z.width (row_at z words r) (row_at z words' r)
      → ((q : ℕ) → q < z.places → entry z words page q ≢ 0 → entry z words' page q ≢ 0) → IsEntry z words' F page p r
  entry_moves p r inside e c s up =
      let f = row_at z words r in let g = row_at z words' r in let room = e.room in
      let a : f 0 ≡ g 0 = s 0 (omega arith) in let b : f 1 ≡ g 1 = s 1 (omega arith) in
      let k : key_of f ≡ key_of g = key_same f g z.width (omega arith) s in
      record {
        in_range = e.in_range;
        in_use = c;
        room = omega arith;
        fitting = subst F (content_same f g z.width room s) e.fitting;
        path = subst (λ (key : List ℕ). StandsOnPath z words' page p key) k (
          e.path.0,
          e.path.1,
          e.path.2,
          λ q lt. up (on_path z (key_of f) q)
              (on_page z (key_of f) (omega arith) q) (e.path.3 q lt),
        );
      }

  -- each place is as it was, and each row that a place holds is in use and as it was
  pub record KeptPage : Type 0 where
    pub places : (p : ℕ) → p < z.places → entry z words' page p ≡ entry z words page p
    pub in_use : (r : ℕ) → r < z.rows → claim z words r ≡ 1 → IsHeld z words page r → claim z words' r ≡ 1
    pub rows : (r : ℕ) → r < z.rows → claim z words r ≡ 1 → IsHeld z words page r → Same z.width (row_at z words r) (row_at z words' r)

  pub held_on : KeptPage → (r : ℕ) → IsHeld z words page r → IsHeld z words' page r
  held_on kept r x = (x.0, x.1, kept.places x.0 x.1 ∙ x.2)

  pub held_back : KeptPage → (r : ℕ) → IsHeld z words' page r → IsHeld z words page r
  held_back kept r x = (x.0, x.1, sym (kept.places x.0 x.1) ∙ x.2)

  module _ (h : IsPage z words F page) (kept : KeptPage) where
    pub row_moves : (p r : ℕ) → p < z.places → entry z words page p ≡ suc r → Same z.width (row_at z words r) (row_at z words' r)
    row_moves p r inside e = let i = h.entries p r inside e in kept.rows r i.in_range i.in_use (p, inside, e)

    pub page_moves : IsPage z words' F page
    page_moves = record {
      entries = λ p r inside e'. let e : entry z words page p ≡ suc r = sym (kept.places p inside) ∙ e' in let i = h.entries p r inside e in
          entry_moves p r inside i (kept.in_use r i.in_range i.in_use (p, inside, e)) (row_moves p r inside e) (λ q qi ne z'. ne (sym (kept.places q qi) ∙ z'));
      keys_once = λ p q a b pi qi ea' eb' k. let ea : entry z words page p ≡ suc a = sym (kept.places p pi) ∙ ea' in
          let eb : entry z words page q ≡ suc b = sym (kept.places q qi) ∙ eb' in
          let ra = (h.entries p a pi ea).room in let rb = (h.entries q b qi eb).room in
          h.keys_once p q a b pi qi ea eb
          (key_same (row_at z words a) (row_at z words' a) z.width (omega arith) (row_moves p a pi ea) ∙ k
          ∙ sym (key_same (row_at z words b) (row_at z words' b) z.width (omega arith) (row_moves q b qi eb)));
    }
