-- Rows of the graph by their keys.
use Rattle.std.proofs.Common.{◌≡◌, ◌≢◌, ℕ, zero, suc, ◌+◌, ◌<◌, List, ◌∷◌, ◌++◌, length, slice_index, sym, refl, ap, ◌∙◌, subst, arith}
use Rattle.pin_rule.specs.declared.sizes.Sizes.{Sizes}
use Rattle.pin_rule.specs.declared.view.KnownPlace.{KnownPlace}
use Rattle.pin_rule.specs.Lists.{In}
use Rattle.pin_rule.specs.Rows.{words_of, content_of}
use Rattle.pin_rule.proofs.Frames.{key_alike, word_at}
use Rattle.slot_store.specs.Keys.{row_of, head_of}
use Rattle.slot_store.specs.Known.{LacksKey, HoldsRow, HoldsKey}
use Rattle.slot_store.specs.GraphAnswers.{HasRowWith}
use Rattle.slot_store.proofs.ByWord.{length_row, head_in_row, head_key_is, content_is}
use Rattle.version_store.specs.Graphs.{word_in, row_known, rows_known, IsReadWhole, IsWholeKnown}
use Rattle.version_store.proofs.GraphRows.{row_is, row_from, row_to}
use Rattle.version_store.proofs.LaterRows.{row_of_met}

split_words : (f : ℕ → ℕ) (from a b : ℕ) → words_of f from (a + b) ≡ words_of f from a ++ words_of f (from + a) b
split_words f from zero b = ap (words_of f from) (let r : 0 + b ≡ b = omega arith in r)
    ∙ ap (λ (n : ℕ). words_of f n b) (let r : from ≡ from + 0 = omega arith in r)
split_words f from (suc a) b = ap (words_of f from) (let r : suc a + b ≡ suc (a + b) = omega arith in r)
    ∙ ap (λ (l : List ℕ). f from ∷ l) (split_words f (suc from) a b
    ∙ ap (λ (n : ℕ). words_of f (suc from) a ++ words_of f n b) (let r : suc from + a ≡ from + suc a = omega arith in r))

count_words : (f : ℕ → ℕ) (from n : ℕ) → length (words_of f from n) ≡ n
count_words f from zero = refl
count_words f from (suc n) = ap suc (count_words f (suc from) n)

same_word : (f g : ℕ → ℕ) → content_of f ≡ content_of g → (index : ℕ) → index < 2 + (f 0 + f 1) → index < 2 + (g 0 + g 1) → f index ≡ g index
same_word f g e index lt less = let here : 0 + index ≡ index = omega arith in
    ap f (sym here) ∙ sym (word_at f 0 (2 + (f 0 + f 1)) index lt) ∙ ap (λ (l : List ℕ). slice_index l index) e
    ∙ word_at g 0 (2 + (g 0 + g 1)) index less ∙ ap g here

-- rows with the same words have the same word at each index
pub content_word : (f g : ℕ → ℕ) → content_of f ≡ content_of g → (index : ℕ) → index < 2 + (f 0 + f 1) → f index ≡ g index
content_word f g e index lt = let a = same_word f g e 0 (omega arith) (omega arith) in let b = same_word f g e 1 (omega arith) (omega arith) in
    same_word f g e index lt (omega arith)

module _ (z : Sizes) (ks : List KnownPlace) (known : IsWholeKnown z ks) (key : List ℕ) where
  read : (k : KnownPlace) → In k ks → k.met ≢ 0 → IsReadWhole k.words
  read k i ne = let row = row_of_met k.met ne in known.rows k row.0 i row.1

  pub lacks_row : LacksKey ks key → ¬ (HasRowWith (rows_known ks) key)
  lacks_row lacks h = let k = row_from ks h.0 h.1 in let payload = h.2.0 in
      let same = content_word (word_in k.0.words) (slice_index (row_of key payload)) (sym k.3 ∙ h.2.1 ∙ sym (content_is key payload)) in
      let a : word_in k.0.words 0 ≡ length key = same 0 (omega arith) in
      lacks k.0 k.1 (
        k.2,
        λ index of. let lt = of.0 in
            subst (λ (x : ℕ). In (index, x) k.0.words) (same index (omega arith) ∙ head_in_row key payload index of) (read k.0 k.1 k.2 index (omega arith)),
      )

  pub holds_row : (payload : List ℕ) → HoldsRow ks (row_of key payload) → In (row_of key payload) (rows_known ks)
  holds_row payload h = let there = read h.at h.there h.taken in let long = length_row key payload in
      let a : word_in h.at.words 0 ≡ length key = h.alike 0 (word_in h.at.words 0) (omega arith) (there 0 (omega arith)) in
      let b : word_in h.at.words 1 ≡ length payload = h.alike 1 (word_in h.at.words 1) (omega arith) (there 1 (omega arith)) in
      subst (λ (r : List ℕ). In r (rows_known ks)) (row_is h.at (row_of key payload) long
      (λ index lt. h.alike index (word_in h.at.words index) lt (there index (omega arith)))) (row_to ks h.at h.there h.taken)

  pub holds_key : HoldsKey ks key → HasRowWith (rows_known ks) key
  holds_key h = let f = word_in h.at.words in let there = read h.at h.there h.taken in
      let a : word_in h.at.words 0 ≡ length key = h.alike 0 (word_in h.at.words 0) (omega arith, λ e. omega arith) (there 0 (omega arith)) in
      let payload = words_of (word_in h.at.words) (2 + word_in h.at.words 0) (word_in h.at.words 1) in
      let long : word_in h.at.words 1 ≡ length (words_of (word_in h.at.words) (2 + word_in h.at.words 0) (word_in h.at.words 1))
      = sym (count_words (word_in h.at.words) (2 + word_in h.at.words 0) (word_in h.at.words 1)) in
      let key_there = key_alike (word_in h.at.words) (slice_index (head_of key))
      (λ index of. let lt = of.0 in h.alike index (word_in h.at.words index) of (there index (omega arith))) ∙ head_key_is key in
      let rest = split_words (word_in h.at.words) 2 (word_in h.at.words 0) (word_in h.at.words 1)
      ∙ ap (λ (l : List ℕ). l ++ words_of (word_in h.at.words) (2 + word_in h.at.words 0) (word_in h.at.words 1)) key_there in
      let two : 2 + (word_in h.at.words 0 + word_in h.at.words 1) ≡ suc (suc (word_in h.at.words 0 + word_in h.at.words 1)) = omega arith in (
        row_known h.at,
        row_to ks h.at h.there h.taken,
        (payload, ap (words_of (word_in h.at.words) 0) two ∙ (λ i. a i ∷ long i ∷ rest i)),
      )
