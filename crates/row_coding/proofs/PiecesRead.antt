-- A piece that a list of words begins with: its first word, its own words, and what follows.
use Rattle.std.proofs.Common.{◌≡◌, ℕ, ◌+◌, List, ◌∷◌, ◌++◌, length, get_or, take, drop, refl, ap, ◌∙◌, arith, length-append}
use Rattle.std.proofs.lemmas.List.{take_at, drop_at}
use Rattle.row_coding.specs.Reading.{IsCounted, counted_words, rest_of}

module _ (words : List ℕ) (head : ℕ) (own after : List ℕ) (is : words ≡ head ∷ length own ∷ (own ++ after)) where
  pub first_word : get_or words 0 0 ≡ head
  first_word = ap (λ ws. get_or ws 0 0) is

  count_word : get_or words 1 0 ≡ length own
  count_word = ap (λ ws. get_or ws 1 0) is

  pub is_piece : IsCounted words
  is_piece = record {
    some = omega (arith, ap length is);
    whole = omega (arith, ap length is, count_word, length-append own after);
  }

  pub own_words : counted_words words ≡ own
  own_words = ap (λ n. take n (drop 2 words)) count_word ∙ ap (λ ws. take (length own) (drop 2 ws)) is ∙ take_at own after (length own) refl

  pub words_after : rest_of words ≡ after
  words_after =
      ap (λ n. drop (n + 2) words) count_word ∙ ap (λ ws. drop (length own + 2) ws) is
      ∙ drop_at (head ∷ length own ∷ own) after (length own + 2) (omega arith)
