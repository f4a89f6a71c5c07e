use Rattle.std.proofs.Common.{◌≡◌, ℕ, List, length, take, drop, ap, ◌∙◌, rules}
use Rattle.edit_entry.specs.Entries.{bytes_of, length_in, text_in}
use Rattle.edit_entry.proofs.EntryLaws.{rest_of}
use Rattle.edit_entry.proofs.decoding.text_in.Goals as goal

-- as many bytes as the first word says
text_read : (words bytes : List ℕ) → length words ≡ 32 → bytes ≡ bytes_of (take 31 (drop 1 words)) → take (length_in words) bytes ≡ text_in words
text_read words bytes len is = ap (λ x. take (length_in words) x) (is ∙ ap (λ ws. bytes_of ws) (rest_of words len))

pub returns : goal.returns
returns c =
    let words = c.args.words.now in
    let len : length words ≡ 32 = search rules in
    c.truncate.ensures.items ∙ text_read words c.in_ok-text.text.items len c.in_ok-text.ensures
