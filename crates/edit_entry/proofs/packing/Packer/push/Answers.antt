use Rattle.std.proofs.Common.{◌≡◌, ◌<◌, ◌∷◌, [], ◌++◌, ℕ, List, length, get_or, ap, sym, subst, arith}
use Rattle.edit_entry.specs.Entries.{words_for, text_in}
use Rattle.edit_entry.proofs.EntryPacking.{text_bytes, first_word, Closes, pushed, pushed_closes}
use Rattle.edit_entry.proofs.packing.Packer.push.Goals as goal

-- the first word is how many bytes there are
short : (words text : List ℕ) → words ≡ words_for (text_in words) → text_in words ≡ text → length text < 248 → get_or words 0 0 < 248
short words text packed is small =
    let len : get_or words 0 0 ≡ length (text_in words) = first_word words (text_in words) packed in
    let same : length (text_in words) ≡ length text = ap length is in
    omega arith

closed : (words text : List ℕ) (byte b : ℕ) → words ≡ words_for (text_in words) → text_in words ≡ text → length text < 248 → b ≡ byte → byte < 256
    → Closes (pushed words b) (text ++ byte ∷ [])
closed words text byte b packed is small same fits =
    let len : length (text_in words) ≡ length text = ap length is in
    subst (λ (x : ℕ). Closes (pushed words x) (text ++ byte ∷ [])) (sym same)
    (subst (λ (t : List ℕ). Closes (pushed words byte) (t ++ byte ∷ [])) is (pushed_closes words (text_in words) byte packed (text_bytes words)
    (omega arith) fits))

pub offset_bounds-self-inside-word : goal.offset_bounds-self-inside-word
offset_bounds-self-inside-word c = record {
  fits = (let s = short c.self.inside.words c.args.self.now c.self.invariant c.self.view_is c.requires in
      omega arith);
}

pub bounds-self-inside-word : goal.bounds-self-inside-word
bounds-self-inside-word c = let s = short c.self.inside.words c.args.self.now c.self.invariant c.self.view_is c.requires in omega arith

pub bounds-self-inside-word-2 : goal.bounds-self-inside-word-2
bounds-self-inside-word-2 c = let s = short c.self.inside.words c.args.self.now c.self.invariant c.self.view_is c.requires in omega arith

pub overflow_add-self : goal.overflow_add-self
overflow_add-self c = record { fits = (let s = short c.self.inside.words c.args.self.now c.self.invariant c.self.view_is c.requires in omega arith) }

pub invariant_of-self : goal.invariant_of-self
invariant_of-self c = (closed c.self.inside.words c.args.self.now c.args.byte c.from.result c.self.invariant c.self.view_is c.requires c.from.ensures
    c.ranges.byte.fits).packed

pub returns : goal.returns
returns c = (closed c.self.inside.words c.args.self.now c.args.byte c.from.result c.self.invariant c.self.view_is c.requires c.from.ensures
    c.ranges.byte.fits).text_is
