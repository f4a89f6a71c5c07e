use Rattle.std.proofs.Common.{ℕ, ◌∙◌, sym, ◌<◌, ◌^◌, slice_index, arith, false}
use Rattle.regex_ast.proofs.SetLemmas.{words-zero, bits-none, bytes_where-same, bytes_where-none, small_words, all_zero, zero_all}
use Rattle.regex_ast.proofs.byte_set.ByteSet.is_empty.Goals as goal

pub returns : goal.returns
returns c =
    let w : slice_index c.self.inside.words 0 < 2 ^ 64 = omega arith in
    let x : slice_index c.self.inside.words 1 < 2 ^ 64 = omega arith in
    let y : slice_index c.self.inside.words 2 < 2 ^ 64 = omega arith in
    let z : slice_index c.self.inside.words 3 < 2 ^ 64 = omega arith in
    let small : (i : ℕ) → i < 4 → slice_index c.self.inside.words i < 2 ^ 64 = small_words _ w x y z in (
      λ t. let all = all_zero _ _ _ _ (rw c.eq.ensures at t) in
          sym c.self.view_is ∙ bytes_where-same _ (λ b. false) (bits-none c.self.inside.words all.0 all.1 all.2 all.3) ∙ bytes_where-none,
      λ e. let all = words-zero c.self.inside.words c.self.told small (c.self.view_is ∙ e) in
          rw c.eq.ensures (zero_all _ _ _ _ (all 0 (omega arith)) (all 1 (omega arith)) (all 2 (omega arith)) (all 3 (omega arith))),
    )
