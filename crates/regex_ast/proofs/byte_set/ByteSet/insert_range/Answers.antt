-- Each turn sets the bit of one more byte.
use Rattle.std.proofs.Common.{arith, ◌+◌, ◌≡◌, ◌<◌, ℕ, Bool, ◌||◌, ◌&&◌, nat_le, nat_lt, subst, sym, ◌∙◌, length-set, inl, inr}
use Rattle.std.proofs.lemmas.Bool.{cases_lt}
use Rattle.regex_ast.proofs.SetLemmas.{bits-more, set_with_range, no_more, all_of_them}
use Rattle.regex_ast.proofs.byte_set.ByteSet.insert_range.Goals as goal

pub loop-byte-preserved : goal.loop-byte-preserved
loop-byte-preserved c =
    let small : c.loop-byte.byte < 256 = omega arith in (
      length-set _ _ _ ∙ c.loop-byte.invariant.0,
      λ h. absurd (omega arith),
      rw c.from.ensures (bits-more c.self.inside.words c.loop-byte.self-inside.words c.args.low c.loop-byte.byte c.loop-byte.invariant.0 small
          c.loop-byte.auto.byte c.loop-byte.invariant.2),
    )

pub returns : goal.returns
returns c =
    let none : c.args.high < c.args.low =
    elim (cases_lt c.args.high c.args.low) [ inl h ↦ h | inr h ↦ absurd (omega (arith, c.loop-byte.auto.byte-end h)) ] in
    set_with_range c.self.inside.words c.loop-byte.self-inside.words c.args.self.now c.args.low c.args.high c.loop-byte.byte c.self.view_is
    c.loop-byte.invariant.2
    (subst (λ n. (s : Bool) (b : ℕ) → (s || (nat_le c.args.low b && nat_lt b n)) ≡ (s || (nat_le c.args.low b && nat_le b c.args.high)))
    (sym (c.loop-byte.invariant.1 none)) (no_more c.args.low c.args.high none))

pub returns-2 : goal.returns-2
returns-2 c =
    let small : c.loop-byte.byte < 256 = omega arith in
    let last : c.loop-byte.byte ≡ c.args.high = omega arith in
    rw c.from.ensures
    (set_with_range c.self.inside.words _ c.args.self.now c.args.low c.args.high (c.loop-byte.byte + 1) c.self.view_is
    (bits-more c.self.inside.words c.loop-byte.self-inside.words c.args.low c.loop-byte.byte c.loop-byte.invariant.0 small c.loop-byte.auto.byte
    c.loop-byte.invariant.2)
    (rw last (all_of_them c.args.low c.args.high)))
