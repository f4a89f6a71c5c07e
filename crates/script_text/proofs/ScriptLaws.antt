-- A text spells at most one script, or it has one first bad line.
use Rattle.std.proofs.Common.{◌≡◌, ℕ, suc, ◌+◌, List, [], ◌∷◌, ◌++◌, length, ◌⊎◌, inl, inr, refl, ap, sym, ◌∙◌, subst, arith}
use Rattle.std.proofs.lemmas.Bool.{cases_lt}
use Rattle.script_text.specs.declared.command.Block.{Block}
use Rattle.script_text.specs.declared.command.Script.{Script}
use Rattle.script_text.specs.declared.bad_script.BadKind.{BadKind}
use Rattle.script_text.specs.declared.bad_script.BadKind.TheVariants.{UnknownCommand, TooManyCommands}
use Rattle.script_text.specs.declared.bad_script.BadScript.{BadScript}
use Rattle.script_text.specs.declared.limits.TheConstants.{COMMAND_LIMIT}
use Rattle.script_text.specs.Lines.{lines_of}
use Rattle.script_text.specs.Forms.{Sort, Form, PassedOver, OtherWord, Asks, form_of}
use Rattle.script_text.specs.Commands.{SpellsAs, IsWrongAs}
use Rattle.script_text.specs.Scripts.{Read, nothing, with_command, count_of, ReadsLine, passes, adds, TakesAll, none, more, SpellsScript, IsBad, unknown}
use Rattle.script_text.specs.Scripts.{too_many, wrong, IsFirstBad, at_line}
use Rattle.script_text.proofs.CommandLaws.{one_command, not_wrong, one_wrong, judged}

-- ---- one line

one_sort : (line : List ℕ) (a b : Sort) → form_of line ≡ Asks a → form_of line ≡ Asks b → a ≡ b
one_sort line a b p q = cc

one_next : (read : Read) (line : List ℕ) (a b : Read) → ReadsLine read line a → ReadsLine read line b → a ≡ b
one_next read line a b (passes e) (passes same) = refl
one_next read line a b (passes e) (adds sort command form room spelled) = cc (e, form)
one_next read line a b (adds sort command form room spelled) (passes e) = cc (e, form)
one_next read line a b (adds sort command form room spelled) (adds again other same space too) =
    ap (with_command read) (one_command sort line command other spelled (subst (λ s. SpellsAs s line other) (one_sort line again sort same form) too))

pub not_bad : (read : Read) (line : List ℕ) (next : Read) (kind : BadKind) → ReadsLine read line next → IsBad read line kind → ⊥
not_bad read line next kind (passes e) (unknown form) = cc (e, form)
not_bad read line next kind (passes e) (too_many sort form full) = cc (e, form)
not_bad read line next kind (passes e) (wrong sort form room is) = cc (e, form)
not_bad read line next kind (adds sort command form room spelled) (unknown other) = cc (other, form)
not_bad read line next kind (adds sort command form room spelled) (too_many again same full) = absurd (omega (arith, room, full))
not_bad read line next kind (adds sort command form room spelled) (wrong again same space is) =
    not_wrong sort line command kind spelled (subst (λ s. IsWrongAs s line kind) (one_sort line again sort same form) is)

one_kind : (read : Read) (line : List ℕ) (a b : BadKind) → IsBad read line a → IsBad read line b → a ≡ b
one_kind read line a b (unknown form) (unknown again) = refl
one_kind read line a b (unknown form) (too_many sort other full) = cc (form, other)
one_kind read line a b (unknown form) (wrong sort other room is) = cc (form, other)
one_kind read line a b (too_many sort form full) (unknown other) = cc (form, other)
one_kind read line a b (too_many sort form full) (too_many again same still) = refl
one_kind read line a b (too_many sort form full) (wrong again same room is) = absurd (omega (arith, room, full))
one_kind read line a b (wrong sort form room is) (unknown other) = cc (form, other)
one_kind read line a b (wrong sort form room is) (too_many again same full) = absurd (omega (arith, room, full))
one_kind read line a b (wrong sort form room is) (wrong again same space too) =
    one_wrong sort line a b is (subst (λ s. IsWrongAs s line b) (one_sort line again sort same form) too)

-- a line leads on, or it is bad
line_judged : (read : Read) (line : List ℕ) → ((next : Read) × ReadsLine read line next) ⊎ ((kind : BadKind) × IsBad read line kind)
line_judged read line = by (form_of line) refl
  where
    by : (form : Form) → form_of line ≡ form → ((next : Read) × ReadsLine read line next) ⊎ ((kind : BadKind) × IsBad read line kind)
    by PassedOver e = inl (read, passes e)
    by OtherWord e = inr (UnknownCommand, unknown e)
    by (Asks sort) e = elim (cases_lt (count_of read) COMMAND_LIMIT) [
      | inl room ↦ elim (judged sort line) [
        | inl found ↦ inl (with_command read found.0, adds sort found.0 e room found.1)
        | inr bad ↦ inr (bad.0, wrong sort e room bad.1)
      ]
      | inr full ↦ inr (TooManyCommands, too_many sort e full)
    ]

-- ---- all lines

pub one_last : (lines : List (List ℕ)) (old a b : Read) → TakesAll old lines a → TakesAll old lines b → a ≡ b
one_last lines old a b none none = refl
one_last lines old a b (more {new = x} {line = line} {lines = rest} first others) (more {new = y} again too) =
    one_last rest x a b others (subst (λ r. TakesAll r rest b) (one_next old line y x again first) too)

pub one_more : (before : List (List ℕ)) (line : List ℕ) (old read next : Read) → TakesAll old before read → ReadsLine read line next
    → TakesAll old (before ++ line ∷ []) next
one_more before line old read next none last = more last none
one_more before line old read next (more {new = new} {lines = lines} first others) last = more first (one_more lines line new read next others last)

-- good lines do not reach past a bad one
past_bad : (before : List (List ℕ)) (line : List ℕ) (after : List (List ℕ)) (old read last : Read) (kind : BadKind)
    → TakesAll old before read → TakesAll old (before ++ line ∷ after) last → IsBad read line kind → ⊥
past_bad before line after old read last kind none (more {new = new} first others) bad = not_bad old line new kind first bad
past_bad before line after old read last kind (more {new = x} {line = l} {lines = lines} first others) (more {new = y} again too) bad =
    past_bad lines line after x read last kind others (subst (λ r. TakesAll r (lines ++ line ∷ after) last) (one_next old l y x again first) too) bad

pub not_both : (bytes : List ℕ) (script : Script) (bad : BadScript) → SpellsScript bytes script → IsFirstBad bytes bad → ⊥
not_both bytes script bad spelled (at_line {kind = kind} before after line read cut good is) =
    past_bad before line after nothing read (record { blocks = script.blocks }) kind good (subst (λ lines. TakesAll nothing lines (record {
      blocks =
          script.blocks;
    })) cut spelled) is

-- a script is its blocks
abbrev script_with : List Block → Script
script_with blocks = record { blocks = blocks }

pub one_script : (bytes : List ℕ) (a b : Script) → SpellsScript bytes a → SpellsScript bytes b → a ≡ b
one_script bytes a b p q =
    let same : a.blocks ≡ b.blocks = ap (λ (read : Read). read.blocks) (one_last (lines_of bytes) nothing (record { blocks = a.blocks }) (record {
      blocks =
          b.blocks;
    }) p q) in
    ap script_with same

-- ---- bad lines

-- the first bad lines of the same lines, read from the same place, are the same
one_place : (before other : List (List ℕ)) (line second : List ℕ) (after behind : List (List ℕ)) (old read found : Read) (a b : BadKind)
    → before ++ line ∷ after ≡ other ++ second ∷ behind → TakesAll old before read → IsBad read line a → TakesAll old other found → IsBad found second b
    → (length before ≡ length other) × (a ≡ b)
one_place before other line second after behind old read found a b cut none bad none too =
    let same : second ≡ line = cc cut in
    (refl, one_kind old line a b bad (subst (λ l. IsBad old l b) same too))
one_place before other line second after behind old read found a b cut none bad (more {new = new} {line = l} first others) too =
    let same : line ≡ l = cc cut in
    absurd (not_bad old l new a first (subst (λ l. IsBad old l a) same bad))
one_place before other line second after behind old read found a b cut (more {new = new} {line = l} first others) bad none too =
    let same : second ≡ l = cc cut in
    absurd (not_bad old l new b first (subst (λ l. IsBad old l b) same too))
one_place before other line second after behind old read found a b cut (more {new = x} {line = l} {lines = lines} first others) bad (more {new = y} {line =
    m} {lines = rest} again goes) too =
    let same : m ≡ l = cc cut in
    let tails : lines ++ line ∷ after ≡ rest ++ second ∷ behind = cc cut in
    let next : y ≡ x = one_next old l y x (subst (λ l. ReadsLine old l y) same again) first in
    let later = one_place lines rest line second after behind x read found a b tails others bad (subst (λ r. TakesAll r rest found) next goes) too in
    (ap suc later.0, later.1)

abbrev bad_at : ℕ → BadKind → BadScript
bad_at line kind = record { line = line; kind = kind }

pub one_bad : (bytes : List ℕ) (a b : BadScript) → IsFirstBad bytes a → IsFirstBad bytes b → a ≡ b
one_bad bytes a b (at_line {kind = x} before after line read cut good is) (at_line {kind = y} other behind second found again too was) =
    let same = one_place before other line second after behind nothing read found x y (sym cut ∙ again) good is too was in
    ap (λ n. bad_at (n + 1) x) same.0 ∙ ap (bad_at (length other + 1)) same.1

-- the lines, read from here, are good up to a bad one
record HasBad (old : Read) (lines : List (List ℕ)) : Type 0 where
  before : List (List ℕ)
  line : List ℕ
  after : List (List ℕ)
  read : Read
  kind : BadKind
  cut : lines ≡ before ++ line ∷ after
  good : TakesAll old before read
  bad : IsBad read line kind

lines_judged : (lines : List (List ℕ)) (old : Read) → ((last : Read) × TakesAll old lines last) ⊎ HasBad old lines
lines_judged [] old = inl (old, none)
lines_judged (line ∷ lines) old = elim (line_judged old line) [
  | inl next ↦ elim (lines_judged lines next.0) [
    | inl last ↦ inl (last.0, more next.1 last.1)
    | inr bad ↦ inr (record {
      before = line ∷ bad.before;
      line = bad.line;
      after = bad.after;
      read = bad.read;
      kind = bad.kind;
      cut = ap (λ ls. line ∷ ls) bad.cut;
      good = more next.1 bad.good;
      bad = bad.bad;
    })
  ]
  | inr bad ↦ inr (record { before = []; line = line; after = lines; read = old; kind = bad.0; cut = refl; good = none; bad = bad.1 })
]

pub judged_whole : (bytes : List ℕ) → ((script : Script) × SpellsScript bytes script) ⊎ ((bad : BadScript) × IsFirstBad bytes bad)
judged_whole bytes = elim (lines_judged (lines_of bytes) nothing) [
  | inl last ↦ inl (script_with last.0.blocks, last.1)
  | inr bad ↦ inr (bad_at (length bad.before + 1) bad.kind, at_line bad.before bad.after bad.line bad.read bad.cut bad.good bad.bad)
]
