-- What a script asks for may be asked.
use Rattle.std.proofs.Common.{◌≡◌, ℕ, ◌<◌, ◌≤◌, Bool, true, false, not, List, [], ◌∷◌, ◌++◌, length, cond, ◌==◌, refl, ap, arith, length-append}
use Rattle.std.specs.Prelude.{sum_by}
use Rattle.std.specs.List.{AllByRecursion, list_all}
use Rattle.std.proofs.lemmas.Bool.{and_from}
use Rattle.std.proofs.lemmas.List.Sums.{sum_by-cons}
use Rattle.grammar_text.specs.declared.edit.Edit.{Edit as AnEdit}
use Rattle.grammar_text.specs.declared.edit.Edit.TheVariants.{AddRule, DropRule, AddToken, DropToken, AddSkip, DropSkip}
use Rattle.grammar_text.specs.Pieces.{IsLine, AreBytes}
use Rattle.grammar_text.proofs.Soundness.{is_sound}
use Rattle.edit_log.specs.Verdict.{HasExpression as HasAdded}
use Rattle.script_text.specs.declared.command.Command.{Command}
use Rattle.script_text.specs.declared.command.Block.{Block}
use Rattle.script_text.specs.declared.command.Block.TheVariants.{Alone, Par}
use Rattle.script_text.specs.declared.command.Script.{Script}
use Rattle.script_text.specs.declared.limits.TheConstants.{COMMAND_LIMIT}
use Rattle.script_text.specs.Lines.{before_first_line, lines_of}
use Rattle.script_text.specs.Forms.{Sort}
use Rattle.script_text.specs.Expressions.{AddsExpression}
use Rattle.script_text.specs.Commands.{SpellsAs, an_edit, a_text, a_scan, a_count}
use Rattle.script_text.specs.Scripts.{Read, nothing, size_of, ReadsLine, passes, adds, TakesAll, none, more, SpellsScript}
use Rattle.replies.specs.Blocks.{IsProperCommand, IsProperBlock}

-- ---- lines

-- bytes, and none of them 10
abbrev IsByteLine : List ℕ → Type 0
IsByteLine line = IsLine line × AreBytes line

is_line_more : (byte : ℕ) (lines : List (List ℕ)) → byte < 256 → not (byte == 10) ≡ true → AllByRecursion IsByteLine lines
    → AllByRecursion IsByteLine (before_first_line byte lines)
is_line_more byte [] small other all = ((and_from (not (byte == 10)) true other refl, (small, tt)), tt)
is_line_more byte (line ∷ lines) small other all = ((and_from (not (byte == 10)) (list_all (λ b. not (b == 10)) line) other all.0.0, (small, all.0.1)), all.1)

are_lines_go : (end : Bool) (byte : ℕ) (lines : List (List ℕ)) → byte < 256 → byte == 10 ≡ end → AllByRecursion IsByteLine lines
    → AllByRecursion IsByteLine (cond end ([] ∷ lines) (before_first_line byte lines))
are_lines_go true byte lines small is all = ((refl, tt), all)
are_lines_go false byte lines small is all = is_line_more byte lines small (ap not is) all

are_lines : (bytes : List ℕ) → AreBytes bytes → AllByRecursion IsByteLine (lines_of bytes)
unfolding lines_of
are_lines [] small = tt
are_lines (byte ∷ bytes) small = are_lines_go (byte == 10) byte (lines_of bytes) small.0 refl (are_lines bytes small.1)

-- ---- commands

proper_edit : (edit : AnEdit) → AddsExpression edit → HasAdded edit
proper_edit (AddRule r) has = tt
proper_edit (DropRule r) has = tt
proper_edit (AddToken d) has = has
proper_edit (DropToken name) has = tt
proper_edit (AddSkip d) has = has
proper_edit (DropSkip name) has = tt

proper : (line : List ℕ) (sort : Sort) (command : Command) → IsByteLine line → SpellsAs sort line command → IsProperCommand command
proper line sort command is (an_edit {edit = edit} spelled within has) = (is_sound line edit is.0 is.1 spelled within, proper_edit edit has)
proper line sort command is (a_text spelled) = spelled.within
proper line sort command is (a_scan spelled) = spelled.within
proper line sort command is a_count = tt

all_push : {X : Type 0} (P : X → Type 0) (xs : List X) (x : X) → AllByRecursion P xs → P x → AllByRecursion P (xs ++ x ∷ [])
all_push P [] x all here = (here, tt)
all_push P (y ∷ xs) x all here = (all.0, all_push P xs x all.1 here)

takes_one : (old new : Read) (line : List ℕ) → IsByteLine line → AllByRecursion IsProperBlock old.blocks → ReadsLine old line new
    → AllByRecursion IsProperBlock new.blocks
takes_one old new line is all (passes form) = all
takes_one old new line is all (adds sort command form room spelled) = all_push IsProperBlock old.blocks (Alone command) all
    (proper line sort command is spelled)

takes_all : (lines : List (List ℕ)) (old last : Read) → AllByRecursion IsByteLine lines → AllByRecursion IsProperBlock old.blocks → TakesAll old lines last
    → AllByRecursion IsProperBlock last.blocks
takes_all [] old last are all none = all
takes_all (line ∷ lines) old last are all (more {new = new} first others) = takes_all lines new last are.1 (takes_one old new line are.0 all first) others

pub all_proper : (bytes : List ℕ) (script : Script) → AreBytes bytes → SpellsScript bytes script → AllByRecursion IsProperBlock script.blocks
all_proper bytes script small spelled = takes_all (lines_of bytes) nothing (record { blocks = script.blocks }) (are_lines bytes small) tt spelled

-- ---- how many commands

count_all : (blocks : List Block) → AllByRecursion IsProperBlock blocks → sum_by size_of blocks ≡ length blocks
count_all [] all = refl
count_all (Alone command ∷ blocks) all = omega (arith, sum_by-cons size_of (Alone command) blocks, count_all blocks all.1)
count_all (Par commands ∷ blocks) all = absurd all.0

few_one : (old new : Read) (line : List ℕ) → AllByRecursion IsProperBlock old.blocks → length old.blocks ≤ COMMAND_LIMIT → ReadsLine old line new
    → length new.blocks ≤ COMMAND_LIMIT
few_one old new line all few (passes form) = few
few_one old new line all few (adds sort command form room spelled) =
    omega (arith, room, count_all old.blocks all, length-append old.blocks (Alone command ∷ []))

few_all : (lines : List (List ℕ)) (old last : Read) → AllByRecursion IsByteLine lines → AllByRecursion IsProperBlock old.blocks
    → length old.blocks ≤ COMMAND_LIMIT → TakesAll old lines last → length last.blocks ≤ COMMAND_LIMIT
few_all [] old last are all few none = few
few_all (line ∷ lines) old last are all few (more {new = new} first others) =
    few_all lines new last are.1 (takes_one old new line are.0 all first) (few_one old new line all few first) others

pub few_blocks : (bytes : List ℕ) (script : Script) → AreBytes bytes → SpellsScript bytes script → length script.blocks ≤ COMMAND_LIMIT
few_blocks bytes script small spelled =
    few_all (lines_of bytes) nothing (record { blocks = script.blocks }) (are_lines bytes small) tt (omega arith) spelled
