-- A script has one output at most.
use Rattle.std.proofs.Common.{◌≡◌, Bool, false, IfSome, ℕ, ◌≤◌, List, [], ◌∷◌, ◌++◌, length, take, Some, None, Option, refl, ap, sym, ◌∙◌, subst}
use Rattle.std.proofs.Common.{arith, append_assoc}
use Rattle.std.proofs.Common.{length-append}
use Rattle.std.specs.List.{AllByRecursion}
use Rattle.std.proofs.lemmas.List.{take-append-le}
use Rattle.bench_io.specs.Known.{Takes, IsKnownAs}
use Rattle.bench_io.proofs.Chains.{Takes-none}
use Rattle.edit_log.specs.History.{Grammar, empty_grammar}
use Rattle.pin_rule.specs.declared.sizes.Sizes.{Sizes}
use Rattle.pin_rule.specs.Layout.{full_sizes}
use Rattle.script_text.specs.declared.command.Command.{Command}
use Rattle.script_text.specs.declared.command.Command.TheVariants.{Stats}
use Rattle.script_text.specs.declared.command.Block.{Block}
use Rattle.script_text.specs.declared.command.Block.TheVariants.{Alone, Par}
use Rattle.script_text.specs.declared.command.Script.{Script}
use Rattle.script_text.proofs.ScriptLaws.{one_script, not_both, one_bad}
use Rattle.workbench.specs.Pieces.{TakesPrefix, TakesProperPrefix}
use Rattle.replies.specs.Lines.{bad_line, reply_text}
use Rattle.replies.specs.declared.reply.Reply.{Reply}
use Rattle.replies.specs.Replies.{grammar_after}
use Rattle.version_store.specs.declared.bench.Bench.{Bench}
use Rattle.script_text.specs.declared.limits.TheConstants.{SCRIPT_LIMIT}
use Rattle.script_text.specs.Scripts.{SpellsScript}
use Rattle.workbench.specs.Benches.{AreAnswers, none, more, RanOver}
use Rattle.workbench.specs.Output.{IsOutput, replies, refusal, IsWithoutStats, HasNoStats}
use Rattle.workbench.specs.Runs.{StopsInOutput, of_replies, of_refusal}
use Rattle.replies.proofs.OneReply.{one_reply}

-- ---- blocks have one list of lines

-- a command that does not ask what is held is another one
not_stats : (command : Command) → IsWithoutStats (Alone command) → command ≡ Stats → ⊥
not_stats command is same = subst (λ c. IsWithoutStats (Alone c)) same is

-- the lines of a command that does not tell how lazy it was
abbrev plain_lines : Grammar → Reply → List ℕ
plain_lines grammar reply = reply_text grammar.symbols reply ++ []

same_lines : (z : Sizes) (grammar : Grammar) (blocks : List Block) (first last others ends : List (List ℕ)) (a b : List ℕ)
    → AllByRecursion IsWithoutStats blocks → AreAnswers false z grammar blocks first last a → AreAnswers false z grammar blocks others ends b → a ≡ b
same_lines z grammar [] _ _ _ _ _ _ all none none = refl
same_lines z grammar (Par commands ∷ blocks) first last others ends a b all e f = elim e [ ]
same_lines z grammar (Alone command ∷ blocks) first last others ends _ _ all (more {reply = r} {next = next} {lines = rs} one left rest)
    (more {reply = s} {next = next'} {lines = ss} one' left' rest') =
    let same : plain_lines grammar r ≡ plain_lines grammar s = ap (plain_lines grammar)
    (one_reply grammar command r s (not_stats command all.0) one one') in
    let further : rs ≡ ss = same_lines z (grammar_after grammar command) blocks next last next' ends rs ss all.1 rest rest' in
    (λ i. same i ++ further i)

-- the lines for the first blocks are a prefix of those for all
record GoesOn (output whole : List ℕ) : Type 0 where
  behind : List ℕ
  is : whole ≡ output ++ behind

front : (z : Sizes) (grammar : Grammar) (part others : List Block) (first last begins ends : List (List ℕ)) (output whole : List ℕ)
    → AllByRecursion IsWithoutStats (part ++ others) → AreAnswers false z grammar part first last output
    → AreAnswers false z grammar (part ++ others) begins ends whole
    → GoesOn output whole
front z grammar [] others _ _ begins ends _ whole all none others_are = record { behind = whole; is = refl }
front z grammar (Par commands ∷ part) others first last begins ends output whole all some others_are = elim some [ ]
front z grammar (Alone command ∷ part) others first last begins ends _ _ all (more {reply = r} {next = next} {lines = rs} one left rest)
    (more {reply = s} {next = next'} {lines = ss} one' left' rest') =
    let same : plain_lines grammar s ≡ plain_lines grammar r = ap (plain_lines grammar)
    (one_reply grammar command s r (not_stats command all.0) one' one) in
    let further = front z (grammar_after grammar command) part others next last next' ends rs ss all.1 rest rest' in
    record { behind = further.behind; is = (λ i. same i ++ further.is i) ∙ sym (append_assoc (plain_lines grammar r) rs further.behind) }

-- ---- a script has one output

pub one_output : (script a b : List ℕ) → HasNoStats script → IsOutput false script a → IsOutput false script b → a ≡ b
one_output script a b without (replies {last = last} read short spelled are) (replies {last = ends} other short' spelled' are') =
    let same = one_script script other read spelled' spelled in
    same_lines full_sizes empty_grammar read.blocks [] last [] ends a b (without read spelled) are
    (subst (λ (r : Script). AreAnswers false full_sizes empty_grammar r.blocks [] ends b) same are')
one_output script a b without (replies read short spelled are) (refusal bad short' first) = absurd (not_both script read bad spelled first)
one_output script a b without (refusal bad short first) (replies read short' spelled are) = absurd (not_both script read bad spelled first)
one_output script _ _ without (refusal bad short first) (refusal other short' first') = ap bad_line (one_bad script bad other first first')

-- the lines of a run over a bench are the output
pub output_of : {C : Type 0} (stats : Bool) (script : List ℕ) (read : Script) → length script ≤ SCRIPT_LIMIT → SpellsScript script read
    → (bench : Option (Bench C))
    (lines : List ℕ) → RanOver stats read.blocks bench lines → IsOutput stats script lines
output_of stats script read short spelled None lines over = absurd over
output_of stats script read short spelled (Some bench) lines over = replies read short spelled over.answers

-- ---- what was taken is a prefix of the output

front_of_part : (old new : Option (List ℕ)) (part whole : List ℕ) → GoesOn part whole → TakesPrefix old new part → TakesPrefix old new whole
front_of_part old new part whole on prefix =
    let n = prefix.0 in
    let few : n ≤ length part = prefix.1 in
    let same : take prefix.0 whole ≡ take prefix.0 part = ap (take prefix.0) on.is ∙ take-append-le prefix.0 part on.behind prefix.1 in
    let long : prefix.0 ≤ length whole = omega (arith, ap length on.is, length-append part on.behind, few) in
    (prefix.0, long, subst (Takes old new) (sym same) prefix.2)

-- a part is a prefix
pub part_is_front : (old new : Option (List ℕ)) (bytes : List ℕ) → TakesProperPrefix old new bytes → TakesPrefix old new bytes
part_is_front old new bytes part = let less = part.1 in (part.0, omega (arith, less), part.2)

pub front_of_output : (script : List ℕ) (old new : Option (List ℕ)) → StopsInOutput false old new script → HasNoStats script
    → (output : List ℕ) → IsOutput false script output
    → TakesPrefix old new output
front_of_output script old new (of_replies read spelled first) without output (replies {last = ends} other short spelled' are) =
    let same = one_script script other read spelled' spelled in
    let blocks : other.blocks ≡ first.first ++ first.others = ap (λ (r : Script). r.blocks) same ∙ first.parts in
    let all : AllByRecursion IsWithoutStats (first.first ++ first.others) = subst (AllByRecursion IsWithoutStats) blocks (without other spelled') in
    let whole = front full_sizes empty_grammar first.first first.others [] first.last [] ends first.output output all first.answers
    (subst (λ bs. AreAnswers false full_sizes empty_grammar bs [] ends output) blocks are) in
    front_of_part old new first.output output whole first.taken
front_of_output script old new (of_replies read spelled first) without output (refusal bad short is) = absurd (not_both script read bad spelled is)
front_of_output script old new (of_refusal bad is part) without output (replies read short spelled are) = absurd (not_both script read bad spelled is)
front_of_output script old new (of_refusal bad is part) without _ (refusal other short is') =
    subst (TakesPrefix old new) (ap bad_line (one_bad script bad other is is')) (part_is_front old new (bad_line bad) part)

-- nothing taken is a prefix of anything
pub nothing_taken : (old new : Option (List ℕ)) (output : List ℕ) → new ≡ old → TakesPrefix old new output
nothing_taken old new output same = (0, omega arith, same ∙ Takes-none old)

-- what holds of the bytes that are known holds of those that are told
pub if_known : (told : Option (List ℕ)) (bytes : List ℕ) (P : List ℕ → Type 0) → IsKnownAs told bytes → P bytes → IfSome told P
if_known None bytes P known holds = tt
if_known (Some xs) bytes P known holds = subst P (sym known) holds
