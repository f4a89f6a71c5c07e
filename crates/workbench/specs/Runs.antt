-- What a run read and wrote.
use Rattle.std.specs.Prelude.{◌≡◌, ◌≤◌, ℕ, Bool, List, [], ◌++◌, length, Option}
use Rattle.bench_io.specs.Known.{Takes, IsKnownAs}
use Rattle.edit_log.specs.History.{empty_grammar}
use Rattle.pin_rule.specs.Layout.{full_sizes}
use Rattle.version_store.specs.declared.bench.Bench.{Bench}
use Rattle.version_store.specs.Meaning.{BenchMeaning}
use Rattle.script_text.specs.declared.command.Block.{Block}
use Rattle.script_text.specs.declared.command.Script.{Script}
use Rattle.script_text.specs.declared.bad_script.BadScript.{BadScript}
use Rattle.script_text.specs.declared.limits.TheConstants.{SCRIPT_LIMIT}
use Rattle.script_text.specs.Scripts.{SpellsScript, IsFirstBad}
use Rattle.replies.specs.Lines.{bad_line}
use Rattle.workbench.specs.Pieces.{TakesPrefix, TakesProperPrefix}
use Rattle.workbench.specs.Benches.{AreAnswers, AnswersOver, RanOver}
use Rattle.workbench.specs.Output.{IsOutput}

-- the sink took all the lines of these blocks, which ran over this bench
pub record AnswersAll (stats : Bool) (old new : Option (List ℕ)) (blocks : List Block) (bench : BenchMeaning) : Type 0 where
  pub output : List ℕ
  pub over : AnswersOver stats blocks bench output
  pub taken : Takes old new output

-- the sink took all the lines of these blocks, which ran over the bench that is there
pub record WritesAll {C : Type 0} (stats : Bool) (old new : Option (List ℕ)) (blocks : List Block) (bench : Option (Bench C)) : Type 0 where
  pub output : List ℕ
  pub over : RanOver stats blocks bench output
  pub taken : Takes old new output

-- the sink took a prefix of the lines of these blocks, at least up to where it stopped: a prefix of the lines of the first of them
pub record StopsInReplies (stats : Bool) (old new : Option (List ℕ)) (blocks : List Block) : Type 0 where
  pub first : List Block
  pub others : List Block
  pub parts : blocks ≡ first ++ others
  pub last : List (List ℕ)
  pub output : List ℕ
  pub answers : AreAnswers stats full_sizes empty_grammar first [] last output
  pub taken : TakesPrefix old new output

-- the sink took a prefix of the script's output, and of the line for a first bad line not all
pub data StopsInOutput (stats : Bool) (old new : Option (List ℕ)) (script : List ℕ) : Type 0 where
  of_replies : (read : Script) → SpellsScript script read → StopsInReplies stats old new read.blocks → StopsInOutput stats old new script
  of_refusal : (bad : BadScript) → IsFirstBad script bad → TakesProperPrefix old new (bad_line bad) → StopsInOutput stats old new script

-- the source was read to its end, and gave this script, which is not too long
pub record IsSourceRead (left_old left_new : Option (List ℕ)) (script : List ℕ) : Type 0 where
  pub given : IsKnownAs left_old script
  pub ended : IsKnownAs left_new []
  pub short : length script ≤ SCRIPT_LIMIT

-- the source was read to its end, its script is good, and the sink took exactly its output; its commands ran over the bench that is there
pub record RunsWhole {C : Type 0} (stats : Bool) (left_old left_new taken_old taken_new : Option (List ℕ)) (bench : Option (Bench C)) : Type 0 where
  pub script : List ℕ
  pub is_read : IsSourceRead left_old left_new script
  pub read : Script
  pub good : SpellsScript script read
  pub output : List ℕ
  pub is : IsOutput stats script output
  pub over : RanOver stats read.blocks bench output
  pub taken : Takes taken_old taken_new output

-- the source was read to its end, its script has a first bad line, and the sink took exactly the line for it
pub record RunsBad (left_old left_new taken_old taken_new : Option (List ℕ)) : Type 0 where
  pub script : List ℕ
  pub is_read : IsSourceRead left_old left_new script
  pub bad : BadScript
  pub first : IsFirstBad script bad
  pub taken : Takes taken_old taken_new (bad_line bad)

-- the source was read to its end, and the sink took a prefix of its script's output
pub record StopsEarly (stats : Bool) (left_old left_new taken_old taken_new : Option (List ℕ)) : Type 0 where
  pub script : List ℕ
  pub is_read : IsSourceRead left_old left_new script
  pub taken : StopsInOutput stats taken_old taken_new script
