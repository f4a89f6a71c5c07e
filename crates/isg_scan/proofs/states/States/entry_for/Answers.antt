use Rattle.std.proofs.Common.{◌≡◌, ◌+◌, [], ◌∷◌, ◌++◌, length, replicate, is_some, slice_get, sym, ap, ◌∙◌, subst}
use Rattle.std.specs.Prelude.{if◌then◌else◌, vec_len}
use Rattle.edit_log.proofs.Texts.{slice_get-append}
use Rattle.isg_scan.specs.States.{IsScanTable, AreStates, KnowsStates, LeadsToState}
use Rattle.isg_scan.proofs.StateTables.{if_ok_more, placed, last_at, resized, table_row, state_more}
use Rattle.isg_scan.proofs.states.States.entry_for.Goals as goal

pub returns-in-Some-clause-entry : goal.returns-in-Some-clause-entry
returns-in-Some-clause-entry c =
    if_ok_more c.entry_to.result (λ entry. entry ≡ c.in-Some.number + 2) (LeadsToState c.args.self.now.keys.keys c.args.key)
    (λ entry is. (c.in-Some.number, is, placed c.args.self.now.keys.keys c.args.key c.in-Some.number (sym c.in-Some.ensures.index))) c.entry_to.ensures

-- the key is the last one now
pushed : (c : goal.In_ok-insert) → c.insert.new.self.keys ≡ c.args.self.now.keys.keys ++ c.args.key ∷ []
pushed c = c.in_ok-insert.ensures.keys ∙ ap (λ b. if b then c.args.self.now.keys.keys else c.args.self.now.keys.keys ++ c.args.key ∷ []) (sym
    c.get_index_of.ensures.found ∙ ap is_some c.in_default.is)

pub returns-clause-entry : goal.returns-clause-entry
returns-clause-entry c = (
  length c.args.self.now.keys.keys,
  c.in_ok-entry.ensures ∙ ap (λ n. n + 2) c.len.ensures.len,
  ap (λ list. slice_get list (length c.args.self.now.keys.keys)) (pushed c) ∙ last_at c.args.self.now.keys.keys c.args.key,
)

pub returns-clause-keeps : goal.returns-clause-keeps
returns-clause-keeps c = λ number key there. ap (λ list. slice_get list number) (pushed c) ∙ slice_get-append c.args.self.now.keys.keys (c.args.key ∷ [])
    number key there

pub returns-clause-knows : goal.returns-clause-knows
returns-clause-knows c = λ asked is.
    let grammar = c.args.grammar.now.grammar in
    let keys = c.args.self.now.keys.keys in
    let table : c.resize.new.self.items ≡ c.args.self.now.table.items ++ replicate 256 0 = c.in_ok-resize.ensures.items
    ∙ resized c.args.self.now.table.items (c.len-2.result + 256) 256 (vec_len c.args.self.now.table) c.args.self.now.table.ok.0 (ap (λ n. n + 256)
    c.len-2.ensures) in
    let states : AreStates grammar (keys ++ c.args.key ∷ []) c.push.new.self.items =
    subst (AreStates grammar (keys ++ c.args.key ∷ [])) (sym c.in_ok-push.ensures.items) (state_more grammar keys c.args.self.now.accepted.items c.args.key
    c.accepted_by.result c.requires.states c.requires.marks c.accepted_by.ensures) in
    let entries : IsScanTable grammar (keys ++ c.args.key ∷ []) asked c.resize.new.self.items =
    subst (IsScanTable grammar (keys ++ c.args.key ∷ []) asked) (sym table) (table_row grammar keys asked c.args.key c.args.self.now.table.items is) in
    subst (λ list. KnowsStates grammar asked list c.push.new.self.items c.resize.new.self.items) (sym (pushed c))
    (record { states = states; entries = entries })
