use Rattle.std.proofs.Common.{◌≡◌, ◌<◌, List, map, length, sym, ap, ◌∙◌, subst, arith}
use Rattle.slot_store.specs.declared.pass.Pass.{Pass}
use Rattle.slot_store.specs.Means.{pass_of}
use Rattle.version_store.specs.Means.{editor_of}
use Rattle.version_store.specs.Meaning.{EditorMeaning}
use Rattle.version_store.specs.Gathering.{AreOfTable, taken_in_all}
use Rattle.version_store.proofs.TakenIn.{rest_of_table, one_of_table, first_taken, none_left}
use Rattle.version_store.proofs.editor.Editor.take_in_all.Goals as goal

pub remove-pass-requires : goal.remove-pass-requires
remove-pass-requires g c = let a = c.loop-taken.invariant.left in let lt = c.loop-taken-test.true in let n = c.len-taken-end.ensures in omega arith

pub take_in-requires : goal.take_in-requires
take_in-requires g c = let l = c.loop-taken in let r = c.remove-pass in let m = editor_of l.self in
    let some : 0 < length l.passes.items = (let a = l.invariant.left in let lt = c.loop-taken-test.true in let n = c.len-taken-end.ensures in omega arith) in
    let e = first_taken l.passes.items r.result r.new.self.items some r.ensures.value r.ensures.items in
    one_of_table m (pass_of r.result) (map pass_of r.new.self.items)
    (subst (λ (xs : List (Pass _)). AreOfTable m (map pass_of xs)) e l.invariant.of_table)

pub loop-taken-preserved : goal.loop-taken-preserved
loop-taken-preserved g c = let l = c.loop-taken in let r = c.remove-pass in let m = editor_of l.self in let ps = map pass_of r.new.self.items in
    let some : 0 < length l.passes.items = (let a = l.invariant.left in let lt = c.loop-taken-test.true in let n = c.len-taken-end.ensures in omega arith) in
    let e = first_taken l.passes.items r.result r.new.self.items some r.ensures.value r.ensures.items in record {
      left = (let a = l.invariant.left in let n = ap length e in omega arith);
      same = ap (taken_in_all ps) c.take_in.ensures ∙ ap (λ (xs : List (Pass _)). taken_in_all (map pass_of xs) m) (sym e) ∙ l.invariant.same;
      of_table = subst (λ (k : EditorMeaning). AreOfTable k ps) (sym c.take_in.ensures)
          (rest_of_table m (pass_of r.result) ps (subst (λ (xs : List (Pass _)). AreOfTable m (map pass_of xs)) e l.invariant.of_table));
    }

pub returns : goal.returns
returns g c = let l = c.loop-taken in
    let none : length l.passes.items ≡ 0 = (let a = l.invariant.left in let out = c.loop-taken-test.false in let n = c.len-taken-end.ensures in omega arith) in
    sym (ap (λ (xs : List (Pass _)). taken_in_all (map pass_of xs) (editor_of l.self)) (none_left l.passes.items none)) ∙ l.invariant.same
