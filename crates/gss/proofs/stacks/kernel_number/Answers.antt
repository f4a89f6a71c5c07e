use Rattle.std.proofs.Common.{◌≡◌, List, [], ◌∷◌, ◌++◌, Some, slice_get, sym, ◌∙◌, subst}
use Rattle.std.proofs.lemmas.Result.{IfOk-weaker}
use Rattle.item_sets.specs.declared.item.Item.{Item}
use Rattle.gss.specs.Views.{AreKernelsDistinct}
use Rattle.gss.proofs.Chains.{get_left, get_new}
use Rattle.gss.proofs.KernelNumbers.{placed, pushed, distinct_more}
use Rattle.gss.proofs.stacks.kernel_number.Goals as goal

pub returns-in-Some-clause-there : goal.returns-in-Some-clause-there
returns-in-Some-clause-there c = IfOk-weaker c.number_of.result _ _
    (λ n is. subst (λ m. slice_get c.args.kernels.now.keys m ≡ Some c.args.kernel.now) (sym is)
    (placed c.args.kernels.now.keys c.args.kernel.now c.in-Some.place (sym c.in-Some.ensures.index))) c.number_of.ensures

keys_are : (c : goal.In_ok-insert) → c.insert.new.self.keys ≡ c.args.kernels.now.keys ++ c.args.kernel.now ∷ []
keys_are c = pushed c.args.kernels.now.keys c.insert.new.self.keys c.args.kernel.now c.in_ok-own.own c.get_index_of.result c.in_ok-own.ensures.cases
    c.in_ok-insert.ensures.keys c.get_index_of.ensures.found c.in_default.is

pub returns-clause-there : goal.returns-clause-there
returns-clause-there c =
    subst (λ (keys : List (List Item)). slice_get keys c.in_ok-number.number ≡ Some c.args.kernel.now) (sym (keys_are c))
    (subst (λ n. slice_get (c.args.kernels.now.keys ++ c.args.kernel.now ∷ []) n ≡ Some c.args.kernel.now) (sym (c.in_ok-number.ensures ∙ c.len.ensures.len))
    (get_new c.args.kernels.now.keys c.args.kernel.now))

pub returns-clause-distinct : goal.returns-clause-distinct
returns-clause-distinct c = subst (λ (keys : List (List Item)). AreKernelsDistinct keys) (sym (keys_are c))
    (distinct_more c.args.kernels.now.keys c.args.kernel.now c.get_index_of.result c.get_index_of.ensures.found c.in_default.is c.requires.distinct)

pub returns-clause-keeps : goal.returns-clause-keeps
returns-clause-keeps c = λ n kernel at. subst (λ (keys : List (List Item)). slice_get keys n ≡ Some kernel) (sym (keys_are c))
    (get_left c.args.kernels.now.keys (c.args.kernel.now ∷ []) n kernel at)
