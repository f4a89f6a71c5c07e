use Rattle.std.proofs.Common.{◌≡◌, ◌-◌, take, ◌∙◌, ◌∷◌, ◌++◌, [], None, replicate, sym, ap, subst}
use Rattle.std.specs.Prelude.{vec_len}
use Rattle.indexmap.specs.IndexSet.{insert_key}
use Rattle.isg_states.specs.declared.scan_key.ScanKey.TheVariants.{Start}
use Rattle.isg_states.specs.Sameness.{key_eq}
use Rattle.isg_scan.specs.States.{KnowsNothingYet}
use Rattle.isg_scan.proofs.StateTables.{knows_start}
use Rattle.isg_scan.proofs.states.States.new.Goals as goal

pub returns : goal.returns
returns c =
    let keys : c.insert.new.self.keys ≡ Start ∷ [] = c.in_ok-insert.ensures.keys ∙ ap (λ list. insert_key key_eq list Start) c.new-keys.ensures.empty in
    let accepted : c.push.new.self.items ≡ None ∷ [] = c.in_ok-push.ensures.items ∙ ap (λ list. list ++ None ∷ []) c.new-accepted.ensures.items in
    let table : c.resize.new.self.items ≡ replicate 256 0 = c.in_ok-resize.ensures.items ∙ ap (λ list. take 256 list ++ replicate (256 - vec_len
    c.new-table.result) 0) c.new-table.ensures.items ∙ ap (λ n. replicate (256 - n) 0) c.new-table.ensures.len in
    subst (λ k. KnowsNothingYet k c.push.new.self.items c.resize.new.self.items) (sym keys) (subst (λ a. KnowsNothingYet (Start ∷ []) a
    c.resize.new.self.items) (sym accepted)
    (subst (KnowsNothingYet (Start ∷ []) (None ∷ [])) (sym table) knows_start))
