-- The split of a trail, whose parts are the labels of its links.
use Rattle.std.proofs.Common.{reverse, sym, ◌∙◌, ap, subst, Contains}
use Rattle.packed_spans.specs.Packed.{ArePartsOf}
use Rattle.rekers.specs.Steps.{labels_of}
use Rattle.rekers.proofs.parser.Parser.add_other_trail.Goals as goal

pub only_of-requires : goal.only_of-requires
only_of-requires c = λ link has. c.requires.links link (subst (λ ns. Contains ns link) c.links.ensures has)

pub fill-requires : goal.fill-requires
fill-requires c = λ link has. c.requires.links link (subst (λ ns. Contains ns link) c.links-2.ensures has)

pub add_split-requires-clause-parts : goal.add_split-requires-clause-parts
add_split-requires-clause-parts c =
    let p = c.args.self.now in
    subst (λ ns. ArePartsOf p.spans.spans ns) (sym (c.in-Some.ensures ∙ ap (λ ns. labels_of p.stacks.links (reverse ns)) c.links.ensures)) c.requires.parts

pub add_split-requires-2-clause-parts : goal.add_split-requires-2-clause-parts
add_split-requires-2-clause-parts c =
    let p = c.args.self.now in
    let parts = c.deref.ensures.value ∙ c.in_ok-fill.ensures ∙ ap (λ ns. labels_of p.stacks.links (reverse ns)) c.links-2.ensures in
    subst (λ ns. ArePartsOf p.spans.spans ns) (sym parts) c.requires.parts
