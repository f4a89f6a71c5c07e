-- The split of a trail, whose parts are the labels of its links.
use Rattle.std.proofs.Common.{reverse, sym, ◌∙◌, ap, subst, Contains}
use Rattle.packed_spans.specs.Packed.{ArePartsOf}
use Rattle.rekers.specs.Steps.{labels_of}
use Rattle.rekers.proofs.parser.Parser.add_trail.Goals as goal

pub pair_of-requires : goal.pair_of-requires
pair_of-requires c = λ link has. c.requires.links link (subst (λ ns. Contains ns link) c.links.ensures has)

pub add_split-requires-clause-parts : goal.add_split-requires-clause-parts
add_split-requires-clause-parts c =
    let p = c.args.self.now in
    subst (λ ns. ArePartsOf p.spans.spans ns) (sym (c.in-Some.ensures ∙ ap (λ ns. labels_of p.stacks.links (reverse ns)) c.links.ensures)) c.requires.parts
