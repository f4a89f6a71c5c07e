use Rattle.std.proofs.Common.{◌++◌, [], ◌∷◌, length, ◌<◌, ◌∙◌, ap, subst}
use Rattle.gss.specs.PlaceGraphs.{edge_of}
use Rattle.packed_spans.specs.declared.span.Span.{Span}
use Rattle.packed_spans.specs.declared.span.TheConstants.{TOKEN_PART}
use Rattle.rekers.specs.Answers.{kinds_of}
use Rattle.rekers.proofs.Growth.{kernel_at}
use Rattle.rekers.proofs.LinkedParsers.{own_sound, linked_to}
use Rattle.rekers.proofs.parser.Parser.own.Goals as goal

pub returns-clause-link : goal.returns-clause-link
returns-clause-link g c =
    let rules = (g.G.Graph.means c.args._graph.now).grammar.rules in
    let p = c.args.self.now in
    let links = c.in_ok-link.ensures.links ∙ ap (λ s. p.stacks.links ++ edge_of c.args.upper c.args.symbol c.args.lower s ∷ []) c.in_ok-span.ensures.number in
    linked_to rules (kinds_of c.args._tokens.now) p c.requires.sound c.args.lower c.args.upper c.args.symbol c.requires.linkable c.requires.upper
    c.requires.unlinked
    c.add_link.new.self p.states.kernels (length p.spans.spans) c.in_ok-link.link c.add_span.new.self.spans c.add_span.new.self.splits c.push.new.self.items
    c.in_ok-link.ensures.nodes links c.in_ok-link.ensures.number

pub returns-clause-sound : goal.returns-clause-sound
returns-clause-sound g c =
    let rules = (g.G.Graph.means c.args._graph.now).grammar.rules in
    let p = c.args.self.now in
    let links = c.in_ok-link.ensures.links ∙ ap (λ s. p.stacks.links ++ edge_of c.args.upper c.args.symbol c.args.lower s ∷ []) c.in_ok-span.ensures.number in
    let from = (kernel_at c.requires.linkable.node c.place-from.ensures).1 in
    let spans = c.in_ok-span.ensures.spans
    ∙ ap (λ n. let it : Span = record { symbol = c.args.symbol; from = n; to = p.level.at } in p.spans.spans ++ it ∷ []) from in
    let few : length p.spans.spans < TOKEN_PART = subst (λ n. n < TOKEN_PART) c.in_ok-span.ensures.number c.in_ok-span.ensures.below in
    let owns = c.in_ok-push.ensures.items ∙ ap (λ l. p.owners.items ++ l ∷ []) c.in_ok-link.ensures.number in
    (own_sound rules (kinds_of c.args._tokens.now) p c.requires.sound c.args.lower c.args.upper c.args.symbol c.requires.linkable c.requires.upper
    c.requires.unlinked
    c.add_link.new.self c.add_span.new.self c.push.new.self c.stays_flat-self.result c.requires.nonterminal c.requires.first few c.in_ok-link.ensures.nodes
    links spans
    c.in_ok-span.ensures.splits owns c.stays_flat-self.ensures).0

pub returns-clause-grows : goal.returns-clause-grows
returns-clause-grows g c =
    let rules = (g.G.Graph.means c.args._graph.now).grammar.rules in
    let p = c.args.self.now in
    let links = c.in_ok-link.ensures.links ∙ ap (λ s. p.stacks.links ++ edge_of c.args.upper c.args.symbol c.args.lower s ∷ []) c.in_ok-span.ensures.number in
    let from = (kernel_at c.requires.linkable.node c.place-from.ensures).1 in
    let spans = c.in_ok-span.ensures.spans
    ∙ ap (λ n. let it : Span = record { symbol = c.args.symbol; from = n; to = p.level.at } in p.spans.spans ++ it ∷ []) from in
    let few : length p.spans.spans < TOKEN_PART = subst (λ n. n < TOKEN_PART) c.in_ok-span.ensures.number c.in_ok-span.ensures.below in
    let owns = c.in_ok-push.ensures.items ∙ ap (λ l. p.owners.items ++ l ∷ []) c.in_ok-link.ensures.number in
    (own_sound rules (kinds_of c.args._tokens.now) p c.requires.sound c.args.lower c.args.upper c.args.symbol c.requires.linkable c.requires.upper
    c.requires.unlinked
    c.add_link.new.self c.add_span.new.self c.push.new.self c.stays_flat-self.result c.requires.nonterminal c.requires.first few c.in_ok-link.ensures.nodes
    links spans
    c.in_ok-span.ensures.splits owns c.stays_flat-self.ensures).1
