use Rattle.std.proofs.Common.{◌≡◌, ◌≤◌, length, sym, subst, rules}
use Rattle.forest.specs.Derivation.{AreTerminals}
use Rattle.edit_log.specs.declared.limits.TheConstants.{TOKEN_LIMIT}
use Rattle.edit_log.specs.History.{Grammar}
use Rattle.isg_scan.specs.declared.scan_error.ScanError.TheVariants.{NoMemory}
use Rattle.live_graph.proofs.Rises.{rise_join}
use Rattle.rekers.specs.Answers.{kinds_of}
use Rattle.replies.specs.Replies.{IsParse, scan, parse}
use Rattle.replies.proofs.ReplySteps.{refused_for}
use Rattle.sections.specs.Asked.{AsksTokens}
use Rattle.replies.proofs.TokenKinds.{few_tokens, terminal_tokens}
use Rattle.sections.proofs.AskedKeys.{unless_memory, scan_refused, text_asks}
use Rattle.sections.proofs.texts.parse_over.Goals as goal

pub returns-in-Err-clause-parsed : goal.returns-in-Err-clause-parsed
returns-in-Err-clause-parsed g c =
    let other : c.in-Err.error ≡ NoMemory → ⊥ = λ e. search rules in
    scan (refused_for (g.G.Graph.means c.args.graph.now).grammar c.args.text.now c.in-Err.error other c.in-Err.ensures.refused)

pub parse_tokens-requires-clause-few : goal.parse_tokens-requires-clause-few
parse_tokens-requires-clause-few g c =
    subst (λ found. length found ≤ TOKEN_LIMIT) (sym c.deref.ensures.value)
    (few_tokens (g.G.Graph.means c.args.graph.now).grammar c.args.text.now c.in-Ok.tokens.items c.in-Ok.ensures.tokens)

pub parse_tokens-requires-clause-terminals : goal.parse_tokens-requires-clause-terminals
parse_tokens-requires-clause-terminals g c =
    let grammar = (g.G.Graph.means c.args.graph.now).grammar in
    subst (λ (scanned : Grammar). AreTerminals scanned.rules (kinds_of c.deref.result.now)) (sym c.in-Ok.ensures.grammar)
    (subst (λ found. AreTerminals grammar.rules (kinds_of found)) (sym c.deref.ensures.value)
    (terminal_tokens grammar c.args.text.now c.in-Ok.tokens.items c.requires.well_formed c.in-Ok.ensures.tokens))

pub returns-clause-parsed : goal.returns-clause-parsed
returns-clause-parsed g c =
    let grammar = (g.G.Graph.means c.args.graph.now).grammar in
    parse c.in-Ok.ensures.tokens
    (subst (λ found. IsParse grammar.rules (kinds_of found) c.in_ok-outcome.outcome) c.deref.ensures.value
    (subst (λ (scanned : Grammar). IsParse scanned.rules (kinds_of c.deref.result.now) c.in_ok-outcome.outcome) c.in-Ok.ensures.grammar
    c.in_ok-outcome.ensures.parsed))

pub returns-in-Err-clause-asks : goal.returns-in-Err-clause-asks
returns-in-Err-clause-asks g c =
    let grammar = (g.G.Graph.means c.args.graph.now).grammar in
    let other : c.in-Err.error ≡ NoMemory → ⊥ = λ e. search rules in
    scan_refused grammar c.args.text.now (g.G.Graph.means c.args.graph.now) (g.G.Graph.means c.scan.new.graph) c.in-Err.ensures.kernels
    (unless_memory c.scan.result c.in-Err.error _ c.in-Err.is other c.scan.ensures.asked) c.in-Err.error
    (refused_for grammar c.args.text.now c.in-Err.error other c.in-Err.ensures.refused)

pub returns-clause-asks : goal.returns-clause-asks
returns-clause-asks g c =
    let graph = g.G.Graph.means c.args.graph.now in
    let scanned = g.G.Graph.means c.scan.new.graph in
    let parsed = g.G.Graph.means c.parse_tokens.new.graph in
    text_asks graph.grammar c.args.text.now graph scanned c.in-Ok.ensures.kernels c.in-Ok.ensures.asked parsed c.in-Ok.tokens.items
    c.in-Ok.ensures.tokens c.in-Ok.ensures.grammar c.in_ok-outcome.ensures.scans c.in_ok-outcome.outcome
    (subst (λ found. AsksTokens (kinds_of found) c.in_ok-outcome.outcome scanned parsed) c.deref.ensures.value c.in_ok-outcome.ensures.asks)

pub returns-clause-steps : goal.returns-clause-steps
returns-clause-steps g c =
    rise_join (g.G.Graph.means c.args.graph.now) (g.G.Graph.means c.scan.new.graph) (g.G.Graph.means c.parse_tokens.new.graph) c.args.steps.now
    c.scan.new.steps c.parse_tokens.new.steps c.in-Ok.ensures.steps c.in_ok-outcome.ensures.steps
