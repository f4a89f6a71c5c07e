-- What a parser answers where all levels are done.
use Rattle.std.proofs.Common.{◌≡◌, ℕ, suc, ◌+◌, inl, inr, List, [], ◌∷◌, ◌++◌, length, sym, ◌∙◌, ap, subst, arith, slice_get, Some}
use Rattle.std.proofs.lemmas.Option.{slice_get_within}
use Rattle.std.proofs.lemmas.List.{length-map}
use Rattle.forest.specs.declared.symbols.Token.{Token}
use Rattle.forest.specs.declared.symbols.TheConstants.{START}
use Rattle.forest.specs.declared.rules.Rule.{Rule}
use Rattle.forest.specs.Derivation.{IsSentence}
use Rattle.gss.specs.declared.stack_graph.Place.{Place}
use Rattle.gss.specs.declared.stack_graph.Edge.{Edge}
use Rattle.gss.specs.PlaceGraphs.{LeadsToBy}
use Rattle.gss.specs.Numbers.{HasNone}
use Rattle.packed_spans.specs.declared.span.Span.{Span}
use Rattle.packed_spans.specs.declared.span.TheConstants.{TOKEN_PART}
use Rattle.packed_spans.specs.Packed.{PackedSplit, Packed}
use Rattle.packed_spans.specs.Complete.{IsPartAt, IsComplete}
use Rattle.rekers.specs.declared.parser.Parser.{Parser}
use Rattle.rekers.specs.States.{IsLastViable}
use Rattle.rekers.specs.Size.{IsSize}
use Rattle.rekers.specs.Answers.{kinds_of}
use Rattle.rekers.specs.Found.{found}
use Rattle.rekers.specs.Reductions.{IsWorked}
use Rattle.rekers.specs.Sound.{IsSoundParser, IsLevel}
use Rattle.rekers.specs.Steps.{AreShifted}
use Rattle.rekers.proofs.Trails.{part_cases}
use Rattle.rekers.proofs.Whole.{IsDone}
use Rattle.rekers.proofs.FoundSpans.{span_of}
use Rattle.rekers.proofs.Complete.{complete, complete_token, last_viable, no_sentence, root_part}
use Rattle.rekers.proofs.FoundSizes.{size}

-- all levels are done
pub record IsAtEnd (rules : List Rule) (tokens : List Token) (parser : Parser) : Type 0 where
  pub sound : IsSoundParser rules (kinds_of tokens) parser
  pub worked : IsWorked rules (found parser) (length parser.stacks.links) (length parser.stacks.nodes)
  pub shifted : AreShifted rules (kinds_of tokens) (found parser) parser.level.at
  pub at : parser.level.at ≡ length tokens

module _ (rules : List Rule) (tokens : List Token) (parser : Parser) (end : IsAtEnd rules tokens parser) where
  at_text : parser.level.at ≡ length (kinds_of tokens)
  at_text = end.at ∙ sym (length-map tokens (λ token. token.kind))

  pub is_done : IsDone rules (kinds_of tokens) (found parser)
  is_done = record {
    numbered = end.sound.numbered;
    graph = end.sound.graph;
    worked = end.worked;
    shifted = subst (λ n. AreShifted rules (kinds_of tokens) (found parser) n) at_text end.shifted;
  }

  last_level : IsLevel (found parser) (length (kinds_of tokens)) parser.level.first_node parser.level.first_link
  last_level = subst (λ n. IsLevel (found parser) n parser.level.first_node parser.level.first_link) at_text end.sound.level

  start_part : (link : ℕ) → LeadsToBy parser.stacks.links 0 START parser.level.first_link link → (edge : Edge) → slice_get parser.stacks.links link ≡ Some edge
      → IsPartAt rules (kinds_of tokens) parser.spans.spans START 0 edge.label (length (kinds_of tokens))
  start_part link leads edge e =
      root_part rules (kinds_of tokens) (found parser) is_done parser.level.first_node parser.level.first_link last_level link leads edge e

  -- the label of the link of START over the text is the root, if it is a span
  pub rooted : (link : ℕ) → LeadsToBy parser.stacks.links 0 START parser.level.first_link link → (edge : Edge) → slice_get parser.stacks.links link ≡ Some edge
      → (edge.label ≡ TOKEN_PART → ⊥) → IsComplete rules (kinds_of tokens) parser.spans edge.label
  rooted link leads edge e other = elim (part_cases (start_part link leads edge e)) [
    | inl t ↦ absurd (other t.3)
    | inr s ↦ complete rules (kinds_of tokens) (found parser) is_done edge.label s.1
  ]

  -- and else START is the one token, and a span for it is the root
  pub rooted_token : (link : ℕ) → LeadsToBy parser.stacks.links 0 START parser.level.first_link link → (edge : Edge)
      → slice_get parser.stacks.links link ≡ Some edge → edge.label ≡ TOKEN_PART → (packed : Packed)
      → packed.spans ≡ parser.spans.spans ++ span_of START 0 parser.level.at ∷ [] → packed.splits ≡ parser.spans.splits
      → IsComplete rules (kinds_of tokens) packed (length parser.spans.spans)
  rooted_token link leads edge e is packed spans splits = elim (part_cases (start_part link leads edge e)) [
    | inl t ↦
        let packed_by : List Span → List PackedSplit → Packed = λ ss ps. record { spans = ss; splits = ps } in
        let same : packed ≡ packed_by (parser.spans.spans ++ span_of START 0 (length (kinds_of tokens)) ∷ []) parser.spans.splits =
        ap (λ ss. packed_by ss packed.splits) spans
        ∙ ap (λ ps. packed_by (parser.spans.spans ++ span_of START 0 parser.level.at ∷ []) ps) splits
        ∙ ap (λ n. packed_by (parser.spans.spans ++ span_of START 0 n ∷ []) parser.spans.splits) at_text in
        subst (λ p. IsComplete rules (kinds_of tokens) p (length parser.spans.spans)) (sym same)
        (complete_token rules (kinds_of tokens) (found parser) is_done t.0 t.1 t.2)
    | inr s ↦
        let within = slice_get_within parser.spans.spans edge.label _ s.1 in
        absurd (omega (arith, is, within, end.sound.spans_below))
  ]

  -- where no link of START is there, START does not derive the text, and the last node is where a state is reached last
  pub not_there : HasNone (LeadsToBy parser.stacks.links 0 START parser.level.first_link) → (last : ℕ) (place : Place)
      → slice_get parser.stacks.nodes last ≡ Some place → length parser.stacks.nodes ≡ suc last
      → (IsSentence rules (kinds_of tokens) → ⊥) × IsLastViable rules (kinds_of tokens) place.at
  not_there none last place e count = (
    no_sentence rules (kinds_of tokens) (found parser) is_done parser.level.first_node parser.level.first_link last_level none,
    last_viable rules (kinds_of tokens) (found parser) is_done last place e count,
  )

  pub found_size : IsSize rules (kinds_of tokens) (length parser.stacks.links + length parser.spans.splits)
  found_size = size rules (kinds_of tokens) (found parser) is_done end.sound.spans_below
