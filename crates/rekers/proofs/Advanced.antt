-- A parser that goes on to the next level is sound.
use Rattle.std.proofs.Common.{◌≡◌, ℕ, ◌+◌, inl, inr, List, [], ◌∷◌, ◌++◌, length, sym, ◌∙◌, ap, subst, arith, slice_get, Some, length-append, true}
use Rattle.std.specs.declared.alloc.Global.{Global}
use Rattle.std.specs.declared.vec.Vec.{Vec}
use Rattle.std.proofs.lemmas.Option.{slice_get_within}
use Rattle.forest.specs.declared.symbols.SymbolId.{SymbolId}
use Rattle.forest.specs.declared.rules.Rule.{Rule}
use Rattle.gss.specs.PlaceGraphs.{place_with}
use Rattle.rekers.specs.declared.parser.Parser.{Parser}
use Rattle.rekers.specs.Found.{found}
use Rattle.rekers.specs.Sound.{IsSoundParser, IsLevel, IsOpener, AreOpeners}
use Rattle.rekers.proofs.Growth.{node_below}
use Rattle.rekers.proofs.NewNodes.{old_or_last}
use Rattle.rekers.proofs.PlacedNodes.{highest}

module _ (rules : List Rule) (tokens : List SymbolId) (p : Parser) (sound : IsSoundParser rules tokens p) where
  next_is_level : IsLevel (found p) (p.level.at + 1) (length p.stacks.nodes) (length p.stacks.links)
  next_is_level = record {
    nodes_within = omega arith;
    links_within = omega arith;
    nodes_before = λ node place e l. omega (arith, highest (found p) p.level.at p.level.first_node p.level.first_link sound.level node place e);
    nodes_here = λ node place e l. absurd (omega (arith, l, slice_get_within p.stacks.nodes node place e));
    links_before = λ link edge e l. node_below (sound.graph.links link edge e).ends.upper_is;
    links_here = λ link edge e l. absurd (omega (arith, l, slice_get_within p.stacks.links link edge e));
  }

  new_opener : IsOpener rules (found p) (p.level.at + 1) (length p.stacks.nodes)
  new_opener = record {
    within = omega arith;
    behind = λ other place e l. absurd (omega (arith, l, slice_get_within p.stacks.nodes other place e));
    none_before = λ other kernel n l opens. absurd (omega (
      arith,
      highest (found p) p.level.at p.level.first_node p.level.first_link sound.level other (place_with n.state (p.level.at + 1)) n.there,
    ));
  }

  next_openers : (openers : List ℕ) → openers ≡ p.openers.items ++ length p.stacks.nodes ∷ [] → AreOpeners rules (found p) openers (p.level.at + 1)
  next_openers openers is = record {
    size = omega (arith, ap length is, length-append p.openers.items (length p.stacks.nodes ∷ []), sound.openers.size);
    each = λ i node e. elim (old_or_last p.openers.items (length p.stacks.nodes) i node (subst (λ os. slice_get os i ≡ Some node) is e)) [
      | inl old ↦ sound.openers.each i node old
      | inr last ↦ subst (λ n. IsOpener rules (found p) i n) (sym last.1)
          (subst (λ k. IsOpener rules (found p) k (length p.stacks.nodes)) (sym (last.0 ∙ sound.openers.size)) new_opener)
    ];
  }

  pub advanced : (openers : Vec ℕ Global) → openers.items ≡ p.openers.items ++ length p.stacks.nodes ∷ []
      → IsSoundParser rules tokens (record p {
        openers = openers;
        level = record { at = p.level.at + 1; first_node = length p.stacks.nodes; first_link = length p.stacks.links };
        is_flat = true;
      })
  advanced openers is = record {
    numbered = sound.numbered;
    terminals = sound.terminals;
    expanded = sound.expanded;
    graph = sound.graph;
    level = next_is_level;
    openers = next_openers openers.items is;
    flat = λ on link edge e here. absurd (omega (arith, here, slice_get_within p.stacks.links link edge e));
    spans_below = sound.spans_below;
  }

  -- the same, where the numbers of nodes and links were counted
  pub advanced_to : (openers : Vec ℕ Global) (nodes links : ℕ) → nodes ≡ length p.stacks.nodes → links ≡ length p.stacks.links
      → openers.items ≡ p.openers.items ++ nodes ∷ []
      → IsSoundParser rules tokens (record p {
        openers = openers;
        level = record { at = p.level.at + 1; first_node = nodes; first_link = links };
        is_flat =
            true;
      })
  advanced_to openers nodes links counts_nodes counts_links is =
      subst (λ n. IsSoundParser rules tokens (record p {
        openers = openers;
        level = record { at = p.level.at + 1; first_node = n; first_link = links };
        is_flat = true;
      }))
      (sym counts_nodes)
      (subst (λ n. IsSoundParser rules tokens (record p {
        openers = openers;
        level = record { at = p.level.at + 1; first_node = length p.stacks.nodes; first_link = n };
        is_flat = true;
      })) (sym counts_links) (advanced openers (is ∙ ap (λ n. p.openers.items ++ n ∷ []) counts_nodes)))
