-- Each row of a grammar is that of one key, and each key has one row.
use Rattle.std.proofs.Common.{◌≡◌, ◌⊎◌, inl, inr, ℕ, suc, ◌≤◌, List, [], ◌∷◌, ◌++◌, length, map, refl, sym, ap, ◌∙◌, subst, arith}
use Rattle.std.proofs.Common.{flat_map, length-append}
use Rattle.std.specs.Cmp.Lexicographic.{pointwise}
use Rattle.forest.specs.declared.symbols.SymbolId.{SymbolId}
use Rattle.forest.specs.declared.rules.RuleId.{RuleId}
use Rattle.forest.proofs.Ascending.{contains_cases}
use Rattle.edit_log.specs.History.{Grammar}
use Rattle.item_sets.specs.declared.item.Item.{Item}
use Rattle.item_sets.specs.declared.expansion.Expansion.{Expansion}
use Rattle.item_sets.specs.Orders.{item_eq}
use Rattle.item_sets.proofs.ExpansionLaws.{one_moves, one_reductions}
use Rattle.isg_states.specs.Expansion.{Range}
use Rattle.isg_states.specs.Sameness.{key_eq, key_eq-decides}
use Rattle.isg_states.proofs.OneExpansion.{one_expansion}
use Rattle.pin_rule.specs.declared.content.Entry.{Entry}
use Rattle.pin_rule.specs.declared.sizes.Sizes.{Sizes}
use Rattle.pin_rule.specs.Lists.{In}
use Rattle.row_coding.specs.Words.{move_words, range_words, item_payload_words}
use Rattle.row_coding.specs.Rows.{Key, kernel, scan, key_words, row_words}
use Rattle.slot_store.specs.GraphAnswers.{AllDiffer}
use Rattle.graph_content.specs.Rows.{IsPayloadOf, IsRowOf}
use Rattle.graph_content.specs.Contents.{IsLogOfGrammar}
use Rattle.graph_content.proofs.RowKeys.{one_key_of}
use Rattle.live_graph.specs.Showing.{IsNarrow}
use Rattle.live_graph.specs.Growing.{HasAsMany, HasRowOf, IsFull}
use Rattle.live_graph.proofs.RowsOfKeys.{key_fits}
use Rattle.live_graph.proofs.SameKernels.{kernel_eq-decides}
use Rattle.sections.specs.HeldKeys.{AllFit, held_in, HoldsAsMany, FillsTable}
use Rattle.sections.proofs.RowCounts.{decided_by}

-- ---- one key or two

-- two keys are the same, or they are not
pub same_key : (a b : Key) → (a ≡ b) ⊎ (a ≡ b → ⊥)
same_key (kernel a) (kernel b) = elim (decided_by (pointwise item_eq a b) (kernel_eq-decides a b)) [
  | inl same ↦ inl (ap kernel same)
  | inr differs ↦ inr (λ e. let same : a ≡ b = cc e in differs same)
]
same_key (kernel a) (scan b) = inr (λ e. cc e)
same_key (scan a) (kernel b) = inr (λ e. cc e)
same_key (scan a) (scan b) = elim (decided_by (key_eq a b) (key_eq-decides a b)) [
  | inl same ↦ inl (ap scan same)
  | inr differs ↦ inr (λ e. let same : a ≡ b = cc e in differs same)
]

-- ---- one payload

coded : List (SymbolId × List Item) → List RuleId → List ℕ
coded moves reductions = length moves ∷ length reductions ∷ (flat_map move_words moves ++ map (λ rule. rule.0) reductions)

same_coded : (e f : Expansion) → e.moves ≡ f.moves → e.reductions ≡ f.reductions → item_payload_words e ≡ item_payload_words f
unfolding coded
same_coded e f moves reductions = ap (λ m. coded m e.reductions) moves ∙ ap (λ r. coded f.moves r) reductions

pub one_payload : (grammar : Grammar) (key : Key) (a b : List ℕ) → IsPayloadOf grammar key a → IsPayloadOf grammar key b → a ≡ b
one_payload grammar (kernel items) a b (e, expands, words) (f, also, others) =
    words ∙ same_coded e f (one_moves grammar.rules items e f expands also) (one_reductions grammar.rules items e f expands also) ∙ sym others
one_payload grammar (scan key) a b (e, expands, words) (f, also, others) =
    let same : e.ranges ≡ f.ranges = one_expansion grammar key e.ranges f.ranges expands also in
    words ∙ ap (λ (ranges : List Range). length ranges ∷ flat_map range_words ranges) same ∙ sym others

-- a key has one row
pub one_row : (grammar : Grammar) (key : Key) (row other : List ℕ) → IsRowOf grammar key row → IsRowOf grammar key other → row ≡ other
one_row grammar key row other is that =
    is.words ∙ ap (row_words key) (one_payload grammar key is.payload that.payload is.codes that.codes) ∙ sym that.words

-- a key with a row that is not too wide is narrow
pub narrow_by : (z : Sizes) (grammar : Grammar) (key : Key) (row : List ℕ) → IsRowOf grammar key row → length row ≤ z.width → IsNarrow z grammar key
narrow_by z grammar key row is room payload codes =
    let same : is.payload ≡ payload = one_payload grammar key is.payload payload is.codes codes in
    let words : row ≡ row_words key payload = is.words ∙ ap (row_words key) same in
    let long : length row ≡ length (row_words key payload) = ap length words in
    let parts = length-append (key_words key) payload in
    omega (arith, long, parts, room)

-- ---- the rows of a list

module _ (log : List Entry) (grammar : Grammar) (is_log : IsLogOfGrammar log grammar) where
  -- two keys of one row are the same
  pub one_key_for : (row : List ℕ) (key other : Key) → IsRowOf grammar key row → IsRowOf grammar other row → key ≡ other
  one_key_for row key other is that =
      one_key_of grammar row key other (key_fits log grammar is_log key is.names) (key_fits log grammar is_log other that.names) is that

  -- a key has a row there, or it has none
  pub held_or_not : (rows : List (List ℕ)) → AllFit grammar rows → (key : Key) → HasRowOf grammar key rows ⊎ (HasRowOf grammar key rows → ⊥)
  held_or_not [] fit key = inr (λ (row, never, is). never)
  held_or_not (first ∷ rows) fit key = let (its, is) = fit first (inl refl) in elim (same_key its key) [
    | inl same ↦ inl (first, inl refl, subst (λ k. IsRowOf grammar k first) same is)
    | inr differs ↦ elim (held_or_not rows (λ row there. fit row (inr there)) key) [
      | inl (row, there, has) ↦ inl (row, inr there, has)
      | inr lacks ↦ inr (λ (row, there, has). elim there [
        | inl same ↦ differs (one_key_for first its key is (subst (IsRowOf grammar key) same has))
        | inr later ↦ lacks (row, later, has)
      ])
    ]
  ]

  -- as many keys as rows
  keys_for : (rows : List (List ℕ)) → AllDiffer rows → AllFit grammar rows → HoldsAsMany (held_in grammar rows) (length rows)
  keys_for [] once fit = record { keys = []; many = refl; once = tt; known = λ key (k, less, at). absurd (omega (arith, less)) }
  keys_for (row ∷ rows) once fit =
      let (key, is) = fit row (inl refl) in
      let rest = keys_for rows once.1 (λ other there. fit other (inr there)) in
      record {
        keys = key ∷ rest.keys;
        many = ap suc rest.many;
        once = (
          λ among. let (other, there, has) = rest.known key among in
              once.0 (subst (λ r. In r rows) (one_row grammar key other row has is) there),
          rest.once,
        );
        known = λ other among. elim (contains_cases key rest.keys other among) [
          | inl same ↦ (row, inl refl, subst (λ k. IsRowOf grammar k row) same is)
          | inr later ↦ let (its, there, has) = rest.known other later in (its, inr there, has)
        ];
      }

  as_many_held : (rows : List (List ℕ)) (count : ℕ) → AllFit grammar rows → HasAsMany rows count → HoldsAsMany (held_in grammar rows) count
  as_many_held rows count fit has =
      let all = keys_for has.rows has.once (λ row there. fit row (has.known row there)) in
      record {
        keys = all.keys;
        many = all.many ∙ has.many;
        once = all.once;
        known = λ key among. let (row, there, is) = all.known key among in (row, has.known row there, is);
      }

  -- a graph that is full holds as many keys
  pub fills : (z : Sizes) (rows : List (List ℕ)) → AllFit grammar rows → IsFull z rows → FillsTable z (held_in grammar rows)
  fills z rows fit (inl places) = inl (as_many_held rows z.places fit places)
  fills z rows fit (inr all) = inr (as_many_held rows z.rows fit all)
